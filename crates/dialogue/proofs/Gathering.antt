-- A line that was gathered, or that lies in the input, leads to what all that came of it leads to.
use Prim.Native.Nat.{ℕ, zero, suc, ◌-◌}
use mathlib.Core.Path.{◌≡◌, refl, sym, ◌∙◌, ap}
use mathlib.Core.Bool.{Bool, true, false}
use mathlib.Core.List.{List, [], ◌∷◌, ◌++◌}
use native.Mathlib.Omega.{arith}
use lib.ListN.{length, take, drop, length-take}
use lib.Dec.{eqb}
use borrow.Author.Tests.{eqb-true}
use Rattle.paper.specs.Byte.{between, every}
use Rattle.paper.specs.Command.{is_shown}
use Rattle.paper.specs.Line.{is_dropped, kept}
use Rattle.paper.specs.Class.{Class}
use Rattle.paper.proofs.Law.{if_true, if_false, and_right}
use Rattle.paper.proofs.Test.{either, clash}
use Rattle.paper.proofs.Text.{every_weaker}
use Rattle.paper.proofs.Dropped.{stays, kept_stays, stays_kept}
use Rattle.command.specs.View.{width}
use Rattle.flow.proofs.Cutting.{rest_part}
use Rattle.flow.proofs.Gathering.{clean_more}
use Rattle.talk.proofs.First.{call_first}
use Rattle.dialogue.specs.Emit.{line_reply}
use Rattle.wait.specs.Waiting.{Gathered, line_by}
use Rattle.dialogue.specs.Waiting.{Waits}

-- a byte that is shown is not dropped
shown_stays : (b : ℕ) → is_shown b ≡ true → stays b ≡ true
unfolding is_shown between stays is_dropped
shown_stays b y =
    either (eqb b 0x0d)
    (λ e. let is = eqb-true b 0x0d e in clash (rw is at y) refl)
    (λ n. either (eqb b 0x1a) (λ e. let is = eqb-true b 0x1a e in clash (rw is at y) refl) (λ m. rw (n, m)))

-- where no byte waits, nothing came of the line
none_waits : (w old : List ℕ) → Waits w old 0 → w ≡ []
none_waits [] old h = refl
none_waits (b ∷ w) old h = absurd (omega (arith, h.counts, length-take 263 (b ∷ w)))

-- the line where it lies
pub line_leads : (c : Class) (w old : List ℕ) (len : ℕ) (rest : List ℕ) (shown : Bool) (new : List ℕ) (n : ℕ) → Waits w old len → kept w ≡ w
    → (shown ≡ true → (len ≡ 0) × (every is_shown rest ≡ true)) → Gathered 263 old len rest shown new n → line_reply c (line_by shown rest (take n new)) ≡ line_reply c (w ++ kept rest)
unfolding line_by line_reply
line_leads c w old len rest shown new n h e clear g =
    either shown
    (λ y.
    let whole : kept rest ≡ rest = kept_stays rest (every_weaker is_shown stays shown_stays rest (clear y).1) in
    let none : w ≡ [] = none_waits w old (let zero-waits = (clear y).0 in rw zero-waits at h) in
    ap (line_reply c) (ap (λ b. line_by b rest (take n new)) y ∙ rw (none, whole)))
    (λ m.
    let clean : kept (w ++ kept rest) ≡ w ++ kept rest = clean_more w rest e in
    let all_stay : every stays (w ++ kept rest) ≡ true = rw clean at (stays_kept (w ++ kept rest)) in
    ap (line_reply c) (ap (λ b. line_by b rest (take n new)) m ∙ ((g.more m).comes w h).front) ∙ call_first width c (w ++ kept rest) all_stay)

-- a line that is known to be clear is
pub line_shown : (len : ℕ) (rest gathered said : List ℕ) (shown : Bool) → said ≡ line_by shown rest gathered → (shown ≡ true → (len ≡ 0) × (every is_shown rest ≡ true)) → shown ≡ true → every is_shown said ≡ true
unfolding line_by
line_shown len rest gathered said shown e c y = rw (e, y) (c y).1

-- and so is what a tablet sends in it
shown_from : (n : ℕ) (s : List ℕ) → every is_shown s ≡ true → every is_shown (drop n s) ≡ true
unfolding every
shown_from zero s e = e
shown_from (suc n) [] e = e
shown_from (suc n) (b ∷ s) e = shown_from n s (and_right (is_shown b) (every is_shown s) e)

pub shown_rest : (n : ℕ) (s : List ℕ) → every is_shown s ≡ true → every is_shown (take (length s - n) (drop n s)) ≡ true
shown_rest n s e = rw (rest_part s n) (shown_from n s e)
