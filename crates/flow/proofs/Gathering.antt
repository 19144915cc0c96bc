-- A line that was gathered, or that lies in the input, is heard as all that came of it.
use Prim.Native.Nat.{ℕ, ◌+◌, ◌-◌, ◌*◌, ◌^◌, ◌<◌}
use mathlib.Core.Path.{◌≡◌, refl, sym, ◌∙◌, ap}
use mathlib.Core.Bool.{Bool, true, false}
use mathlib.Core.List.{List, [], ◌∷◌, ◌++◌}
use native.Mathlib.Omega.{arith}
use lib.ListN.{length, take, drop, length-take}
use lib.Seq.{drop-drop}
use lib.Dec.{eqb}
use mir.Syntax.{w64}
use mir.Val.{Fits}
use borrow.Author.Tests.{eqb-true, eq-eqb}
use Rattle.paper.specs.Byte.{between, every}
use Rattle.paper.specs.Command.{is_shown}
use Rattle.paper.specs.Line.{lf, kept}
use Rattle.paper.specs.Bench as P
use Rattle.paper.specs.Program.{enough}
use Rattle.paper.proofs.Law.{if_true, if_false}
use Rattle.paper.proofs.Test.{either, clash}
use Rattle.paper.proofs.Dropped.{kept_append, kept_stays, stays_kept}
use Rattle.paper.proofs.Long.{hear_first}
use Rattle.command.specs.View.{width}
use Rattle.text.specs.Place.{from}
use Rattle.line.specs.Shown.{clear_part}
use Rattle.line.proofs.Control.{clear_take, clear_shown}
use Rattle.form.specs.Walk.{first_line}
use Rattle.wait.specs.Waiting.{Waits, Gathered, line_by}
use Rattle.flow.specs.Fill.{Clear}

-- LF is not shown
shown_inside : (b : ℕ) → is_shown b ≡ true → eqb b lf ≡ false
unfolding is_shown between
shown_inside b y = either (eqb b lf) (λ e. let is = eqb-true b lf e in clash (rw is at y) refl) (λ n. n)

-- what is kept stays
pub kept_twice : (s : List ℕ) → kept (kept s) ≡ kept s
kept_twice s = kept_stays (kept s) (stays_kept s)

-- no dropped byte waits, and none is put behind
pub clean_more : (w s : List ℕ) → kept w ≡ w → kept (w ++ kept s) ≡ w ++ kept s
clean_more w s e = kept_append w (kept s) ∙ rw (e, kept_twice s)

-- a line is heard as what is kept of it
pub hear_kept : (b : P.Bench) (s : List ℕ) → P.hear width enough b s ≡ P.hear width enough b (kept s)
unfolding P.hear
hear_kept b s = rw (kept_twice s)

-- the first 257 bytes of a clean line are heard as the line
pub hear_front : (b : P.Bench) (w : List ℕ) → kept w ≡ w → P.hear width enough b (take 257 w) ≡ P.hear width enough b w
hear_front b w e = ap (λ x. P.hear width enough b (take 257 x)) (sym e) ∙ hear_first width enough b w

-- where no byte waits, nothing came of the line
none_waits : (w old : List ℕ) → Waits w old 0 → w ≡ []
none_waits [] old h = refl
none_waits (b ∷ w) old h = absurd (omega (arith, h.counts, length-take 257 (b ∷ w)))

-- the line where it lies
pub heard_as : (b : P.Bench) (w old : List ℕ) (len : ℕ) (rest new : List ℕ) (n : ℕ) → Waits w old len → kept w ≡ w → Gathered 257 old len rest (eqb len 0) new n
    → P.hear width enough b (line_by (eqb len 0) rest (take n new)) ≡ P.hear width enough b (w ++ kept rest)
unfolding line_by
heard_as b w old len rest new n h e g =
    either (eqb len 0)
    (λ y.
    let none : Waits w old 0 = rw (eqb-true len 0 y) at h in
    ap (P.hear width enough b) (ap (λ b. line_by b rest (take n new)) y) ∙ hear_kept b rest ∙ ap (λ x. P.hear width enough b (x ++ kept rest)) (sym (none_waits w old none)))
    (λ m.
    ap (P.hear width enough b) (ap (λ b. line_by b rest (take n new)) m ∙ ((g.more m).comes w h).front)
    ∙ hear_front b (w ++ kept rest) (clean_more w rest e))

-- a line that is known to be clear is
pub line_shown : (len : ℕ) (rest gathered said : List ℕ) (shown : Bool) → said ≡ line_by (eqb len 0) rest gathered → (shown ≡ true → (len ≡ 0) × (every is_shown rest ≡ true)) → shown ≡ true → every is_shown said ≡ true
unfolding line_by
line_shown len rest gathered said shown e c y = let z = c y in rw (e, eq-eqb len 0 z.0) z.1

-- the first line is its clear part, and what is left of it behind that
first_clear : (s : List ℕ) → length (first_line s) ≡ length (clear_part s) + length (first_line (drop (length (clear_part s)) s))
unfolding first_line clear_part
first_clear [] = refl
first_clear (b ∷ s) =
    either (is_shown b)
    (λ y.
    let more = first_clear s in
    let line : first_line (b ∷ s) ≡ b ∷ first_line s = if_false (eqb b lf) _ _ (shown_inside b y) in
    let part : clear_part (b ∷ s) ≡ b ∷ clear_part s = if_true (is_shown b) _ _ y in
    rw (line, part) (omega arith))
    (λ n. let none : clear_part (b ∷ s) ≡ [] = if_false (is_shown b) _ _ n in rw none (omega arith))

-- so its end is found from there on
pub clear_ends : (text : List ℕ) (at stop end : ℕ) → stop ≡ at + length (clear_part (from text at)) → end ≡ stop + length (first_line (from text stop)) → end ≡ at + length (first_line (from text at))
unfolding from
clear_ends text at stop end e f =
    let behind : drop stop text ≡ drop (length (clear_part (drop at text))) (drop at text) = rw e (sym (drop-drop (length (clear_part (drop at text))) at text)) in
    omega (arith, e, f, first_clear (drop at text), ap (λ x. length (first_line x)) behind)

-- and the line is clear where that is its end and nothing of it waits
pub clear_cut : (text : List ℕ) (at len stop end : ℕ) → stop ≡ at + length (clear_part (from text at)) → len ≡ 0 → Clear text at len end (eqb stop end)
unfolding from
clear_cut text at len stop end e z y =
    let same : end - at ≡ length (clear_part (drop at text)) = omega (arith, e, eqb-true stop end y) in
    (z, rw (same, clear_take (drop at text)) (clear_shown (drop at text)))

-- the place behind a byte of the input is a number of 64 bits
pub place_fits : (size end : ℕ) → size * 1 < 2 ^ 63 → end < size → Fits w64 (end + 1)
place_fits size end h k = record { fits = omega arith }
