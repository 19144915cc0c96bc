-- How many print: a step of a tablet changes the count by that tablet alone. From Idle and from Answering no line leads to Printing.
use Prim.Native.Nat.{ℕ, zero, suc, ◌+◌, ◌≤◌}
use mathlib.Core.Path.{◌≡◌, refl, sym, ◌∙◌, ap}
use mathlib.Core.Bool.{Bool, false}
use mathlib.Core.List.{List, [], ◌∷◌, ◌++◌}
use mathlib.Core.Option.{Option, none, some}
use native.Mathlib.Omega.{arith}
use lib.ListN.{length, drop}
use lib.Dec.{leb, eqb}
use borrow.Author.Tests.{eqb-true, eqb-false}
use Rattle.paper.specs.Line.{kept, long, control}
use Rattle.paper.specs.Command.{Define, FormLine, Filing, start, finish, inform, recall, delete, empty, new, keep, file, ask, print}
use Rattle.paper.specs.Read.{Reading, command, unread, read}
use Rattle.paper.specs.Form.{Form, is_some, find, asked, listing}
use Rattle.paper.specs.Set.{fits}
use Rattle.paper.specs.Bench.{idle, answering, Outcome, outcome, done, replied, refuse, after_refusal, opened_with, recalled, filed, in_idle, answered_of, answered, in_answering, obeyed, heard, hear}
use Rattle.paper.specs.Class.{Class, prints, count_below, thirty, printers}
use Rattle.paper.proofs.Law.{by_test}
use Rattle.paper.proofs.Test.{either}
use Rattle.paper.proofs.Count.{one_if}
use Rattle.command.specs.View.{width}
use Rattle.tablets.specs.Calls.{recounted}

-- an outcome that leaves nobody printing
abbrev Silent : Outcome → Type 0
Silent o = prints o.next.session ≡ false

module _ (room : ℕ) (fs : List Form) where
  opened_silent : (ls : List FormLine) (ds : List Define) → prints (opened_with ls ds) ≡ false
  unfolding opened_with prints
  opened_silent ls [] = refl
  opened_silent ls (d ∷ ds) = refl

  recalled_silent : (o : Option (List FormLine)) → Silent (recalled fs o)
  unfolding recalled refuse done outcome after_refusal prints
  recalled_silent none = refl
  recalled_silent (some ls) = opened_silent ls (asked ls)

  filed_silent : (g : Filing) → Silent (filed room fs g)
  unfolding filed replied refuse done outcome after_refusal prints
  filed_silent (start name) = by_test Silent (is_some (find name fs)) _ _ (λ y. refl) (λ n. refl)
  filed_silent finish = refl
  filed_silent inform = by_test Silent (leb (length (listing fs)) room) _ _ (λ y. refl) (λ n. refl)
  filed_silent (recall name) = recalled_silent (find name fs)
  filed_silent (delete name) = refl

  read_silent : (r : Reading) → Silent (obeyed fs idle (in_idle room fs) r)
  unfolding obeyed in_idle refuse done outcome after_refusal prints
  read_silent (command empty) = refl
  read_silent (command new) = refl
  read_silent (command (keep line)) = refl
  read_silent (command (file g)) = filed_silent g
  read_silent (command ask) = refl
  read_silent (command (print n c)) = refl
  read_silent (unread r) = refl

  -- IDLE
  pub idle_silent : (s : List ℕ) → Silent (hear width room (record { forms = fs; session = idle }) s)
  unfolding hear heard
  idle_silent s = read_silent (read width (kept s))

  answer_silent : (ls : List FormLine) (given : List (List ℕ)) (ds : List Define) → prints (answered_of ls given ds) ≡ false
  unfolding answered_of prints
  answer_silent ls given [] = refl
  answer_silent ls given (d ∷ ds) = refl

  answered_silent : (ls : List FormLine) (given : List (List ℕ)) (s : List ℕ) (ds : List Define) → Silent (answered fs ls given s ds)
  unfolding answered refuse done outcome after_refusal prints
  answered_silent ls given s [] = refl
  answered_silent ls given s (d ∷ ds) = by_test Silent (fits d s) _ _ (λ y. answer_silent ls (given ++ (s ∷ [])) ds) (λ n. refl)

  -- ANSWERING
  pub answering_silent : (ls : List FormLine) (given : List (List ℕ)) (s : List ℕ) → Silent (hear width room (record { forms = fs; session = answering ls given }) s)
  unfolding hear heard in_answering refuse outcome after_refusal prints
  answering_silent ls given s =
      by_test Silent (long (kept s)) _ _ (λ y. refl)
      (λ n. by_test Silent (control (kept s)) _ _ (λ y. refl) (λ m. answered_silent ls given (kept s) (drop (length given) (asked ls))))

-- no more are counted than asked
count_within : (n : ℕ) (test : ℕ → Bool) → count_below n test ≤ n
unfolding count_below
count_within zero test = omega arith
count_within (suc n) test =
    let less = count_within n test in
    by_test (λ m. m ≤ suc n) (test n) _ _ (λ y. omega arith) (λ m. omega arith)

pub printers_within : (c : Class) → printers c ≤ 30
unfolding printers thirty
printers_within c = count_within 30 (λ k. prints (c.tablet k).session)

-- the count by the tags of a tablet before and behind its step
pub recounts : (after before was is : ℕ) (a b : Bool) → eqb was 6 ≡ a → eqb is 6 ≡ b → after + one_if a ≡ before + one_if b → recounted before was is ≡ after
unfolding recounted one_if
recounts after before was is a b p q e =
    by_test (λ n. n ≡ after) (eqb was is) _ _
    (λ y. let same : a ≡ b = sym p ∙ ap (λ n. eqb n 6) (eqb-true was is y) ∙ q in let counts : after + one_if b ≡ before + one_if b = rw same at e in omega arith)
    (λ n. by_test (λ n. n ≡ after) (eqb was 6) _ _
    (λ y. let other : eqb is 6 ≡ false = either (eqb is 6) (λ z. absurd (eqb-false was is n (eqb-true was 6 y ∙ sym (eqb-true is 6 z)))) (λ m. m) in
    let counts : after + 1 ≡ before + 0 = rw (sym p ∙ y, sym q ∙ other) at e in omega arith)
    (λ m. by_test (λ n. n ≡ after) (eqb is 6) _ _
    (λ y. let counts : after + 0 ≡ before + 1 = rw (sym p ∙ m, sym q ∙ y) at e in omega arith)
    (λ z. let counts : after + 0 ≡ before + 0 = rw (sym p ∙ m, sym q ∙ z) at e in omega arith)))
