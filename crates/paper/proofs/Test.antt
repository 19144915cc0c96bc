-- Laws of tests: lists of tests one by one, what a test says of numbers, and a case for each answer of a test.
use mathlib.Core.Path.{◌≡◌, refl, sym}
use mathlib.Core.Bool.{Bool, true, false, true≢false, false≢true}
use mathlib.Core.List.{List, [], ◌∷◌, ◌++◌}
use native.Mathlib.Omega.{arith}
use borrow.Author.Tests.{leb-true, leb-false, ltb-true, ltb-false, eqb-true, lt-ltb, le-leb}
use Rattle.paper.specs.Command.{all, all_of}
use Rattle.paper.proofs.Law.{and_left, and_right}

-- the tests of a list that all pass, one by one
abbrev pub Passed : List Bool → Type 0
Passed [] = Unit
Passed (t ∷ ts) = (t ≡ true) × Passed ts

-- and those of several lists
abbrev pub Held : List (List Bool) → Type 0
Held [] = Unit
Held (p ∷ ps) = Passed p × Held ps

-- a list of tests that passes, test by test
pub passed : (ts : List Bool) → all ts ≡ true → Passed ts
unfolding all
passed [] e = tt
passed (t ∷ ts) e = (and_left t _ e, passed ts (and_right t _ e))

-- and several lists
pub held : (ps : List (List Bool)) → all_of ps ≡ true → Held ps
unfolding all_of
held [] e = tt
held (p ∷ ps) e = (passed p (and_left (all p) _ e), held ps (and_right (all p) _ e))

-- two lists put together
pub held_left : (ps qs : List (List Bool)) → Held (ps ++ qs) → Held ps
held_left [] qs h = tt
held_left (p ∷ ps) qs h = (h.0, held_left ps qs h.1)

pub held_right : (ps qs : List (List Bool)) → Held (ps ++ qs) → Held qs
held_right [] qs h = h
held_right (p ∷ ps) qs h = held_right ps qs h.1

-- omega with tests read as facts
pub ruleset tests = (arith, leb-true, leb-false, ltb-true, ltb-false, eqb-true, lt-ltb, le-leb)

-- a test that passes and fails
pub clash {ℓ} : {A : Type ℓ} {t : Bool} → t ≡ true → t ≡ false → A
clash {t = true} p q = absurd (true≢false q)
clash {t = false} p q = absurd (false≢true p)

-- whatever a test says
pub either {ℓ} : {A : Type ℓ} (t : Bool) → (t ≡ true → A) → (t ≡ false → A) → A
either true yes' no' = yes' refl
either false yes' no' = no' refl

-- two tests that pass together are one
pub agree : (t u : Bool) → (t ≡ true → u ≡ true) → (u ≡ true → t ≡ true) → t ≡ u
agree true u there back = sym (there refl)
agree false true there back = back refl
agree false false there back = refl
