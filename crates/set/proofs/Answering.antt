-- The answers so far: none at first, one more with each that fits, and all of them fill the form. For the callers of this crate.
use Prim.Native.Nat.{ℕ}
use mathlib.Core.Path.{◌≡◌, ◌∙◌, ap}
use mathlib.Core.Bool.{true, false, false≢true}
use mathlib.Core.List.{List, [], ◌∷◌, ◌++◌, append_assoc, append-nil}
use Rattle.paper.specs.Command as P
use Rattle.paper.specs.Set.{fits}
use Rattle.paper.specs.State.{fitting}
use Rattle.paper.proofs.Law.{if_true, if_false, and_left, and_right}
use Rattle.paper.proofs.Test.{either}
use Rattle.set.specs.Answers.{answers_text, first_of, second_of}
use Rattle.set.specs.Judge.{judged_as}
use Rattle.std.specs.Prelude.{Option, Some, None}
use Rattle.set.specs.declared.answer.Kept.{Kept}

-- an answer more stands behind the others
pub answers_append : (given : List (List ℕ)) (a : List ℕ) → answers_text (given ++ (a ∷ [])) ≡ answers_text given ++ a
unfolding answers_text
answers_append [] a = append-nil a
answers_append (b ∷ given) a = rw (answers_append given a, append_assoc)

-- an answer more that fits a definition more
fitting_append : (ds : List P.Define) (given : List (List ℕ)) (d : P.Define) (a : List ℕ) → fitting ds given ≡ true → fits d a ≡ true → fitting (ds ++ (d ∷ [])) (given ++ (a ∷ [])) ≡ true
unfolding fitting
fitting_append [] [] d a e f = rw f
fitting_append [] (b ∷ given) d a e f = absurd (false≢true e)
fitting_append (x ∷ ds) [] d a e f = absurd (false≢true e)
fitting_append (x ∷ ds) (b ∷ given) d a e f = rw (and_left (fits x b) _ e) (fitting_append ds given d a (and_right (fits x b) _ e) f)

-- an answer of which something is kept fits, and it is its two numbers
pub judged_kept : (d : P.Define) (a : List ℕ) (given : ℕ) (kept : Kept) → Some kept ≡ judged_as d a given
    → (fits d a ≡ true) × (kept.first ≡ first_of d a given) × (kept.second ≡ second_of d a given)
unfolding judged_as
judged_kept d a given kept e =
    either (fits d a)
    (λ y. let is : Some kept ≡ Some (record { first = first_of d a given; second = second_of d a given }) = e ∙ if_true _ _ _ y in
    let same : kept ≡ record { first = first_of d a given; second = second_of d a given } = cc in
    (y, ap (λ x. x.first) same, ap (λ x. x.second) same))
    (λ n. let is : ◌≡◌ {A = Option Kept} (Some kept) None = e ∙ if_false _ _ _ n in absurd cc)

-- and one that is unfit does not
pub judged_unfit : (d : P.Define) (a : List ℕ) (given : ℕ) → ◌≡◌ {A = Option Kept} None (judged_as d a given) → fits d a ≡ false
unfolding judged_as
judged_unfit d a given e =
    either (fits d a)
    (λ y. let is : ◌≡◌ {A = Option Kept} None (Some (record { first = first_of d a given; second = second_of d a given })) = e ∙ if_true _ _ _ y in absurd cc)
    (λ n. n)
