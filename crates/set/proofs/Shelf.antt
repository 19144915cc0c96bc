-- The answers to 01's form, as memory holds them: those of its variable stand from 40 on, those of its counter at the front.
use Prim.Native.Nat.{ℕ}
use Prim.Native.Char.{code}
use mathlib.Core.Path.{◌≡◌, refl}
use mathlib.Core.List.{List, [], ◌∷◌}
use lib.ListN.{take, drop}
use Rattle.paper.specs.Byte.{bytes}
use Rattle.paper.specs.Command as P
use Rattle.paper.specs.Form.{value_of}
use Rattle.paper.specs.Set.{amount}
use Rattle.form.specs.Plan.{number_of, kind_of, step_size, four_at}
use Rattle.set.specs.Answers.{answers_text, first_of, second_of, with_answer, values_from, values_in}

abbrev defines : List P.Define
defines =
    P.varying 0 20 (code "N") (bytes "Pupil:")
    ∷ P.counting 0 3 (code "N") (P.up 1) (bytes "First:")
    ∷ []

abbrev given : List (List ℕ)
given = bytes "Ann" ∷ bytes "007" ∷ []

shelf : (answers_text given ≡ bytes "Ann007")
    × (take 4 (values_in defines given) ≡ 7 ∷ 3 ∷ 0 ∷ 1 ∷ [])
    × (take 4 (drop 40 (values_in defines given)) ≡ 0 ∷ 3 ∷ 2 ∷ 0 ∷ [])
unfolding answers_text values_in values_from with_answer four_at first_of second_of number_of value_of kind_of step_size amount bytes
shelf = (refl, refl, refl)
