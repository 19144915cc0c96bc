-- The answers to a form as memory holds them: their bytes, and four numbers for each value.
use Rattle.std.specs.Prelude.{ℕ, ◌+◌, ◌*◌, List, [], ◌∷◌, ◌++◌, length, replicate}
use Rattle.paper.specs.Command as P
use Rattle.paper.specs.Form.{value_of}
use Rattle.paper.specs.Set.{amount}
use Rattle.form.specs.Plan.{number_of, kind_of, step_size, four_at}

-- all answers, one behind the other
unfoldable pub answers_text : List (List ℕ) → List ℕ
answers_text [] = []
answers_text (a ∷ more) = a ++ answers_text more

-- the first number that is kept of an answer: a counter's amount, or where a variable's answer begins
unfoldable pub first_of : P.Define → List ℕ → ℕ → ℕ
first_of (P.counting n len letter by prompt) a place = amount 0 a
first_of (P.varying n len letter prompt) a place = place

-- the second: how many digits a counter was given with, or where a variable's answer ends
unfoldable pub second_of : P.Define → List ℕ → ℕ → ℕ
second_of (P.counting n len letter by prompt) a place = length a
second_of (P.varying n len letter prompt) a place = place + length a

-- with a definition and its answer, which stands at a place of the answers
unfoldable pub with_answer : List ℕ → P.Define → List ℕ → ℕ → List ℕ
with_answer values d a place =
    four_at values (number_of (value_of d) * 4) (first_of d a place) (second_of d a place) (kind_of d) (step_size d)

-- with more of them, the first of which stands at a place
unfoldable pub values_from : ℕ → List ℕ → List P.Define → List (List ℕ) → List ℕ
values_from place values [] given = values
values_from place values (d ∷ ds) [] = values
values_from place values (d ∷ ds) (a ∷ more) = values_from (place + length a) (with_answer values d a place) ds more

-- the values of definitions with their answers
unfoldable pub values_in : List P.Define → List (List ℕ) → List ℕ
values_in ds given = values_from 0 (replicate 104 0) ds given
