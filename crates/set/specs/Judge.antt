-- Whether an answer fits a definition of a plan, and what is kept of it.
use Rattle.std.specs.Prelude.{ℕ, ◌≡◌, List, Option, Some, None}
use Rattle.paper.specs.Byte.{when◌then◌else◌, every}
use Rattle.paper.specs.Line.{is_digit}
use Rattle.paper.specs.Command as P
use Rattle.paper.specs.Set.{fits, amount}
use Rattle.set.specs.Answers.{first_of, second_of}
use Rattle.set.specs.Taking.{Asking}
use Rattle.set.specs.declared.answer.Kept.{Kept}

-- the number that digits write
unfoldable pub amount_in : List ℕ → Option ℕ
amount_in a = when every is_digit a then Some (amount 0 a) else None

-- an answer to a definition: its two numbers, if it fits
unfoldable pub judged_as : P.Define → List ℕ → ℕ → Option Kept
judged_as d a given = when fits d a then Some (record { first = first_of d a given; second = second_of d a given }) else None

-- the answer to definition k of a plan is judged so
pub record Judges (plan : List ℕ) (k : ℕ) (a : List ℕ) (given : ℕ) (r : Option Kept) : Type 0 where
  pub judges : (t : Asking plan k) → r ≡ judged_as t.define a given
