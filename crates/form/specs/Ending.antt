-- How a line that draws ends, in the code's words.
use Rattle.std.specs.Prelude.{ℕ, ◌+◌, Bool, true, false, Option, Some, None}
use Rattle.paper.specs.Command as P
use Rattle.form.specs.Plan.{Shows, nothing, value}
use Rattle.form.specs.declared.ending.Ending.{Ending}

-- a value in place of the bytes that name it: alone it opens its quote, and else the quote before it goes too
unfoldable pub value_ending : P.Value → Bool → Ending
value_ending (P.counter n) true = record { tail = 2; value = n; opens = true }
value_ending (P.counter n) false = record { tail = 3; value = n; opens = false }
value_ending (P.variable n) true = record { tail = 3; value = 10 + n; opens = true }
value_ending (P.variable n) false = record { tail = 4; value = 10 + n; opens = false }

unfoldable pub ending_of : Shows → Option Ending
ending_of nothing = None
ending_of (value alone v) = Some (value_ending v alone)

-- how many bytes give way to the value, and its number
unfoldable pub tail_of : Option Ending → ℕ
tail_of None = 0
tail_of (Some e) = e.tail

unfoldable pub number_in : Option Ending → ℕ
number_in None = 0
number_in (Some e) = e.value
