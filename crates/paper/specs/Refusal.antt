-- 'Refusals by number': a word for each refusal with its number, and the answer to a call.
use Rattle.std.specs.Prelude.{ℕ, List, [], ◌∷◌, ◌++◌, length, drop}

-- the refusals in the order of their numbers; the ninth names a line of the form
pub data Refusal : Type 0 where
  too_long : Refusal
  control_byte : Refusal
  not_now : Refusal
  unknown : Refusal
  malformed : Refusal
  out_of_range : Refusal
  overfull : Refusal
  is_spoiled : Refusal
  unsound : (line : ℕ) → Refusal
  name_taken : Refusal
  no_room : Refusal
  absent : Refusal
  unfit : Refusal
  overrun : Refusal
  too_short : Refusal
  not_printing : Refusal
  others_collect : Refusal
  no_tablet : Refusal
  held_open : Refusal

-- the numbers that a refusal gives: its own, and for 9 the form's line
unfoldable pub figures : Refusal → List ℕ
figures too_long = 1 ∷ []
figures control_byte = 2 ∷ []
figures not_now = 3 ∷ []
figures unknown = 4 ∷ []
figures malformed = 5 ∷ []
figures out_of_range = 6 ∷ []
figures overfull = 7 ∷ []
figures is_spoiled = 8 ∷ []
figures (unsound line) = 9 ∷ line ∷ []
figures name_taken = 10 ∷ []
figures no_room = 11 ∷ []
figures absent = 12 ∷ []
figures unfit = 13 ∷ []
figures overrun = 14 ∷ []
figures too_short = 15 ∷ []
figures not_printing = 16 ∷ []
figures others_collect = 17 ∷ []
figures no_tablet = 18 ∷ []
figures held_open = 19 ∷ []

-- the answer to a call: accepted, with the bytes that it writes to the lent buffer, or refused
pub data Answer : Type 0 where
  accepted : List ℕ → Answer
  refused : Refusal → Answer

-- a lent buffer after a call: the bytes of an accepted one stand at its front, and nothing else is touched
unfoldable pub lent : List ℕ → Answer → List ℕ
lent buffer (accepted bytes) = bytes ++ drop (length bytes) buffer
lent buffer (refused r) = buffer
