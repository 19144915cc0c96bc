-- The check of a form in the code's words.
use Rattle.std.specs.Prelude.{ℕ, ◌+◌, ◌≡◌, Bool, true, List, [], ◌∷◌, ◌++◌, length, get_or, ltb, Option, Some, None}
use Rattle.std.proofs.Math.Option as M
use Rattle.paper.specs.Byte.{when◌then◌else◌}
use Rattle.paper.specs.Command as P
use Rattle.paper.specs.Command.{all}
use Rattle.paper.specs.Form.{asked, len_of, defined, rules}

-- where the len of a value is noted: those of a kind from a first place on, with numbers up to a last; any other has no place
unfoldable pub place_in : (first last : ℕ) → ℕ → Option ℕ
place_in first last n = when ltb last n then None else Some (first + n)

-- the counters first and then the variables
unfoldable pub slot_of : P.Value → Option ℕ
slot_of (P.counter n) = place_in 0 9 n
slot_of (P.variable n) = place_in 10 15 n

-- the len that is noted for a value
unfoldable pub len_in : List (Option ℕ) → Option ℕ → Option ℕ
len_in lens None = None
len_in lens (Some slot) = get_or lens slot None

-- the len that the definition of a value has, if there is one
unfoldable pub len_noted : M.Option P.Define → Option ℕ
len_noted M.none = None
len_noted (M.some d) = Some (len_of d)

-- the lens that were noted are those of the definitions above
pub record Agrees (lens : List (Option ℕ)) (above : List P.Define) : Type 0 where
  pub whole : length lens ≡ 26
  pub noted : (v : P.Value) → len_in lens (slot_of v) ≡ len_noted (defined v above)

-- a line is judged by the paper's rules, and if it keeps them the lens are then those of its definition too
pub record Judges (k : ℕ) (above : List P.Define) (l : P.FormLine) (r : Bool) (lens : List (Option ℕ)) : Type 0 where
  pub judged : r ≡ all (rules k above l)
  pub notes : r ≡ true → Agrees lens (above ++ asked (l ∷ []))

-- the line that refusal 9 names, if there is one
unfoldable pub line_number : M.Option ℕ → Option ℕ
line_number M.none = None
line_number (M.some n) = Some n
