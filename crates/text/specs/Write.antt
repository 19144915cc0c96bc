-- Writing into a lent buffer: which bytes stand where, and that no other byte changes.
use Rattle.std.specs.Prelude.{ℕ, ◌+◌, ◌-◌, ◌≤◌, ◌≡◌, ◌||◌, List, [], ◌∷◌, ◌++◌, length, take, drop, replicate, eqb}
use Rattle.paper.specs.Byte.{when◌then◌else◌}
use Rattle.paper.specs.Line.{quote, backslash}

-- a buffer after some bytes were written at a place
unfoldable pub written : List ℕ → ℕ → List ℕ → List ℕ
written old at bytes = take at old ++ bytes ++ drop (at + length bytes) old

-- bytes were written from a place up to the next, within the buffer, and nothing else was touched
pub record Writes (old : List ℕ) (at : ℕ) (bytes : List ℕ) (new : List ℕ) (next : ℕ) : Type 0 where
  pub ends : next ≡ at + length bytes
  pub room : next ≤ length old
  pub is : new ≡ written old at bytes

-- what goes before a byte of a string in normal form
unfoldable pub mark_of : ℕ → List ℕ
mark_of b = when eqb b quote || eqb b backslash then (backslash ∷ []) else []

-- a list with zeros behind it, up to a length: what memory holds that was filled from the front
unfoldable pub padded : ℕ → List ℕ → List ℕ
padded size xs = xs ++ replicate (size - length xs) 0
