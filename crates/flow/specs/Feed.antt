-- What a piece of input gives behind the bytes that wait.
use Rattle.std.specs.Prelude.{ℕ, List, [], ◌∷◌, ◌++◌, eqb}
use Rattle.paper.specs.Byte.{when◌then◌else◌}
use Rattle.paper.specs.Line.{lf, is_dropped}

-- a line that has ended and the input behind it, or the bytes that wait then
pub data Piece : Type 0 where
  line : (w rest : List ℕ) → Piece
  waits : (w : List ℕ) → Piece

-- a piece of input, byte by byte, behind the bytes that wait
unfoldable pub feed : List ℕ → List ℕ → Piece
feed w [] = waits w
feed w (b ∷ s) = when eqb b lf then line w s else when is_dropped b then feed w s else feed (w ++ (b ∷ [])) s
