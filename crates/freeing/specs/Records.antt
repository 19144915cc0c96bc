-- An input line of the program of a class, as a tablet's bytes are sent there.
use Rattle.std.specs.Prelude.{ℕ, List, ◌∷◌, ◌++◌}
use Rattle.paper.specs.Byte.{code, decimal}

-- the number of the tablet, a space, and its line
unfoldable pub addressed : (t : ℕ) → List ℕ → List ℕ
addressed t s = decimal t ++ (code " " ∷ s)
