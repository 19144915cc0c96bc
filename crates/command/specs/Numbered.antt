-- The number of a refusal.
use Rattle.std.specs.Prelude.{ℕ, List, [], ◌∷◌}
use Rattle.paper.specs.Refusal.{Refusal, figures}

-- the first of some numbers
unfoldable pub first : List ℕ → ℕ
first [] = 0
first (n ∷ more) = n

-- the first that a refusal gives is its own
unfoldable pub number_of : Refusal → ℕ
number_of r = first (figures r)
