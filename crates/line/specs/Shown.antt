-- The bytes of a text up to a control byte.
use Rattle.std.specs.Prelude.{ℕ, List, [], ◌∷◌}
use Rattle.paper.specs.Byte.{when◌then◌else◌}
use Rattle.paper.specs.Command.{is_shown}

-- the bytes before the first that is none of 20H to FFH, or all where there is none
unfoldable pub clear_part : List ℕ → List ℕ
clear_part [] = []
clear_part (b ∷ s) = when is_shown b then (b ∷ clear_part s) else []
