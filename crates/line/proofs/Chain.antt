-- What the answer of a number's reader says of what the paper reads.
use mathlib.Core.Path.{◌≡◌, sym, ◌∙◌}
use mathlib.Core.List.{List}
use Prim.Native.Nat.{ℕ}
use Rattle.std.specs.Prelude.{Option, Some, None}
use Rattle.paper.specs.Line.{Got, got, bad}
use Rattle.text.specs.Place.{from, said, said_by, Says}
use Rattle.text.specs.declared.read.Parsed.{Parsed}

-- an answer that has a number says that the reader gives it
pub number_got : (s : List ℕ) (g : Got ℕ) (a : Option (Parsed ℕ)) (p : Parsed ℕ) → Says s g a → a ≡ Some p → g ≡ got p.value (from s p.next)
unfolding said said_by
number_got s g a p h e = sym h.says ∙ rw e

-- an answer without one says that the reader gives nothing
pub number_bad : (s : List ℕ) (g : Got ℕ) (a : Option (Parsed ℕ)) → Says s g a → a ≡ None → g ≡ bad
unfolding said said_by
number_bad s g a h e = sym h.says ∙ rw e
