-- `clear_bytes` walks to the first control byte: the clear part from `i` on ends where the whole one does.
use Prim.Native.Nat.{◌+◌}
use mathlib.Core.Path.{◌≡◌}
use lib.ListN.{length}
use Rattle.text.specs.Place.{from}
use Rattle.line.specs.Shown.{clear_part}
use Rattle.line.proofs.clear.clear_bytes.Given as goal

abbrev pub invariant-loop-i : goal.invariant-loop-i
invariant-loop-i l = l.at + length (clear_part (from l.text l.at)) ≡ l.i + length (clear_part (from l.text l.i))
