-- `clear_end` walks to the first control byte, four bytes a turn: each of the four is a step of the same walk.
use Prim.Native.Nat.{◌+◌, ◌-◌, ◌≤◌}
use mathlib.Core.Path.{◌≡◌}
use lib.ListN.{length}
use Rattle.text.specs.Place.{from}
use Rattle.line.specs.Shown.{clear_part}
use Rattle.line.proofs.clear.clear_end.Given as goal

abbrev pub invariant-loop-i : goal.invariant-loop-i
invariant-loop-i l = (l.at + length (clear_part (from l.text l.at)) ≡ l.i + length (clear_part (from l.text l.i))) × (l.i ≤ length l.text)

abbrev pub decreases-loop-i : goal.decreases-loop-i
decreases-loop-i l = length l.text - l.i
