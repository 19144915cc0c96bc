-- `line_end` walks to the first LF: the end of the line from `i` on is the end of the whole line.
use Prim.Native.Nat.{◌+◌, ◌-◌}
use mathlib.Core.Path.{◌≡◌}
use lib.ListN.{length}
use Rattle.text.specs.Place.{from}
use Rattle.form.specs.Walk.{first_line}
use Rattle.form.proofs.walk.line_end.Given as goal

abbrev pub invariant-loop-i : goal.invariant-loop-i
invariant-loop-i l = l.at + length (first_line (from l.text l.at)) ≡ l.i + length (first_line (from l.text l.i))

abbrev pub decreases-loop-i : goal.decreases-loop-i
decreases-loop-i l = length l.text - l.i
