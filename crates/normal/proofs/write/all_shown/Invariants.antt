-- `all_shown` answers whether every byte of a string is shown: the bytes passed are, so that those from `i` on decide. Each turn steps over one byte of the content.
use Prim.Native.Nat.{◌-◌}
use mathlib.Core.Path.{◌≡◌}
use Rattle.paper.specs.Byte.{every}
use Rattle.paper.specs.Command.{is_shown}
use Rattle.text.specs.Place.{text_at, Closes}
use Rattle.normal.proofs.write.all_shown.Given as goal

abbrev pub invariant-loop-i : goal.invariant-loop-i
invariant-loop-i l = (every is_shown (text_at l.s l.start) ≡ every is_shown (text_at l.s l.i)) × Closes l.s l.i l.end

abbrev pub decreases-loop-i : goal.decreases-loop-i
decreases-loop-i l = l.end - l.i
