-- `name_in` answers whether the content is a name: its length is, and the bytes passed are, so that those from `i` on decide about the whole content. Each turn steps over one byte of the content.
use Prim.Native.Nat.{◌-◌}
use mathlib.Core.Path.{◌≡◌}
use Rattle.paper.specs.Byte.{every}
use Rattle.paper.specs.Command.{is_name_byte}
use Rattle.text.specs.Place.{text_at, Closes}
use Rattle.command.proofs.range.name_in.Given as goal

abbrev pub invariant-loop-i : goal.invariant-loop-i
invariant-loop-i l = (every is_name_byte (text_at l.s l.initial.i) ≡ every is_name_byte (text_at l.s l.i)) × Closes l.s l.i l.name.end

abbrev pub decreases-loop-i : goal.decreases-loop-i
decreases-loop-i l = l.name.end - l.i
