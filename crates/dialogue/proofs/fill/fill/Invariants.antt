-- Step by step; the measure is the input that is left.
use Prim.Native.Nat.{◌-◌}
use mathlib.Core.Path.{◌∙◌}
use native.Mathlib.Omega.{arith}
use lib.ListN.{length}
use Rattle.call.specs.Call.{memory_of}
use Rattle.dialogue.specs.Fill.{place_of}
use Rattle.dialogue.proofs.Filling.{inside_within, fills_used, fills_full, Turning, turning_begins, turning_room, turning_turns}
use Rattle.dialogue.proofs.fill.fill.Given as goal

abbrev pub invariant-loop-out : goal.invariant-loop-out
invariant-loop-out l = Turning l.input (place_of l.initial.reach (memory_of l.initial.all l.initial.names l.initial.texts l.initial.lens l.initial.plans l.initial.filed l.initial.name l.initial.text l.initial.answers l.initial.values l.initial.held) l.initial.waiting) l.initial.reply l.initial.out (place_of l.reach (memory_of l.all l.names l.texts l.lens l.plans l.filed l.name l.text l.answers l.values l.held) l.waiting) l.reply l.out

abbrev pub decreases-loop-out : goal.decreases-loop-out
decreases-loop-out l = length l.input - l.reach.next
