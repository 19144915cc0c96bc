-- The loop keeps where the run stands behind what was written out so far.
use Prim.Native.Nat.{◌-◌}
use lib.ListN.{length}
use Rattle.call.specs.Call.{memory_of}
use Rattle.dialogue.specs.Fill.{desk_of}
use Rattle.class_program.proofs.Passing.{Passing}
use Rattle.class_program.proofs.pass.Given as goal

abbrev pub invariant-loop-filled : goal.invariant-loop-filled
invariant-loop-filled g l = Passing (desk_of l.len-2 (memory_of l.initial.all l.initial.names l.initial.texts l.initial.lens l.initial.plans l.initial.filed l.initial.name l.initial.text l.initial.answers l.initial.values l.initial.held) l.initial.waiting) l.input l.initial.reply l.initial.out
    (desk_of l.len (memory_of l.all l.names l.texts l.lens l.plans l.filed l.name l.text l.answers l.values l.held) l.waiting) l.next l.reply l.out

abbrev pub decreases-loop-filled : goal.decreases-loop-filled
decreases-loop-filled g l = length l.input - l.next
