-- The loop keeps where the run stands behind what was written out so far.
use lib.ListN.{length}
use Rattle.call.specs.Call.{memory_of}
use Rattle.flow.specs.Fill.{desk_of, place_in, weight}
use Rattle.program.proofs.Passing.{Passing}
use Rattle.program.proofs.pass.Given as goal

abbrev pub invariant-loop-filled : goal.invariant-loop-filled
invariant-loop-filled g l = Passing (desk_of l.initial.run (memory_of l.initial.all l.initial.names l.initial.texts l.initial.lens l.initial.plans l.initial.filed l.initial.name l.initial.text l.initial.answers l.initial.values l.initial.held) l.initial.waiting) l.input l.initial.out l.initial.err
    (desk_of l.run (memory_of l.all l.names l.texts l.lens l.plans l.filed l.name l.text l.answers l.values l.held) l.waiting) l.next l.out l.err

abbrev pub decreases-loop-filled : goal.decreases-loop-filled
decreases-loop-filled g l = weight (length l.input) (place_in (desk_of l.run (memory_of l.all l.names l.texts l.lens l.plans l.filed l.name l.text l.answers l.values l.held) l.waiting) l.next)
