-- Each turn reads once.
use Rattle.call.specs.Call.{memory_of}
use Rattle.flow.specs.Fill.{desk_of}
use Rattle.program.proofs.Passing.{Reading}
use Rattle.program.proofs.run.Given as goal

abbrev pub invariant-loop : goal.invariant-loop
invariant-loop g l = Reading (memory_of l.initial.all l.initial.names l.initial.texts l.initial.lens l.initial.plans l.initial.filed l.initial.name l.initial.text l.initial.answers l.initial.values l.initial.held) l.initial.input l.initial.out l.initial.err
    (desk_of l.run (memory_of l.all l.names l.texts l.lens l.plans l.filed l.name l.text l.answers l.values l.held) l.waiting) l.input l.out l.err l.counter
