-- Each turn reads once.
use Rattle.call.specs.Call.{memory_of}
use Rattle.dialogue.specs.Fill.{desk_of}
use Rattle.class_program.proofs.Passing.{Reading}
use Rattle.class_program.proofs.run.Given as goal

abbrev pub invariant-loop : goal.invariant-loop
invariant-loop g l = Reading (desk_of l.initial.len (memory_of l.initial.all l.initial.names l.initial.texts l.initial.lens l.initial.plans l.initial.filed l.initial.name l.initial.text l.initial.answers l.initial.values l.initial.held) l.initial.waiting) l.initial.input l.initial.reply l.initial.out
    (desk_of l.len (memory_of l.all l.names l.texts l.lens l.plans l.filed l.name l.text l.answers l.values l.held) l.waiting) l.input l.reply l.out
