-- Step by step; the measure is what is left to do.
use lib.ListN.{length}
use Rattle.call.specs.Call.{memory_of}
use Rattle.flow.specs.Fill.{place_of, weight}
use Rattle.flow.proofs.Filling.{Turning}
use Rattle.flow.proofs.fill.fill.Given as goal

abbrev pub invariant-loop-out : goal.invariant-loop-out
invariant-loop-out l = Turning l.input (place_of l.initial.reach (memory_of l.initial.all l.initial.names l.initial.texts l.initial.lens l.initial.plans l.initial.filed l.initial.name l.initial.text l.initial.answers l.initial.values l.initial.held) l.initial.waiting) l.initial.out l.initial.err (place_of l.reach (memory_of l.all l.names l.texts l.lens l.plans l.filed l.name l.text l.answers l.values l.held) l.waiting) l.out l.err

abbrev pub decreases-loop-out : goal.decreases-loop-out
decreases-loop-out l = weight (length l.input) (place_of l.reach (memory_of l.all l.names l.texts l.lens l.plans l.filed l.name l.text l.answers l.values l.held) l.waiting)
