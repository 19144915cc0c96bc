-- From line to line the bench is reached, in memory of the sizes that it had; the measure is what is left of the script.
use Prim.Native.Nat.{◌-◌}
use native.Mathlib.Omega.{arith}
use lib.ListN.{length}
use borrow.Author.Rules.{rules}
use Rattle.call.specs.Call.{memory_of}
use Rattle.drive.proofs.Playing.{Playing, playing_begins, playing_turns, ends_inside, behind_fits}
use Rattle.drive.proofs.states.play.Given as goal

abbrev pub invariant-loop-at : goal.invariant-loop-at
invariant-loop-at g l = Playing (memory_of l.initial.all l.initial.names l.initial.texts l.initial.lens l.initial.plans l.initial.filed l.initial.name l.initial.text l.initial.answers l.initial.values l.initial.held) (memory_of l.all l.names l.texts l.lens l.plans l.filed l.name l.text l.answers l.values l.held)

abbrev pub decreases-loop-at : goal.decreases-loop-at
decreases-loop-at g l = length l.script - l.at
