-- The sum over the tablets that were asked.
use Prim.Native.Nat.{◌-◌}
use Rattle.tablets.proofs.Left.{Summing}
use Rattle.tablets.proofs.counts.all_left.Given as goal

abbrev pub invariant-loop-t : goal.invariant-loop-t
invariant-loop-t l = Summing l.held l.n l.t

abbrev pub decreases-loop-t : goal.decreases-loop-t
decreases-loop-t l = 30 - l.t
