-- The sessions below the loop's number have followed.
use Rattle.seats.proofs.Lowering.{Lowered}
use Rattle.seats.proofs.lower.lower.Given as goal

abbrev pub invariant-loop-k : goal.invariant-loop-k
invariant-loop-k l = Lowered l.initial.held l.n l.size l.held l.k
