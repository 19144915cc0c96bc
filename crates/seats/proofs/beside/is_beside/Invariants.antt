-- None below the loop's number passes.
use Rattle.seats.proofs.Neighbours.{Passed}
use Rattle.seats.proofs.beside.is_beside.Given as goal

abbrev pub invariant-loop-k : goal.invariant-loop-k
invariant-loop-k l = Passed l.held l.t l.low l.high l.first l.last l.k
