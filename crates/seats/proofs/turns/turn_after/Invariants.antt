-- What is left to ask gives what was to be found.
use Rattle.seats.proofs.Turning.{Asking}
use Rattle.seats.proofs.turns.turn_after.Given as goal

abbrev pub invariant-loop : goal.invariant-loop
invariant-loop l = Asking l.held l.last l.k l.counter
