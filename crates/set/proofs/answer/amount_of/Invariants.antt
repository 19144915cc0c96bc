-- The loop keeps the number that the digits so far write.
use Rattle.set.proofs.Digits.{Summing}
use Rattle.set.proofs.answer.amount_of.Given as goal

abbrev pub invariant-loop-b : goal.invariant-loop-b
invariant-loop-b l = Summing l.a l.n l.b-index
