-- The loop writes one piece after the other.
use Rattle.set.proofs.Numbers.{Going}
use Rattle.set.proofs.take.put_pieces.Given as goal

abbrev pub invariant-loop-k : goal.invariant-loop-k
invariant-loop-k l = Going l.text l.answers l.plan l.values l.i l.k-end l.initial.out l.at l.out l.next l.k
