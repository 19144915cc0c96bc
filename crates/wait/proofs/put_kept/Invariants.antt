-- Byte by byte: dropped, kept, or beyond what there is room for.
use Rattle.wait.proofs.Keeping.{Keeping}
use Rattle.wait.proofs.put_kept.Given as goal

abbrev pub invariant-loop-b : goal.invariant-loop-b
invariant-loop-b g l = Keeping g.row.ROOM l.initial.waiting l.len l.s l.waiting l.n l.b-index
