-- Byte by byte: dropped, kept, or beyond what there is room for.
use Rattle.wait.proofs.Keeping.{keeping_begins, keeping_cr, keeping_eof, keeping_more, keeping_full, keeping_ends}
use Rattle.wait.proofs.put_kept.Goals as goal
use Rattle.wait.proofs.put_kept.Goals.{then-n, else-n}

pub loop-b-init : goal.loop-b-init
loop-b-init g c = search keeping_begins

pub loop-b-preserved-then-b-eq13 : goal.loop-b-preserved-then-b-eq13
loop-b-preserved-then-b-eq13 g c = search keeping_cr

pub loop-b-preserved-then-b-eq-EOF : goal.loop-b-preserved-then-b-eq-EOF
loop-b-preserved-then-b-eq-EOF g c = search keeping_eof

pub loop-b-preserved : goal.loop-b-preserved
loop-b-preserved g c = elim c.if-n.branch [ then-n w ↦ rw (w.waiting-is, w.n-is) (search keeping_more) | else-n w ↦ rw (w.waiting-is, w.n-is) (search keeping_full) ]

pub returns : goal.returns
returns g c = search keeping_ends
