-- The loop keeps what was copied and what is still to come.
use Prim.Native.Nat.{◌-◌}
use Rattle.session.proofs.Naming.{Copying}
use Rattle.session.proofs.name.name_of.Given as goal

abbrev pub invariant-loop-i : goal.invariant-loop-i
invariant-loop-i l = Copying l.s l.initial.i l.end l.bytes l.len l.i

abbrev pub decreases-loop-i : goal.decreases-loop-i
decreases-loop-i l = l.end - l.i
