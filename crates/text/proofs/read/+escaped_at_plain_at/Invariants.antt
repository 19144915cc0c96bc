-- `plain_at` and `escaped_at` answer where the paper's two moods close, one law for each return. The plain mood goes on where its run ends, and each call is behind the last, so what is left of the line falls.
use Prim.Native.Nat.{◌-◌}
use lib.ListN.{length}
use Rattle.text.proofs.read.+escaped_at_plain_at.Given as goal

abbrev pub decreases-escaped_at : goal.decreases-escaped_at
decreases-escaped_at l = length l.s.now - l.at

abbrev pub decreases-plain_at : goal.decreases-plain_at
decreases-plain_at l = length l.s.now - l.at
