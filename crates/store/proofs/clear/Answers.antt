-- The used part of each list is wiped.
use Rattle.std.proofs.Common.{arith}
use Rattle.store.proofs.Moving.{wipes}
use Rattle.store.proofs.Leaving.{clears}
use Rattle.store.proofs.clear.Goals as goal

pub returns : goal.returns
returns c =
    clears _ _ _ _ _ c.requires
    (wipes _ _ _ (omega arith) c.fill.ensures.after)
    (wipes _ _ _ (omega arith) c.fill-2.ensures.after)
    (wipes _ _ _ (omega arith) c.fill-3.ensures.after)
    (wipes _ _ _ (omega arith) c.fill-4.ensures.after)
