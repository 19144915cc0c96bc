-- The part behind the gap is moved down, and what it leaves is filled.
use Rattle.std.proofs.Common.{rules}
use Rattle.store.proofs.Moving.{filled_more, closes}
use Rattle.store.proofs.gap.close.Goals as goal

pub loop-x-preserved : goal.loop-x-preserved
loop-x-preserved g c = search (rules, filled_more)

pub returns : goal.returns
returns g c = closes _ _ _ _ _ _ _ _ _ c.requires c.copy_within.ensures.after (search rules) c.loop-x.invariant (search rules)
