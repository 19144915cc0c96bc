-- The used bytes of the slices are wiped, and all values.
use Rattle.session.proofs.Used.{fills_inside, fresh_wiped}
use Rattle.session.proofs.state.Session.fresh.Goals as goal

pub wipe-requires : goal.wipe-requires
wipe-requires c = search fills_inside

pub wipe-requires-2 : goal.wipe-requires-2
wipe-requires-2 c = search fills_inside

pub wipe-requires-3 : goal.wipe-requires-3
wipe-requires-3 c = search fills_inside

pub returns-clause-value : goal.returns-clause-value
returns-clause-value c = fresh_wiped _ _ _ _ _ _ c.requires c.wipe.ensures c.wipe-2.ensures c.wipe-3.ensures (c.fill.ensures.after (λ y e. e))
