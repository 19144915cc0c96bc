use Rattle.store.proofs.Moving.{wipes}
use Rattle.session.proofs.state.wipe.Goals as goal

pub returns : goal.returns
returns c = wipes _ _ _ c.requires c.fill.ensures.after
