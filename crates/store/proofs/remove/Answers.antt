-- The gap that the form leaves is closed in each list.
use Rattle.store.proofs.Leaving.{form_leaves}
use Rattle.store.proofs.remove.Goals as goal

pub returns : goal.returns
returns c = search form_leaves
