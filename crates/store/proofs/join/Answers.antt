-- Two writes over zeros and two numbers behind the others.
use Rattle.store.proofs.Packing.{joins}
use Rattle.store.proofs.join.Goals as goal

pub returns : goal.returns
returns c = search joins
