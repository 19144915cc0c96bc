-- `put` writes one byte: the store is such a write.
use Rattle.text.proofs.Written.{writes_set}
use Rattle.text.proofs.write.put.Goals as goal

pub returns : goal.returns
returns c = search writes_set
