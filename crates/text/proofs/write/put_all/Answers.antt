-- `put_all` writes a text: the copy is such a write.
use Rattle.text.proofs.Written.{copy_written}
use Rattle.text.proofs.write.put_all.Goals as goal

pub returns : goal.returns
returns c = search copy_written
