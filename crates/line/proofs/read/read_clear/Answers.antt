-- `read_clear` reads a line with a byte by its kind.
use borrow.Author.Rules.{rules}
use Rattle.line.proofs.Whole.{read_shape}
use Rattle.line.proofs.read.read_clear.Goals as goal

pub returns : goal.returns
returns c = rw c.record.ensures (search (rules, read_shape))
