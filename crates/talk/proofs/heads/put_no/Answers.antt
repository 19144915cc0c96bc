-- Four writes, one behind the other.
use borrow.Author.Rules.{rules}
use Rattle.talk.proofs.Heading.{no_told}
use Rattle.talk.proofs.heads.put_no.Goals as goal

pub returns : goal.returns
returns c = record { writes = search no_told; upper_bound = search rules }
