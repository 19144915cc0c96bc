-- Four writes, one behind the other.
use borrow.Author.Rules.{rules}
use Rattle.talk.proofs.Heading.{ok_told}
use Rattle.talk.proofs.heads.put_ok.Goals as goal

pub returns : goal.returns
returns c = record { writes = search ok_told; upper_bound = search rules }
