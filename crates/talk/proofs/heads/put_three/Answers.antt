-- Three writes, one behind the other.
use borrow.Author.Rules.{rules}
use Rattle.talk.proofs.Heading.{three_listed}
use Rattle.talk.proofs.heads.put_three.Goals as goal

pub returns : goal.returns
returns c = record { writes = search three_listed; upper_bound = search rules }
