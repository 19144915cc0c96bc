-- The name is copied, and its form leaves.
use borrow.Author.Rules.{rules}
use Rattle.filing.proofs.Filing.{delete_not_now, starred_short, deletes}
use Rattle.session.proofs.Tags.{tags}
use Rattle.filing.proofs.file.delete.Goals as goal

pub returns-in_default-clause-value : goal.returns-in_default-clause-value
returns-in_default-clause-value c = search (delete_not_now, tags)

pub name_of-n-requires : goal.name_of-n-requires
name_of-n-requires c = search (starred_short, rules)

pub returns-clause-value : goal.returns-clause-value
returns-clause-value c = search deletes
