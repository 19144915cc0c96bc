-- The quote, or nothing.
use borrow.Author.Rules.{rules}
use Rattle.set.proofs.Numbers.{quote_room, quote_writes, opens_none}
use Rattle.set.proofs.take.put_opening.Goals as goal

pub put-requires : goal.put-requires
put-requires c = search (quote_room, rules)

pub returns-then-behind-eq0 : goal.returns-then-behind-eq0
returns-then-behind-eq0 c = search (quote_writes, rules)

pub returns : goal.returns
returns c = search (opens_none, rules)
