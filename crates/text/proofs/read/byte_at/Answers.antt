-- `byte_at` answers the byte at a place: in the line it is read, and past the end `byte_at` is 0 too.
use borrow.Author.Rules.{rules}
use Rattle.text.proofs.Place.{past_end}
use Rattle.text.specs.Place.{byte_at}
use Rattle.text.proofs.read.byte_at.Goals as goal

pub returns-then-at-s : goal.returns-then-at-s
unfolding byte_at
returns-then-at-s c = search rules

pub returns : goal.returns
unfolding byte_at
returns c = search (rules, past_end)
