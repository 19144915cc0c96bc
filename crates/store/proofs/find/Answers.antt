-- The loop keeps what is left to look at; a name that is found says the whole.
use borrow.Author.Rules.{rules}
use Rattle.store.proofs.Seek.{seek_begins, seek_short, seek_room, seek_finds, seek_turns, seek_ends}
use Rattle.store.proofs.find.Goals as goal

pub loop-index-init : goal.loop-index-init
loop-index-init c = search (rules, seek_begins)

pub is_named-requires : goal.is_named-requires
is_named-requires c = (search rules, search seek_short, search rules)

pub returns-then-is_named : goal.returns-then-is_named
returns-then-is_named c = search seek_finds

pub overflow_add-start : goal.overflow_add-start
overflow_add-start c = search seek_room

pub loop-index-preserved : goal.loop-index-preserved
loop-index-preserved c = search seek_turns

pub returns : goal.returns
returns c = search seek_ends
