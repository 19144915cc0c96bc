-- The others are asked for any form that they hold open, and then the line is read: the star means them all.
use borrow.Author.Rules.{rules}
use Rattle.guard.proofs.Barring.{starred_named, watching_numbers, star_held}
use Rattle.guard.proofs.Reading.{delete_read, names_delete, holds_delete, guards_delete, delete_unread, guards_unheld}
use Rattle.guard.proofs.guard_delete.Goals as goal

pub is_beside-requires : goal.is_beside-requires
is_beside-requires c = search watching_numbers

pub returns-in_default : goal.returns-in_default
returns-in_default c = delete_unread _ _ _ _ _ c.requires.led (delete_read _ _ c.requires.led c.name_line.ensures) c.in_default.not-Delete

pub is_star-requires : goal.is_star-requires
is_star-requires c = search (holds_delete, delete_read)

pub returns-then-is_star : goal.returns-then-is_star
returns-then-is_star c = search (guards_delete, delete_read, star_held)

pub guard_named-requires : goal.guard_named-requires
guard_named-requires c = record { watching = search rules; named = search (starred_named, names_delete, delete_read) }

pub returns-then-is_beside : goal.returns-then-is_beside
returns-then-is_beside c = search (guards_delete, delete_read)

pub returns : goal.returns
returns c = search guards_unheld
