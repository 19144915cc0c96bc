-- The others are asked, then the line is read, and then the store is asked.
use Rattle.guard.proofs.Barring.{watching_stocked, watching_numbers, start_taken, start_barred}
use Rattle.guard.proofs.Reading.{start_read, names_start, guards_start, start_unread, guards_alone}
use Rattle.guard.proofs.guard_start.Goals as goal

pub is_beside-requires : goal.is_beside-requires
is_beside-requires c = search watching_numbers

pub returns-in_default : goal.returns-in_default
returns-in_default c = start_unread _ _ _ _ _ c.requires.led (start_read _ _ c.requires.led c.name_line.ensures) c.in_default.not-Start

pub find_copied-requires : goal.find_copied-requires
find_copied-requires c = record { stocked = search watching_stocked; named = search (names_start, start_read) }

pub returns-in-Some : goal.returns-in-Some
returns-in-Some c = search (guards_start, start_read, start_taken)

pub returns-in-None : goal.returns-in-None
returns-in-None c = search (guards_start, start_read, start_barred)

pub returns : goal.returns
returns c = search guards_alone
