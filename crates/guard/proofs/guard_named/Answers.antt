-- The store is asked for the form of the name, and the others for its number.
use borrow.Author.Rules.{rules}
use Rattle.guard.proofs.Barring.{watching_stocked, watching_numbers, delete_absent, delete_held, delete_leaves}
use Rattle.session.proofs.Tags.{tags}
use Rattle.guard.proofs.guard_named.Goals as goal

pub find_copied-requires : goal.find_copied-requires
find_copied-requires c = record { stocked = search watching_stocked; named = search rules }

pub returns-in_default : goal.returns-in_default
returns-in_default c = search (delete_absent, tags)

pub is_beside-requires : goal.is_beside-requires
is_beside-requires c = search watching_numbers

pub returns-then-is_beside : goal.returns-then-is_beside
returns-then-is_beside c = search delete_held

pub returns : goal.returns
returns c = search delete_leaves
