-- The loop keeps the lines of the forms so far.
use mathlib.Core.Path.{refl}
use borrow.Author.Rules.{rules}
use Rattle.store.proofs.Listing.{naming_begins, naming_short, naming_room, naming_turns, naming_ends}
use Rattle.store.proofs.put_names.Goals as goal

pub loop-i-init : goal.loop-i-init
loop-i-init c = search (rules, naming_begins)

pub put_name-next-requires : goal.put_name-next-requires
put_name-next-requires c = (search rules, search naming_short, search rules, search naming_room)

pub loop-i-preserved : goal.loop-i-preserved
loop-i-preserved c = let l = c.loop-i in
    naming_turns _ _ _ _ _ _ _ _ _ l.invariant (search rules) refl c.put_name-next.ensures

pub returns : goal.returns
returns c = search naming_ends
