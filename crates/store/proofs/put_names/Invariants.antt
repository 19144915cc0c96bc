-- The loop keeps the lines of the forms so far.
use Rattle.store.specs.Lent.{store_of}
use Rattle.store.proofs.Listing.{Naming}
use Rattle.store.proofs.put_names.Given as goal

abbrev pub invariant-loop-i : goal.invariant-loop-i
invariant-loop-i l = Naming (store_of l.fn.filed l.all l.names l.texts l.lens) l.initial.out l.at l.out l.next l.i
