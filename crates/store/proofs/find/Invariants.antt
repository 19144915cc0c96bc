-- The loop keeps what is left to look at; a name that is found says the whole.
use Rattle.store.specs.Lent.{store_of}
use Rattle.store.proofs.Seek.{Seeking}
use Rattle.store.proofs.find.Given as goal

abbrev pub invariant-loop-index : goal.invariant-loop-index
invariant-loop-index l = Seeking (store_of l.fn.filed l.all l.names l.texts l.lens) l.name l.index l.start
