-- The name is copied and looked for; where it is free it is kept.
use borrow.Author.Rules.{rules}
use Rattle.filing.proofs.Filing.{start_not_now, named_short, copied_inside, copied_size, beside_stocked, start_taken, start_room, start_begins}
use Rattle.session.proofs.Tags.{tags}
use Rattle.filing.proofs.file.start.Goals as goal

pub returns-in_default-clause-value : goal.returns-in_default-clause-value
returns-in_default-clause-value c = search (start_not_now, tags)

pub name_of-n-requires : goal.name_of-n-requires
name_of-n-requires c = search (named_short, rules)

pub slice_bounds-bytes-end : goal.slice_bounds-bytes-end
slice_bounds-bytes-end c = search copied_inside

pub slice_bounds-find-end : goal.slice_bounds-find-end
slice_bounds-find-end c = search copied_size

pub find-requires : goal.find-requires
find-requires c = search beside_stocked

pub slice_bounds-bytes-end-in-None : goal.slice_bounds-bytes-end-in-None
slice_bounds-bytes-end-in-None c = search copied_inside

pub slice_bounds-put_all-end : goal.slice_bounds-put_all-end
slice_bounds-put_all-end c = search copied_inside

pub put_all-requires : goal.put_all-requires
put_all-requires c = start_room _ _ _ _ _ c.requires.beside (search rules) c.requires.named c.name_of-n.ensures

pub slice_bounds-put_all-end-in-None : goal.slice_bounds-put_all-end-in-None
slice_bounds-put_all-end-in-None c = search copied_size

pub returns-in-Some-clause-value : goal.returns-in-Some-clause-value
returns-in-Some-clause-value c = search start_taken

pub returns-in-None-clause-value : goal.returns-in-None-clause-value
returns-in-None-clause-value c = start_begins _ _ _ _ _ _ _ _ (search rules) c.requires.named c.name_of-n.ensures c.find.ensures (search rules) c.put_all.ensures
