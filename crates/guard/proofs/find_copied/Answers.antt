-- The copy of a name is found where the name is.
use borrow.Author.Rules.{rules}
use Rattle.filing.proofs.Filing.{named_short, copied_inside, copied_size, copied_finds}
use Rattle.guard.proofs.find_copied.Goals as goal

pub name_of-n-requires : goal.name_of-n-requires
name_of-n-requires c = search (named_short, rules)

pub slice_bounds-bytes-end : goal.slice_bounds-bytes-end
slice_bounds-bytes-end c = search copied_inside

pub slice_bounds-find-end : goal.slice_bounds-find-end
slice_bounds-find-end c = search copied_size

pub returns : goal.returns
returns c = search copied_finds
