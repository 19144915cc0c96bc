-- A name without an escape is looked for as it lies, and any other as its copy.
use borrow.Author.Rules.{rules}
use Rattle.filing.proofs.Filing.{named_short, copied_inside, copied_size, copied_finds}
use Rattle.filing.proofs.Bare.{name_starts, bare_finds}
use Rattle.filing.proofs.file.find_string.Goals as goal

pub overflow_sub-end : goal.overflow_sub-end
overflow_sub-end c = search name_starts

pub slice_bounds-find-count : goal.slice_bounds-find-count
slice_bounds-find-count c = search name_starts

pub slice_bounds-find-start : goal.slice_bounds-find-start
slice_bounds-find-start c = search name_starts

pub returns-then-end-start : goal.returns-then-end-start
returns-then-end-start c = search bare_finds

pub name_of-n-requires : goal.name_of-n-requires
name_of-n-requires c = search (named_short, rules)

pub slice_bounds-bytes-end : goal.slice_bounds-bytes-end
slice_bounds-bytes-end c = search copied_inside

pub slice_bounds-find-end-2 : goal.slice_bounds-find-end-2
slice_bounds-find-end-2 c = search copied_size

pub returns : goal.returns
returns c = search copied_finds
