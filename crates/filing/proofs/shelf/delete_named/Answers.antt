-- The star begins with a byte that no name has.
use borrow.Author.Rules.{rules}
use Rattle.filing.proofs.Clearing.{stocks_stocked, deletes_inside, deletes_size, finds_leaving, removes_all, removes_one, removes_none}
use Rattle.filing.proofs.shelf.delete_named.Goals as goal

pub returns-then-bytes-eq42 : goal.returns-then-bytes-eq42
returns-then-bytes-eq42 c = search removes_all

pub slice_bounds-bytes-end : goal.slice_bounds-bytes-end
slice_bounds-bytes-end c = search deletes_inside

pub slice_bounds-find-end : goal.slice_bounds-find-end
slice_bounds-find-end c = search deletes_size

pub find-requires : goal.find-requires
find-requires c = search stocks_stocked

pub take_out-requires : goal.take_out-requires
take_out-requires c = finds_leaving _ _ _ _ c.requires.stocks c.find.ensures c.in-Some.is

pub returns-in-Some : goal.returns-in-Some
returns-in-Some c = removes_one _ _ _ _ _ (search rules) c.find.ensures c.in-Some.is c.take_out.ensures

pub returns-in-None : goal.returns-in-None
returns-in-None c = search removes_none
