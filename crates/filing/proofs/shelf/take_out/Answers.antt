-- The form leaves the store, and the gap that its plan leaves is closed.
use native.Mathlib.Omega.{arith}
use Rattle.filing.proofs.Clearing.{leaving_stands, leaving_few, leaving_inside, leaving_small, leaving_room, shelf_leaves}
use Rattle.filing.proofs.shelf.take_out.Goals as goal

pub remove-less-requires : goal.remove-less-requires
remove-less-requires c = search leaving_stands

pub overflow_mul-index : goal.overflow_mul-index
overflow_mul-index c = omega (arith, leaving_few _ _ _ _ c.requires)

pub overflow_sub-less : goal.overflow_sub-less
overflow_sub-less c = leaving_inside _ _ _ _ _ c.requires c.remove-less.ensures

pub overflow_mul-less : goal.overflow_mul-less
overflow_mul-less c = omega (arith, leaving_small _ _ _ _ _ c.requires c.remove-less.ensures)

pub close-requires : goal.close-requires
close-requires c = leaving_room _ _ _ _ _ c.requires c.remove-less.ensures

pub returns : goal.returns
returns c = shelf_leaves _ _ _ _ _ _ c.remove-less.ensures c.close.ensures
