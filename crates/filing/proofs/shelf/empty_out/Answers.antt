-- The plans are wiped, and the store is cleared.
use Rattle.std.proofs.Common.{rules}
use native.Mathlib.Omega.{arith}
use Rattle.store.proofs.Moving.{wipes}
use Rattle.session.proofs.Used.{fills_inside}
use Rattle.filing.proofs.Clearing.{stocks_few, stocks_plans, stocks_stocked, shelf_cleared}
use Rattle.filing.proofs.shelf.empty_out.Goals as goal

pub overflow_mul-filed : goal.overflow_mul-filed
overflow_mul-filed c = omega (arith, stocks_few _ c.requires)

pub slice_bounds-fill-end : goal.slice_bounds-fill-end
slice_bounds-fill-end c = let h = fills_inside _ _ _ (stocks_plans _ c.requires) in search rules

pub slice_bounds-fill-end-2 : goal.slice_bounds-fill-end-2
slice_bounds-fill-end-2 c = let h = fills_inside _ _ _ (stocks_plans _ c.requires) in search rules

pub clear-requires : goal.clear-requires
clear-requires c = search stocks_stocked

pub returns : goal.returns
returns c =
    shelf_cleared _ _ _ c.requires c.clear.ensures
    (wipes _ _ _ (fills_inside _ _ _ (stocks_plans _ c.requires)) c.fill.ensures.after)
