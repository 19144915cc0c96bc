-- The zeros that are missing, and then the number.
use Rattle.std.proofs.Common.{rules, refl}
use Rattle.set.proofs.Digits.{zeros_room, number_room, number_ends}
use Rattle.set.proofs.count.put_count.Goals as goal

pub overflow_add-next : goal.overflow_add-next
overflow_add-next c = let h = zeros_room c.args.out.now c.args.at c.args.value c.args.digits c.saturating_sub-zeros.result (search rules) c.requires in search rules

pub slice_bounds-fill-end : goal.slice_bounds-fill-end
slice_bounds-fill-end c = let h = zeros_room c.args.out.now c.args.at c.args.value c.args.digits c.saturating_sub-zeros.result (search rules) c.requires in search rules

pub put_decimal-requires : goal.put_decimal-requires
put_decimal-requires c = number_room c.args.out.now c.args.at c.args.value c.args.digits _ (search rules) c.requires _ _ refl c.fill.ensures.after

pub returns : goal.returns
returns c = number_ends c.args.out.now c.args.at c.args.value c.args.digits _ (search rules) c.requires _ _ refl c.fill.ensures.after _ _ c.put_decimal.ensures
