-- What is left of the line is heard as the line, or tells that it is refused.
use mathlib.Core.Path.{refl}
use Rattle.wait.proofs.Kept.{waiting_none, waits_kept, kept_inside, kept_counts}
use Rattle.tablets.proofs.Packed.{packed_sits}
use Rattle.tablets.proofs.Leaving.{hears_waiting}
use Rattle.tablets.proofs.Forbidding.{fault_hears}
use Rattle.desk.proofs.hear_dropped.Goals as goal

pub put_kept-n-requires : goal.put_kept-n-requires
put_kept-n-requires c = waiting_none _ refl

pub slice_bounds-line-end : goal.slice_bounds-line-end
slice_bounds-line-end c = kept_inside _ _ _ _ refl c.put_kept-n.ensures

pub slice_bounds-is_clear-end : goal.slice_bounds-is_clear-end
slice_bounds-is_clear-end c = kept_counts _ _ _ _ refl c.put_kept-n.ensures

pub slice_bounds-line-end-then-is_clear : goal.slice_bounds-line-end-then-is_clear
slice_bounds-line-end-then-is_clear c = kept_inside _ _ _ _ refl c.put_kept-n.ensures

pub slice_bounds-hear_shown-end : goal.slice_bounds-hear_shown-end
slice_bounds-hear_shown-end c = kept_counts _ _ _ _ refl c.put_kept-n.ensures

pub hear_shown-requires : goal.hear_shown-requires
hear_shown-requires c = record { reached = c.requires.reached; t_bound = c.requires.t_bound; s_value = c.is_clear.ensures.0 c.if-is_clear.true }

pub returns-then-is_clear : goal.returns-then-is_clear
returns-then-is_clear c = hears_waiting _ _ _ _ _ _ _ _ _ (waits_kept _ _ _ _ refl c.put_kept-n.ensures) c.hear_shown.ensures

pub seat_fault-requires : goal.seat_fault-requires
seat_fault-requires c = packed_sits _ _ c.requires.reached c.requires.t_bound

pub returns : goal.returns
returns c = let waits = waits_kept _ _ _ _ refl c.put_kept-n.ensures in let control = c.is_clear.ensures.1 c.if-is_clear.false in fault_hears _ _ c.requires.t_bound _ _ _ _ _ _ waits control (c.seat_fault.ensures _ _ _ waits control) c.requires.reached
