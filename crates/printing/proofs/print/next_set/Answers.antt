-- A set that has room is out.
use mathlib.Core.Path.{◌∙◌, ap}
use native.Mathlib.Omega.{arith}
use Rattle.std.specs.Prelude.{Err}
use Rattle.std.proofs.lemmas.Result.{err_from_is_err_and}
use Rattle.printing.proofs.Standing.{planned_few, planned_inside, showing_planned, showing_kept, showing_ends, showing_inside, kept_answers}
use Rattle.printing.proofs.Printed.{printed_taking, printed_onward, takes_short, takes_set}
use Rattle.printing.proofs.print.next_set.Goals as goal

pub overflow_add-to : goal.overflow_add-to
overflow_add-to c = omega (arith, showing_ends _ _ _ c.requires.showing)

pub overflow_mul-at : goal.overflow_mul-at
overflow_mul-at c = omega (arith, planned_few _ _ (showing_planned _ _ _ c.requires.showing))

pub overflow_add-end : goal.overflow_add-end
overflow_add-end c = omega (arith, planned_few _ _ (showing_planned _ _ _ c.requires.showing))

pub slice_bounds-give-end : goal.slice_bounds-give-end
slice_bounds-give-end c = showing_inside _ _ _ c.requires.showing

pub given-requires : goal.given-requires
given-requires c = kept_answers _ (showing_kept _ _ _ c.requires.showing)

pub offset_bounds-plans-at : goal.offset_bounds-plans-at
offset_bounds-plans-at c = omega (arith, planned_few _ _ (showing_planned _ _ _ c.requires.showing))

pub slice_bounds-give-end-2 : goal.slice_bounds-give-end-2
slice_bounds-give-end-2 c = planned_inside _ _ (showing_planned _ _ _ c.requires.showing)

pub give-requires : goal.give-requires
give-requires c = rw (c.given.ensures, c.worth.ensures) (printed_taking _ _ _ _ c.requires.mode_value _ _ c.requires.showing)

pub onward-requires : goal.onward-requires
onward-requires c = printed_onward _ _ _ _ c.requires.mode_value _ _ c.requires.showing

pub returns-in_err-len-clause-value : goal.returns-in_err-len-clause-value
returns-in_err-len-clause-value c =
    let p = err_from_is_err_and c.from_residual.result c.from_residual.ensures.1 in
    rw (p.1 ∙ ap Err p.2) (takes_short _ _ _ _ c.requires.mode_value _ _ _ _ c.give.result (rw (c.given.ensures, c.worth.ensures) at c.give.ensures) _ c.in_err-len.was)

pub returns-clause-value : goal.returns-clause-value
returns-clause-value c = takes_set _ _ _ _ c.requires.mode_value _ _ _ _ c.give.result (rw (c.given.ensures, c.worth.ensures) at c.give.ensures) _ _ c.in_ok-len.was c.onward.ensures.value
