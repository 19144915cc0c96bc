-- `P` in Ready: all counters hold, or one does not.
use native.Mathlib.Omega.{arith}
use borrow.Author.Tests.{not-true, not-false}
use Rattle.session.proofs.Refusing.{minds_not_now, print_not_now}
use Rattle.printing.proofs.Standing.{planned_few, planned_inside}
use Rattle.printing.proofs.Printed.{minds_follows, ready_filled, print_overruns, print_goes}
use mathlib.Core.Path.{ap}
use mathlib.Core.Bool.{not}
use Rattle.session.proofs.Tags.{ready_tag, tags}
use Rattle.printing.proofs.print.print.Goals as goal

pub returns-in_default-clause-value : goal.returns-in_default-clause-value
returns-in_default-clause-value c = search (minds_follows, minds_not_now, print_not_now, tags)

pub overflow_mul-at : goal.overflow_mul-at
overflow_mul-at c = omega (arith, planned_few _ _ c.requires.planned)

pub overflow_add-end : goal.overflow_add-end
overflow_add-end c = omega (arith, planned_few _ _ c.requires.planned)

pub offset_bounds-plans-at : goal.offset_bounds-plans-at
offset_bounds-plans-at c = omega (arith, planned_few _ _ c.requires.planned)

pub slice_bounds-all_hold-end : goal.slice_bounds-all_hold-end
slice_bounds-all_hold-end c = planned_inside _ _ c.requires.planned

pub all_hold-requires : goal.all_hold-requires
all_hold-requires c = record { filled = rw c.worth.ensures (ready_filled _ (ready_tag _ c.in-Ready.is) _ c.requires.planned); last_bound = omega arith }

pub returns-then-not-all_hold-clause-value : goal.returns-then-not-all_hold-clause-value
returns-then-not-all_hold-clause-value c = print_overruns _ (ready_tag _ c.in-Ready.is) _ _ _ _ (rw c.worth.ensures at c.all_hold.ensures) _ _ (not-true _ (ap not c.if-not-all_hold.true)) c.refuse-then-not-all_hold.ensures.value

pub returns-clause-value : goal.returns-clause-value
returns-clause-value c = print_goes _ (ready_tag _ c.in-Ready.is) _ _ _ _ (rw c.worth.ensures at c.all_hold.ensures) (not-false _ (ap not c.if-not-all_hold.false))
