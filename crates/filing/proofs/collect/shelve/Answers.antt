-- The text is checked, its plan is made behind the others, and the store takes the form.
use native.Mathlib.Omega.{arith}
use Rattle.filing.proofs.Clearing.{at_stocked}
use Rattle.filing.proofs.Collecting.{text_front, name_front, shelves_unsound, shelves_full, room_spare, no_line, plan_inside, draft_plannable, shelves_stored}
use mathlib.Core.Path.{ap}
use mathlib.Core.Bool.{not}
use Rattle.filing.proofs.collect.shelve.Goals as goal

pub returns-in-Some : goal.returns-in-Some
returns-in-Some c = search shelves_unsound

pub has_room-requires : goal.has_room-requires
has_room-requires c = (at_stocked _ _ c.requires.at).room

pub returns-then-not-has_room : goal.returns-then-not-has_room
returns-then-not-has_room c = search shelves_full

pub overflow_mul-at : goal.overflow_mul-at
overflow_mul-at c = omega (arith, (at_stocked _ _ c.requires.at).few)

pub overflow_add-end : goal.overflow_add-end
overflow_add-end c = omega (arith, (at_stocked _ _ c.requires.at).few)

pub offset_bounds-plans-at : goal.offset_bounds-plans-at
offset_bounds-plans-at c = omega (arith, (at_stocked _ _ c.requires.at).few)

pub make_plan-requires : goal.make_plan-requires
make_plan-requires c = draft_plannable _ _ _ _ c.requires c.unsound_at.ensures (no_line _ c.in_default.not-Some) c.has_room.ensures (ap not c.if-not-has_room.false)

pub returns : goal.returns
returns c = shelves_stored _ _ _ _ _ _ c.requires c.unsound_at.ensures (no_line _ c.in_default.not-Some) c.has_room.ensures (ap not c.if-not-has_room.false) c.make_plan.ensures c.join.ensures

pub slice_bounds-make_plan-end : goal.slice_bounds-make_plan-end
slice_bounds-make_plan-end c = plan_inside _ _ _ c.requires c.has_room.ensures (ap not c.if-not-has_room.false)

pub join-requires : goal.join-requires
join-requires c = room_spare _ _ _ c.requires c.has_room.ensures (ap not c.if-not-has_room.false)

pub slice_bounds-name-end : goal.slice_bounds-name-end
slice_bounds-name-end c = name_front _ _ c.requires.at

pub slice_bounds-text-end : goal.slice_bounds-text-end
slice_bounds-text-end c = text_front _ _ c.requires.at
