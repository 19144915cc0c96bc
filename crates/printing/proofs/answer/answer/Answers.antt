-- The definition of the form's plan judges the line; one that fits is written behind the others, and its value is noted.
use native.Mathlib.Omega.{arith}
use Rattle.printing.proofs.Standing.{planned_few, planned_inside, planned_given, planned_values}
use Rattle.printing.proofs.Answering.{answer_asking, answer_count, answers_unfit, answer_room, answers_fit}
use Rattle.printing.proofs.answer.answer.Goals as goal

pub overflow_mul-at : goal.overflow_mul-at
overflow_mul-at c = omega (arith, planned_few _ _ c.requires.planned)

pub overflow_add-end : goal.overflow_add-end
overflow_add-end c = omega (arith, planned_few _ _ c.requires.planned)

pub offset_bounds-plans-at : goal.offset_bounds-plans-at
offset_bounds-plans-at c = omega (arith, planned_few _ _ c.requires.planned)

pub slice_bounds-plan-end : goal.slice_bounds-plan-end
slice_bounds-plan-end c = planned_inside _ _ c.requires.planned

pub judged-requires : goal.judged-requires
judged-requires c = record { asking = answer_asking _ _ c.requires.mode_value _ c.requires.planned; a_value = c.requires.s_value; given_bound = planned_given _ _ c.requires.planned }

pub returns-in_default-clause-value : goal.returns-in_default-clause-value
returns-in_default-clause-value c = answers_unfit _ _ _ _ _ _ _ c.requires.mode_value c.requires.s_value c.judged.ensures c.in_default.is (rw c.unfit_of.ensures at c.refuse.ensures.value)

pub put_all-session-requires : goal.put_all-session-requires
put_all-session-requires c = answer_room _ _ _ _ _ _ c.requires.mode_value c.requires.planned c.judged.ensures c.in-Some.is

pub note_value-requires : goal.note_value-requires
note_value-requires c = record { asking = answer_asking _ _ c.requires.mode_value _ c.requires.planned; values_len = planned_values _ _ c.requires.planned }

pub overflow_add-k : goal.overflow_add-k
overflow_add-k c = omega (arith, answer_count _ _ c.requires.mode_value _ c.requires.planned)

pub returns-clause-value : goal.returns-clause-value
returns-clause-value c = answers_fit _ _ _ _ _ _ _ _ _ _ c.requires.planned c.requires.mode_value c.requires.s_value c.judged.ensures c.in-Some.is c.put_all-session.ensures c.note_value.ensures c.waiting-session.ensures
