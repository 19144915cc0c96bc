-- A line is noted as what it is read as: one that draws, or a definition.
use native.Mathlib.Omega.{arith}
use Rattle.form.proofs.Onward.{end_within, drawn_room, drawn_walks, gap_room, gap_walks}
use Rattle.form.proofs.plan.note_line.Goals as goal

pub overflow_add-end : goal.overflow_add-end
overflow_add-end c = omega (arith, end_within _ _ _ _ c.requires)

pub note_drawn-requires : goal.note_drawn-requires
note_drawn-requires c = search drawn_room

pub returns-in_default : goal.returns-in_default
returns-in_default c = search drawn_walks

pub note_gap-requires : goal.note_gap-requires
note_gap-requires c = search gap_room

pub overflow_add-result : goal.overflow_add-result
overflow_add-result c = omega (arith, end_within _ _ _ _ c.requires)

pub returns : goal.returns
returns c = search gap_walks
