-- A value at the end of a line closes the open piece.
use Rattle.form.proofs.Ends.{whole_drawn, tail_inside, number_small, value_drawn}
use Rattle.form.proofs.plan.note_drawn.Goals as goal

pub returns-in_default : goal.returns-in_default
returns-in_default c = search whole_drawn

pub overflow_sub-end : goal.overflow_sub-end
overflow_sub-end c = search tail_inside

pub behind-requires : goal.behind-requires
behind-requires c = search number_small

pub returns : goal.returns
returns c = search value_drawn
