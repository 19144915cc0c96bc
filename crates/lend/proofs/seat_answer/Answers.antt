-- The tablet's parts are its session's: the answer is heard there, and each part comes back to its place.
use mathlib.Core.Path.{◌∙◌}
use Rattle.lend.proofs.Seating.{sits_reached, sits_inside, tag_lent, seat_hears}
use Rattle.lend.proofs.seat_answer.Goals as goal

pub slice_bounds-hear_answer-end : goal.slice_bounds-hear_answer-end
slice_bounds-hear_answer-end c = (sits_inside _ _ c.requires.sits).name

pub slice_bounds-hear_answer-end-2 : goal.slice_bounds-hear_answer-end-2
slice_bounds-hear_answer-end-2 c = (sits_inside _ _ c.requires.sits).text

pub slice_bounds-hear_answer-end-3 : goal.slice_bounds-hear_answer-end-3
slice_bounds-hear_answer-end-3 c = (sits_inside _ _ c.requires.sits).answers

pub slice_bounds-hear_answer-end-4 : goal.slice_bounds-hear_answer-end-4
slice_bounds-hear_answer-end-4 c = (sits_inside _ _ c.requires.sits).values

pub slice_bounds-hear_answer-end-5 : goal.slice_bounds-hear_answer-end-5
slice_bounds-hear_answer-end-5 c = (sits_inside _ _ c.requires.sits).held

pub hear_answer-requires : goal.hear_answer-requires
hear_answer-requires c = record { reached = sits_reached _ _ c.requires.sits; held_value = tag_lent c.args.t c.args.held.now ∙ c.requires.t_value; s_value = c.requires.s_value }

pub returns : goal.returns
returns c = seat_hears _ _ _ _ _ _ _ c.hear_answer.ensures
