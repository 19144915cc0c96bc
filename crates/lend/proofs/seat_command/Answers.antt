-- The tablet's parts are its session's: the line is heard there, and each part comes back to its place. Each need stands by itself.
use mathlib.Core.Path.{sym, ◌∙◌}
use Rattle.lend.proofs.Seating.{sits_reached, sits_inside, tag_lent, seat_hears}
use Rattle.lend.proofs.seat_command.Goals as goal

pub slice_bounds-hear_command-end : goal.slice_bounds-hear_command-end
slice_bounds-hear_command-end c = (sits_inside _ _ c.requires.sits).name

pub slice_bounds-hear_command-end-2 : goal.slice_bounds-hear_command-end-2
slice_bounds-hear_command-end-2 c = (sits_inside _ _ c.requires.sits).text

pub slice_bounds-hear_command-end-3 : goal.slice_bounds-hear_command-end-3
slice_bounds-hear_command-end-3 c = (sits_inside _ _ c.requires.sits).answers

pub slice_bounds-hear_command-end-4 : goal.slice_bounds-hear_command-end-4
slice_bounds-hear_command-end-4 c = (sits_inside _ _ c.requires.sits).values

pub slice_bounds-hear_command-end-5 : goal.slice_bounds-hear_command-end-5
slice_bounds-hear_command-end-5 c = (sits_inside _ _ c.requires.sits).held

pub hear_command-requires : goal.hear_command-requires
hear_command-requires c = record { reached = sits_reached _ _ c.requires.sits; fact = (λ e. c.requires.fact (sym (tag_lent c.args.t c.args.held.now) ∙ e)); s_value = c.requires.s_value }

pub returns : goal.returns
returns c = seat_hears _ _ _ _ _ _ _ c.hear_command.ensures
