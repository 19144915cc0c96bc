-- The tablet's parts are its session's: the line is refused there, and each part comes back to its place.
use Rattle.lend.proofs.Seating.{sits_reached, sits_inside, seat_hears}
use Rattle.lend.proofs.seat_fault.Goals as goal

pub slice_bounds-hear_fault-end : goal.slice_bounds-hear_fault-end
slice_bounds-hear_fault-end c = (sits_inside _ _ c.requires).name

pub slice_bounds-hear_fault-end-2 : goal.slice_bounds-hear_fault-end-2
slice_bounds-hear_fault-end-2 c = (sits_inside _ _ c.requires).text

pub slice_bounds-hear_fault-end-3 : goal.slice_bounds-hear_fault-end-3
slice_bounds-hear_fault-end-3 c = (sits_inside _ _ c.requires).answers

pub slice_bounds-hear_fault-end-4 : goal.slice_bounds-hear_fault-end-4
slice_bounds-hear_fault-end-4 c = (sits_inside _ _ c.requires).values

pub slice_bounds-hear_fault-end-5 : goal.slice_bounds-hear_fault-end-5
slice_bounds-hear_fault-end-5 c = (sits_inside _ _ c.requires).held

pub hear_fault-requires : goal.hear_fault-requires
hear_fault-requires c = sits_reached _ _ c.requires

pub returns : goal.returns
returns c = λ s line b w k. seat_hears _ _ _ _ _ _ _ (c.hear_fault.ensures s line b w k)
