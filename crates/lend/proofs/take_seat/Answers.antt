-- The tablet's parts are its session's: the set is taken there, and each part comes back to its place.
use Rattle.lend.proofs.Seating.{sits_reached, sits_inside, seat_takes}
use Rattle.lend.proofs.take_seat.Goals as goal

pub slice_bounds-take-end : goal.slice_bounds-take-end
slice_bounds-take-end c = (sits_inside _ _ c.requires).name

pub slice_bounds-take-end-2 : goal.slice_bounds-take-end-2
slice_bounds-take-end-2 c = (sits_inside _ _ c.requires).text

pub slice_bounds-take-end-3 : goal.slice_bounds-take-end-3
slice_bounds-take-end-3 c = (sits_inside _ _ c.requires).answers

pub slice_bounds-take-end-4 : goal.slice_bounds-take-end-4
slice_bounds-take-end-4 c = (sits_inside _ _ c.requires).values

pub slice_bounds-take-end-5 : goal.slice_bounds-take-end-5
slice_bounds-take-end-5 c = (sits_inside _ _ c.requires).held

pub take-requires : goal.take-requires
take-requires c = sits_reached _ _ c.requires

pub returns : goal.returns
returns c = seat_takes _ _ _ _ _ _ c.take.ensures
