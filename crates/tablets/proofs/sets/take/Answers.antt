-- The turn by the numbers, the set at that tablet's seat, and where it is accepted the turn and the count put right. Each need stands by itself.
use native.Mathlib.Omega.{arith}
use Rattle.tablets.proofs.Leading.{reached_counts}
use Rattle.tablets.proofs.Taking.{none_takes, turned_sits, refused_takes, seat_whole, moved_counted, accepted_takes}
use Rattle.tablets.proofs.sets.take.Goals as goal

pub turn_of-requires : goal.turn_of-requires
turn_of-requires c = reached_counts _ c.requires

pub returns-in_default : goal.returns-in_default
returns-in_default c = none_takes _ _ c.in_default.ensures c.requires

pub take_seat-answer-requires : goal.take_seat-answer-requires
take_seat-answer-requires c = turned_sits _ _ c.in-Some.ensures c.requires

pub returns-in_default-answer : goal.returns-in_default-answer
returns-in_default-answer c = refused_takes _ _ c.in-Some.ensures _ _ _ _ c.take_seat-answer.ensures _ c.in_default-answer.is c.requires

pub bounds-held-300 : goal.bounds-held-300
bounds-held-300 c = let whole = seat_whole _ _ c.in-Some.ensures _ _ _ _ c.take_seat-answer.ensures c.requires in omega (arith, whole)

pub recount-requires : goal.recount-requires
recount-requires c = let both = moved_counted _ _ c.in-Some.ensures _ _ _ _ c.take_seat-answer.ensures c.requires in record { held_len = both.0; held_bound = both.1 }

pub returns : goal.returns
returns c = accepted_takes _ _ c.in-Some.ensures _ _ _ _ c.take_seat-answer.ensures _ c.in-Ok.is _ c.recount.ensures.held_after c.requires
