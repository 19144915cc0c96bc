-- The rest of the line is gathered, and the line is heard where it lies. Each need stands by itself, so that each has the checker's steps to itself.
use Rattle.tablets.proofs.Leading.{reached_counts}
use Rattle.flow.proofs.Gathering.{line_shown}
use Rattle.flow.proofs.Filling.{bench_at, room_within, steps_heard}
use Rattle.flow.proofs.fill.step_hear.Goals as goal

pub hear_line-called-requires : goal.hear_line-called-requires
hear_line-called-requires c = record { sole = bench_at c.requires.stands.at; at_in_bounds = (c.requires.room.out_room, c.requires.room.err_room); s_value = line_shown _ _ _ _ _ c.line_of-s.ensures c.requires.clear }

pub sets_left-left-requires : goal.sets_left-left-requires
sets_left-left-requires c = reached_counts _ c.hear_line-called.ensures.reached

pub returns : goal.returns
returns c = steps_heard c.requires.stands (room_within _ _ _ _ _ _ c.requires.room) c.requires.left_value _ c.requires.ending.0 c.requires.ending.1 _ _ c.gather-n.ensures _ c.line_of-s.ensures _ _ _ _ _ c.hear_line-called.ensures _ c.sets_left-left.ensures
