-- The rest of the line is gathered, and the line is answered where it lies. Each need stands by itself, so that each has the checker's steps to itself.
use mathlib.Core.Path.{sym}
use lib.ListN.{length}
use lib.Seq.{length-take-le}
use borrow.Author.Rules.{rules}
use Rattle.flow.proofs.Gathering.{place_fits}
use Rattle.dialogue.proofs.Gathering.{line_shown}
use Rattle.dialogue.proofs.Filling.{line_at, room_within, steps_answered}
use Rattle.dialogue.proofs.fill.step_line.Goals as goal

pub gather-n-requires : goal.gather-n-requires
gather-n-requires c = line_at c.requires.stands.at

pub talk_line-at-requires : goal.talk_line-at-requires
talk_line-at-requires c = record { reached = c.requires.stands.at.holds.reached; in_bounds = (c.requires.room.reply_room, c.requires.room.out_room); s_value = line_shown _ _ _ _ _ c.line_of-s.ensures c.requires.clear }

pub overflow_add-reach : goal.overflow_add-reach
overflow_add-reach c = place_fits (length c.args.input.now) _ c.well_formed.1.1.1.1.1.1.1.1.1.1.1.1.1.0.1 c.requires.ending.1

pub shape_of-waiting : goal.shape_of-waiting
shape_of-waiting c = c.gather-n.ensures.size

pub returns : goal.returns
returns c = steps_answered c.requires.stands (room_within _ _ _ _ _ _ c.requires.room) _ c.requires.ending.0 c.requires.ending.1 _ c.requires.clear _ _ c.gather-n.ensures _ c.line_of-s.ensures _ _ _ c.talk_line-at.ensures
