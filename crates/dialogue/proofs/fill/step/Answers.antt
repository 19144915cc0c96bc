-- The rest of the input, or a line.
use mathlib.Core.Path.{sym, ◌∙◌}
use borrow.Author.Rules.{rules}
use Rattle.flow.proofs.Cutting.{ends_before}
use Rattle.dialogue.proofs.Filling.{line_at, room_within, steps_waits}
use Rattle.dialogue.proofs.fill.step.Goals as goal

pub cut_at-end-requires : goal.cut_at-end-requires
cut_at-end-requires c = c.requires.room.next_inside

pub put_kept-len-requires : goal.put_kept-len-requires
put_kept-len-requires c = line_at c.requires.stands.at

pub returns-then-end-input : goal.returns-then-end-input
returns-then-end-input c = steps_waits c.requires.stands (room_within _ _ _ _ _ _ c.requires.room) _ _ (sym c.if-end-input.true ∙ c.cut_at-end.ensures.ending) c.put_kept-len.ensures

pub step_line-requires : goal.step_line-requires
step_line-requires c = record { stands = c.requires.stands; room = c.requires.room; ending = (c.cut_at-end.ensures.ending, ends_before _ _ _ c.requires.room.next_inside c.cut_at-end.ensures.ending c.if-end-input.false); clear = c.cut_at-end.ensures.clear }

pub returns : goal.returns
returns c = c.step_line.ensures
