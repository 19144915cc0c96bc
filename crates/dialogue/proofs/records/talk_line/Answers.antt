-- By what the line asks.
use mathlib.Core.Path.{refl, ◌∙◌, ap}
use Rattle.std.specs.Prelude.{Some}
use borrow.Author.Rules.{rules}
use Rattle.dialogue.proofs.Gathering.{shown_rest}
use Rattle.dialogue.proofs.Telling.{starts_inside, room_small, tells_line, tells_take, no_call, tells_none}
use Rattle.dialogue.proofs.records.talk_line.Goals as goal

pub slice_bounds-talk_hear-count : goal.slice_bounds-talk_hear-count
slice_bounds-talk_hear-count c = starts_inside _ _ c.asked_in.ensures _ _ (c.in-Some.is ∙ ap Some c.in-Line.is)

pub slice_bounds-talk_hear-start : goal.slice_bounds-talk_hear-start
slice_bounds-talk_hear-start c = starts_inside _ _ c.asked_in.ensures _ _ (c.in-Some.is ∙ ap Some c.in-Line.is)

pub talk_hear-requires : goal.talk_hear-requires
talk_hear-requires c = record { reached = c.requires.reached; in_bounds = c.requires.in_bounds; s_value = λ y. shown_rest _ _ (c.requires.s_value y) }

pub talk_take-requires : goal.talk_take-requires
talk_take-requires c = record { reached = c.requires.reached; in_bounds = c.requires.in_bounds; room_bound = room_small _ _ c.asked_in.ensures _ (c.in-Some.is ∙ ap Some c.in-Take.is) }

pub returns-in-Line : goal.returns-in-Line
returns-in-Line c = tells_line _ _ _ c.asked_in.ensures _ _ _ _ _ _ _ (c.in-Some.is ∙ ap Some c.in-Line.is) c.talk_hear.ensures

pub returns-in-Take : goal.returns-in-Take
returns-in-Take c = tells_take _ _ _ c.asked_in.ensures _ _ _ _ _ _ (c.in-Some.is ∙ ap Some c.in-Take.is) c.talk_take.ensures

pub returns-in_default : goal.returns-in_default
returns-in_default c = tells_none _ _ _ c.asked_in.ensures _ _ _ _ (no_call _ c.in_default.not-Some) c.put_no.ensures.writes
