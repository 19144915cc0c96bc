-- The answer is judged by a step, and the session's numbers go back to memory.
use native.Mathlib.Omega.{arith}
use Rattle.call.proofs.Calling.{slices_ten, slices_planned, slices_answering, slices_answered}
use Rattle.call.proofs.hear_answer.Goals as goal

pub bounds-held-1 : goal.bounds-held-1
bounds-held-1 c = omega (arith, slices_ten _ _ _ _ _ _ _ _ _ _ _ c.requires.reached)

pub held_of-requires : goal.held_of-requires
held_of-requires c = slices_ten _ _ _ _ _ _ _ _ _ _ _ c.requires.reached

pub answer-given-requires : goal.answer-given-requires
answer-given-requires c = let h = c.held_of.ensures in record { planned = slices_planned _ _ _ _ _ _ _ _ _ _ _ _ c.requires.reached h; mode_value = slices_answering _ _ _ _ _ _ _ _ _ _ _ _ c.requires.reached h c.requires.held_value; s_value = c.requires.s_value }

pub put_held-requires : goal.put_held-requires
put_held-requires c = slices_ten _ _ _ _ _ _ _ _ _ _ _ c.requires.reached

pub returns : goal.returns
returns c =
    let same = c.answer-given.ensures.same in
    rw (c.name-1.given.1.1 same.name, c.text-1.given.1.1 same.text, c.answers-1.given.1.1 same.answers, c.values-1.given.1.1 same.values)
    (slices_answered _ _ _ _ _ _ _ _ _ _ _ _ c.requires.reached c.held_of.ensures _ _ _ _ _ _ _ _ _ c.requires.s_value c.answer-given.ensures.value c.put_held.ensures)
