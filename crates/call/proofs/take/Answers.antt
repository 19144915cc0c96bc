-- A set is taken by a step, and the session's numbers go back to memory.
use Rattle.call.proofs.Calling.{slices_ten, slices_showing, slices_taken}
use Rattle.call.proofs.take.Goals as goal

pub held_of-requires : goal.held_of-requires
held_of-requires c = search slices_ten

pub take_next-answer-requires : goal.take_next-answer-requires
take_next-answer-requires c = search slices_showing

pub put_held-requires : goal.put_held-requires
put_held-requires c = slices_ten _ _ _ _ _ _ _ _ _ _ _ c.requires

pub returns : goal.returns
returns c =
    let same = c.take_next-answer.ensures.same in
    rw (c.name-1.given.1.1 same.name, c.text-1.given.1.1 same.text, c.answers-1.given.1.1 same.answers, c.values-1.given.1.1 same.values)
    (slices_taken _ _ _ _ _ _ _ _ _ _ _ _ c.requires c.held_of.ensures _ _ _ _ _ _ _ _ _ c.take_next-answer.ensures.value c.put_held.ensures)
