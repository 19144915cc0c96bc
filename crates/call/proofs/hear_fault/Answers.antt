-- The line is refused by a step, and the session's numbers go back to memory.
use Rattle.call.proofs.Calling.{slices_ten, slices_kept, slices_refused}
use Rattle.call.proofs.hear_fault.Goals as goal

pub held_of-requires : goal.held_of-requires
held_of-requires c = slices_ten _ _ _ _ _ _ _ _ _ _ _ c.requires

pub refuse-answer-requires : goal.refuse-answer-requires
refuse-answer-requires c = slices_kept _ _ _ _ _ _ _ _ _ _ _ _ c.requires c.held_of.ensures

pub put_held-requires : goal.put_held-requires
put_held-requires c = slices_ten _ _ _ _ _ _ _ _ _ _ _ c.requires

pub returns : goal.returns
returns c s line b w y =
    let same = c.refuse-answer.ensures.same in
    rw (c.name-1.given.1.1 same.name, c.text-1.given.1.1 same.text, c.answers-1.given.1.1 same.answers, c.values-1.given.1.1 same.values)
    (slices_refused _ _ _ _ _ _ _ _ _ _ _ _ c.requires c.held_of.ensures line _ _ _ _ _ _ s b _ _ _ w y c.fault_of.ensures c.refuse-answer.ensures.value c.put_held.ensures)
