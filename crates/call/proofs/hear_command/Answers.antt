-- A command is obeyed by a step, and the numbers of the session and of the store go back to memory.
use Rattle.listen.proofs.Hearing.{hears_shown}
use Rattle.call.proofs.Calling.{slices_ten, slices_two, slices_at, slices_other, slices_heard}
use Rattle.call.proofs.hear_command.Goals as goal

pub held_of-requires : goal.held_of-requires
held_of-requires c = slices_ten _ _ _ _ _ _ _ _ _ _ _ c.requires.reached

pub filed_of-store-requires : goal.filed_of-store-requires
filed_of-store-requires c = slices_two _ _ _ _ _ _ _ _ _ _ _ c.requires.reached

pub listen-answer-requires : goal.listen-answer-requires
listen-answer-requires c = let h = c.held_of.ensures in record { at = slices_at _ _ _ _ _ _ _ _ _ _ _ _ c.requires.reached h _ c.filed_of-store.ensures; not_answering = slices_other _ _ _ _ _ _ _ _ _ _ _ _ c.requires.reached h c.requires.fact; s_value = c.requires.s_value }

pub put_held-requires : goal.put_held-requires
put_held-requires c = slices_ten _ _ _ _ _ _ _ _ _ _ _ c.requires.reached

pub put_filed-requires : goal.put_filed-requires
put_filed-requires c = slices_two _ _ _ _ _ _ _ _ _ _ _ c.requires.reached

pub returns : goal.returns
returns c =
    let same = c.listen-answer.ensures.same in
    rw (c.name-1.given.1.1 same.name, c.text-1.given.1.1 same.text, c.answers-1.given.1.1 same.answers, c.values-1.given.1.1 same.values)
    (slices_heard _ _ _ _ _ _ _ _ _ _ _ _ c.requires.reached c.held_of.ensures _ c.filed_of-store.ensures _ _ _ _ _ _ _ _ _ _ _ _ _ _ _ _ _ (hears_shown _ _ _ _ _ _ _ _ c.requires.s_value c.listen-answer.ensures.value) c.put_held.ensures c.put_filed.ensures)
