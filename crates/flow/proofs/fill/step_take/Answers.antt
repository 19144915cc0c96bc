-- The set's bytes behind those that wait, and one set less to take.
use Rattle.flow.proofs.Filling.{room_within, steps_takes}
use Rattle.flow.proofs.fill.step_take.Goals as goal

pub returns : goal.returns
returns c = steps_takes c.requires.stands (room_within _ _ _ _ _ _ c.requires.room) c.requires.left_nonzero _ _ _ c.take_set-end.ensures
