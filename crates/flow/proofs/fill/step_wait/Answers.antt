-- All that is left of the input waits.
use Rattle.flow.proofs.Filling.{room_within, steps_waits}
use Rattle.flow.proofs.fill.step_wait.Goals as goal

pub returns : goal.returns
returns c = steps_waits c.requires.stands (room_within _ _ _ _ _ _ c.requires.room) c.requires.left_value _ _ c.requires.ending c.put_kept-len.ensures
