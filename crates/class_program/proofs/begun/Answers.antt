-- A class that has just begun, and a run with nothing that waits.
use Rattle.class_program.proofs.Passing.{begins_at}
use Rattle.class_program.proofs.begun.Goals as goal

pub returns : goal.returns
returns c = begins_at _ _ c.requires.begins c.requires.waiting_len
