-- A bench that has just begun, and a run that has nothing behind it.
use Rattle.program.proofs.Passing.{begins_at}
use Rattle.program.proofs.begun.Goals as goal

pub returns : goal.returns
returns c = begins_at _ _ c.requires.begins c.requires.waiting_len
