-- `put_step` writes a sign and a number, case by case.
use Rattle.paper.specs.Byte.{bytes}
use Rattle.paper.specs.Write.{step_text}
use Rattle.command.specs.View.{step_of}
use Rattle.normal.proofs.Piece.{room_is, writes_is, step_is}
use Rattle.normal.proofs.write.put_step.Goals as goal

pub put_marked-requires : goal.put_marked-requires
unfolding step_text step_of bytes
put_marked-requires c = search (room_is, step_is)

pub put_marked-requires-in-Down : goal.put_marked-requires-in-Down
unfolding step_text step_of bytes
put_marked-requires-in-Down c = search (room_is, step_is)

pub returns-in-Up : goal.returns-in-Up
unfolding step_text step_of bytes
returns-in-Up c = search (writes_is, step_is)

pub returns-in-Down : goal.returns-in-Down
unfolding step_text step_of bytes
returns-in-Down c = search (writes_is, step_is)
