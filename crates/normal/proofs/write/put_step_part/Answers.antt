-- `put_step_part` writes a step and a comma.
use Rattle.normal.proofs.Piece.{rooms, pieces}
use Rattle.normal.proofs.write.put_step_part.Goals as goal

pub put_step-next-requires : goal.put_step-next-requires
put_step-next-requires c = omega rooms

pub put-requires : goal.put-requires
put-requires c = omega rooms

pub returns : goal.returns
returns c = search pieces
