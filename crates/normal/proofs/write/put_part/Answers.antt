-- `put_part` writes a number and a comma.
use Rattle.normal.proofs.Piece.{rooms, pieces}
use Rattle.normal.proofs.write.put_part.Goals as goal

pub put_decimal-comma-requires : goal.put_decimal-comma-requires
put_decimal-comma-requires c = omega rooms

pub put-requires : goal.put-requires
put-requires c = omega rooms

pub returns : goal.returns
returns c = search pieces
