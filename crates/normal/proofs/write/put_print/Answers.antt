-- `put_print` writes a `P` line.
use Rattle.normal.proofs.Piece.{rooms, pieces}
use Rattle.paper.specs.Byte.{bytes}
use Rattle.paper.specs.Write.{normal}
use Rattle.normal.proofs.write.put_print.Goals as goal

pub put-a-requires : goal.put-a-requires
unfolding normal bytes
put-a-requires c = omega rooms

pub put_part-b-requires : goal.put_part-b-requires
unfolding normal bytes
put_part-b-requires c = omega rooms

pub put_decimal-requires : goal.put_decimal-requires
unfolding normal bytes
put_decimal-requires c = omega rooms

pub returns : goal.returns
unfolding normal bytes
returns c = search pieces
