-- `put_three` writes three numbers, a comma behind each.
use Rattle.normal.proofs.Piece.{rooms, commaed_then}
use Rattle.normal.proofs.write.put_three.Goals as goal

pub put_part-a-requires : goal.put_part-a-requires
put_part-a-requires c = omega rooms

pub put_part-b-requires : goal.put_part-b-requires
put_part-b-requires c = omega rooms

pub put_part-requires : goal.put_part-requires
put_part-requires c = omega rooms

pub returns : goal.returns
returns c = search commaed_then
