-- `put_two_part` writes two digits and a comma.
use Rattle.normal.proofs.Piece.{rooms, pieces}
use Rattle.paper.specs.Write.{two}
use Rattle.normal.proofs.write.put_two_part.Goals as goal

pub put_two-next-requires : goal.put_two-next-requires
unfolding two
put_two-next-requires c = omega rooms

pub put-requires : goal.put-requires
unfolding two
put-requires c = omega rooms

pub returns : goal.returns
unfolding two
returns c = search pieces
