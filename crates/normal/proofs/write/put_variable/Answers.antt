-- `put_variable` writes a `V` and two digits.
use Rattle.normal.proofs.Piece.{rooms, pieces}
use Rattle.paper.specs.Byte.{bytes}
use Rattle.paper.specs.Write.{two, value_text}
use Rattle.normal.proofs.write.put_variable.Goals as goal

pub put-next-requires : goal.put-next-requires
unfolding value_text two bytes
put-next-requires c = omega rooms

pub put_two-requires : goal.put_two-requires
unfolding value_text two bytes
put_two-requires c = omega rooms

pub returns : goal.returns
unfolding value_text two bytes
returns c = search pieces
