-- `put_letter_part` writes a letter and a comma.
use Rattle.normal.proofs.Piece.{rooms, pieces}
use Rattle.normal.proofs.write.put_letter_part.Goals as goal

pub put_letter-next-requires : goal.put_letter-next-requires
put_letter-next-requires c = omega rooms

pub put-requires : goal.put-requires
put-requires c = omega rooms

pub returns : goal.returns
returns c = search pieces
