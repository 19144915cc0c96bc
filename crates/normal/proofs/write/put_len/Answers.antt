-- `put_len` writes a number and a letter, a comma behind each.
use Rattle.normal.proofs.Piece.{rooms, commaed_then}
use Rattle.normal.proofs.write.put_len.Goals as goal

pub put_part-a-requires : goal.put_part-a-requires
put_part-a-requires c = omega rooms

pub put_letter_part-requires : goal.put_letter_part-requires
put_letter_part-requires c = omega rooms

pub returns : goal.returns
returns c = search commaed_then
