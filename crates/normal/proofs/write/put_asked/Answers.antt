-- `put_asked` writes the first parts of a `V` line.
use Rattle.normal.proofs.Piece.{rooms, byte_then, commaed_then}
use Rattle.normal.proofs.write.put_asked.Goals as goal

pub put_two_part-b-requires : goal.put_two_part-b-requires
put_two_part-b-requires c = omega rooms

pub put_len-requires : goal.put_len-requires
put_len-requires c = omega rooms

pub returns : goal.returns
returns c = search (byte_then, commaed_then)
