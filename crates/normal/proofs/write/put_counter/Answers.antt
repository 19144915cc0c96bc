-- `put_counter` writes the first parts of a `C` line.
use Rattle.normal.proofs.Piece.{rooms, byte_then, commaed_then}
use Rattle.normal.proofs.write.put_counter.Goals as goal

pub put_part-b-requires : goal.put_part-b-requires
put_part-b-requires c = omega rooms

pub put_len-requires : goal.put_len-requires
put_len-requires c = omega rooms

pub returns : goal.returns
returns c = search (byte_then, commaed_then)
