-- `put_direction` writes a `Z` line.
use Rattle.normal.proofs.Piece.{rooms, byte_then}
use Rattle.paper.specs.Byte.{bytes}
use Rattle.paper.specs.Write.{normal, line_text, draw_text}
use Rattle.normal.proofs.write.put_direction.Goals as goal

pub put-a-requires : goal.put-a-requires
unfolding normal line_text draw_text bytes
put-a-requires c = omega rooms

pub put_letter-requires : goal.put_letter-requires
unfolding normal line_text draw_text bytes
put_letter-requires c = omega rooms

pub returns : goal.returns
unfolding normal line_text draw_text bytes
returns c = search byte_then
