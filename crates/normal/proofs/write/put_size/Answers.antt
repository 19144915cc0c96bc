-- `put_size` writes a `Q` line.
use Rattle.normal.proofs.Piece.{rooms, byte_then, part_then, commas_last}
use Rattle.paper.specs.Byte.{bytes}
use Rattle.paper.specs.Write.{normal, line_text, draw_text}
use Rattle.normal.proofs.write.put_size.Goals as goal

pub put-a-requires : goal.put-a-requires
unfolding normal line_text draw_text bytes
put-a-requires c = omega rooms

pub put_part-b-requires : goal.put_part-b-requires
unfolding normal line_text draw_text bytes
put_part-b-requires c = omega rooms

pub put_decimal-requires : goal.put_decimal-requires
unfolding normal line_text draw_text bytes
put_decimal-requires c = omega rooms

pub returns : goal.returns
unfolding normal line_text draw_text bytes
returns c = search (byte_then, part_then, commas_last)
