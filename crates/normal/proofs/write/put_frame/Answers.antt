-- `put_frame` writes an `X` line.
use Rattle.normal.proofs.Piece.{rooms, byte_then, three_then, part_then, commas_last}
use Rattle.paper.specs.Byte.{bytes}
use Rattle.paper.specs.Write.{normal, line_text, draw_text}
use Rattle.normal.proofs.write.put_frame.Goals as goal

pub put-a-requires : goal.put-a-requires
unfolding normal line_text draw_text bytes
put-a-requires c = omega rooms

pub put_three-b-requires : goal.put_three-b-requires
unfolding normal line_text draw_text bytes
put_three-b-requires c = omega rooms

pub put_part-c-requires : goal.put_part-c-requires
unfolding normal line_text draw_text bytes
put_part-c-requires c = omega rooms

pub put_decimal-requires : goal.put_decimal-requires
unfolding normal line_text draw_text bytes
put_decimal-requires c = omega rooms

pub returns : goal.returns
unfolding normal line_text draw_text bytes
returns c = search (byte_then, three_then, part_then, commas_last)
