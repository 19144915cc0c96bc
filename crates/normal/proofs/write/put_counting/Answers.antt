-- `put_counting` writes a `C` line.
use Rattle.normal.proofs.Piece.{rooms, head_then, part_then, commas_last}
use Rattle.paper.specs.Byte.{bytes}
use Rattle.paper.specs.Write.{normal, line_text, define_text}
use Rattle.normal.proofs.write.put_counting.Goals as goal

pub put_counter-a-requires : goal.put_counter-a-requires
unfolding normal line_text define_text bytes
put_counter-a-requires c = omega rooms

pub put_step_part-b-requires : goal.put_step_part-b-requires
unfolding normal line_text define_text bytes
put_step_part-b-requires c = omega rooms

pub put_string-requires-clause-room : goal.put_string-requires-clause-room
unfolding normal line_text define_text bytes
put_string-requires-clause-room c = omega rooms

pub returns : goal.returns
unfolding normal line_text define_text bytes
returns c = search (head_then, part_then, commas_last)
