-- `put_varying` writes a `V` line.
use Rattle.normal.proofs.Piece.{rooms, head_then, commas_last}
use Rattle.paper.specs.Byte.{bytes}
use Rattle.paper.specs.Write.{normal, line_text, define_text}
use Rattle.normal.proofs.write.put_varying.Goals as goal

pub put_asked-a-requires : goal.put_asked-a-requires
unfolding normal line_text define_text bytes
put_asked-a-requires c = omega rooms

pub put_string-requires-clause-room : goal.put_string-requires-clause-room
unfolding normal line_text define_text bytes
put_string-requires-clause-room c = omega rooms

pub returns : goal.returns
unfolding normal line_text define_text bytes
returns c = search (head_then, commas_last)
