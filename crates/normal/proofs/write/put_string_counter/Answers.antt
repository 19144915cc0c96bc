-- `put_string_counter` writes a string and a counter.
use Rattle.normal.proofs.Piece.{rooms, pieces}
use Rattle.paper.specs.Byte.{bytes}
use Rattle.paper.specs.Write.{content_text, value_text}
use Rattle.normal.proofs.write.put_string_counter.Goals as goal

pub put_string-a-requires-clause-room : goal.put_string-a-requires-clause-room
unfolding content_text value_text bytes
put_string-a-requires-clause-room c = omega rooms

pub put_marked-requires : goal.put_marked-requires
unfolding content_text value_text bytes
put_marked-requires c = omega rooms

pub returns : goal.returns
unfolding content_text value_text bytes
returns c = search pieces
