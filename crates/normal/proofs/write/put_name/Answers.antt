-- `put_name` writes a line to the store with a name.
use Rattle.normal.proofs.Piece.{rooms, pair_then}
use Rattle.normal.specs.Normal.{name_text}
use Rattle.normal.proofs.write.put_name.Goals as goal

pub put_pair-a-requires : goal.put_pair-a-requires
unfolding name_text
put_pair-a-requires c = omega rooms

pub put_string-requires-clause-room : goal.put_string-requires-clause-room
unfolding name_text
put_string-requires-clause-room c = omega rooms

pub returns : goal.returns
unfolding name_text
returns c = search pair_then
