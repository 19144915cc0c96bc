-- `put_string` writes a string between its quotes.
use Rattle.command.specs.View.{text_in}
use Rattle.normal.proofs.Piece.{rooms, pieces}
use Rattle.normal.proofs.write.put_string.Goals as goal

pub put-a-requires : goal.put-a-requires
unfolding text_in
put-a-requires c = omega rooms

pub put_content-b-requires-clause-start_in_bounds : goal.put_content-b-requires-clause-start_in_bounds
unfolding text_in
put_content-b-requires-clause-start_in_bounds c = omega rooms

pub put-requires : goal.put-requires
unfolding text_in
put-requires c = omega rooms

pub returns : goal.returns
unfolding text_in
returns c = search pieces
