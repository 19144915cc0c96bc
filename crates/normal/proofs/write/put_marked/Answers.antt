-- `put_marked` writes a mark and a number.
use Rattle.normal.proofs.Piece.{pieces}
use Rattle.normal.proofs.write.put_marked.Goals as goal

pub returns : goal.returns
returns c = search pieces
