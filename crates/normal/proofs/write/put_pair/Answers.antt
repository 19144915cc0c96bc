-- `put_pair` writes two letters.
use Rattle.normal.proofs.Piece.{pieces}
use Rattle.normal.proofs.write.put_pair.Goals as goal

pub returns : goal.returns
returns c = search pieces
