-- The bytes have room in the buffer, or it stays as it was.
use Rattle.session.proofs.Lending.{hands_short, hands_bytes}
use Rattle.session.proofs.reply.hand.Goals as goal

pub returns-then-reply-bytes : goal.returns-then-reply-bytes
returns-then-reply-bytes c = search hands_short

pub returns : goal.returns
returns c = search hands_bytes
