-- `literal_at` answers the place of the literal byte, one law for each return.
use Rattle.text.proofs.Content.{literal_next, literal_here}
use Rattle.text.proofs.write.literal_at.Goals as goal

pub returns-then-s-at-eq92 : goal.returns-then-s-at-eq92
returns-then-s-at-eq92 c = search literal_next

pub returns : goal.returns
returns c = search literal_here
