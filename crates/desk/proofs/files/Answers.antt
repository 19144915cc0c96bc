-- The tag, and then the first byte.
use borrow.Author.Tests.{eq-eqb, ne_eqb}
use Rattle.desk.proofs.files.Goals as goal

pub returns-then-tag-ne-IDLE : goal.returns-then-tag-ne-IDLE
returns-then-tag-ne-IDLE c = rw (ne_eqb _ _ c.if-tag-ne-IDLE.true)

pub returns : goal.returns
returns c = rw (eq-eqb _ _ c.if-tag-ne-IDLE.false, c.byte_at.ensures)
