-- `comma_after` says what `with_comma` reads: no part, no comma, or both, one law for each return.
use native.Mathlib.Omega.{arith}
use Rattle.text.proofs.Place.{stands, comma_none, comma_lacks, comma_stands}
use Rattle.text.proofs.read.comma_after.Goals as goal

pub returns-in_err-part : goal.returns-in_err-part
returns-in_err-part c = rw c.from_residual.ensures (comma_none _ _ c.in_err-part.was)

pub returns-then-byte_at-ne44 : goal.returns-then-byte_at-ne44
returns-then-byte_at-ne44 c = search (comma_lacks, c.in_ok-part.was)

pub overflow_add-result : goal.overflow_add-result
overflow_add-result c = let h = stands _ _ _ c.byte_at.ensures (omega arith) in omega arith

pub returns : goal.returns
returns c = search (comma_stands, c.in_ok-part.was)
