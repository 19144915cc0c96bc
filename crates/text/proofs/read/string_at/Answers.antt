-- `string_at` answers the span of what `string` reads: no quote, a string left open, or one that closes, one law for each return.
use borrow.Author.Rules.{rules}
use native.Mathlib.Omega.{arith}
use Rattle.text.proofs.Place.{stands}
use Rattle.text.proofs.Quote.{string_none, string_open, string_closes}
use Rattle.text.proofs.read.string_at.Goals as goal

pub returns-then-byte_at-ne34 : goal.returns-then-byte_at-ne34
returns-then-byte_at-ne34 c = search (rules, string_none)

pub overflow_add-start : goal.overflow_add-start
overflow_add-start c = let h = stands _ _ _ c.byte_at.ensures (omega arith) in omega arith

pub returns-in_err-end : goal.returns-in_err-end
returns-in_err-end c = rw c.from_residual.ensures (search (rules, string_open, c.in_err-end.was))

pub returns : goal.returns
returns c = search (string_closes, c.in_ok-end.was)
