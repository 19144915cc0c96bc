-- `two_digits_at` says what `two_digits` reads: one digit after another, each at most 9.
use borrow.Author.Rules.{rules}
use native.Mathlib.Omega.{arith}
use Rattle.paper.specs.Line.{two_digits}
use Rattle.text.proofs.Place.{reading}
use Rattle.text.proofs.Digits.{digit_small}
use Rattle.text.proofs.read.two_digits_at.Goals as goal

pub returns-in_err-tens : goal.returns-in_err-tens
unfolding two_digits
returns-in_err-tens c = rw c.from_residual.ensures (search (reading, c.in_err-tens.was))

pub returns-in_err-ones : goal.returns-in_err-ones
unfolding two_digits
returns-in_err-ones c = rw c.from_residual-in_err-ones.ensures (search (reading, c.in_ok-tens.was, c.in_err-ones.was))

pub overflow_mul-result : goal.overflow_mul-result
overflow_mul-result c = let k = digit_small _ _ _ _ c.digit_at.ensures c.in_ok-tens.was in omega arith

pub overflow_add-result : goal.overflow_add-result
overflow_add-result c = let k = digit_small _ _ _ _ c.digit_at.ensures c.in_ok-tens.was in let m = digit_small _ _ _ _ c.digit_at-2.ensures c.in_ok-ones.was in omega arith

pub returns : goal.returns
unfolding two_digits
returns c = search (reading, rules, c.in_ok-tens.was, c.in_ok-ones.was)
