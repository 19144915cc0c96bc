-- `number_at` says what `number` reads: a digit, and what `more_digits` says behind it.
use borrow.Author.Rules.{rules}
use native.Mathlib.Omega.{arith}
use Rattle.paper.specs.Line.{number}
use Rattle.text.proofs.Place.{reading, said_inside}
use Rattle.text.proofs.Digits.{digit_small}
use Rattle.text.proofs.read.number_at.Goals as goal

pub returns-in_err-digit : goal.returns-in_err-digit
unfolding number
returns-in_err-digit c = rw c.from_residual.ensures (search (reading, c.in_err-digit.was))

pub more_digits-requires : goal.more_digits-requires
more_digits-requires c = let small = digit_small _ _ _ _ c.digit_at.ensures c.in_ok-digit.was in
    let inside = said_inside _ _ _ _ c.digit_at.ensures c.in_ok-digit.was in
    omega arith

pub returns : goal.returns
unfolding number
returns c = search (reading, rules, c.in_ok-digit.was)
