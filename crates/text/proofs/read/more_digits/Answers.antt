-- `more_digits` says what `more_digits` reads: the loop keeps what is left to read, and a digit more, or the end, says the whole.
use borrow.Author.Rules.{rules}
use native.Mathlib.Omega.{arith}
use Rattle.text.proofs.Digits.{count_begins, count_turns, count_stops, count_ends, count_small, digit_small}
use Rattle.text.proofs.read.more_digits.Goals as goal

pub loop-init : goal.loop-init
loop-init c = search (rules, count_begins)

pub returns-in_default : goal.returns-in_default
returns-in_default c = search (rules, count_stops)

pub overflow_mul-number : goal.overflow_mul-number
overflow_mul-number c = let h = count_small _ _ _ _ c.loop.invariant in omega arith

pub overflow_add-number : goal.overflow_add-number
overflow_add-number c = let h = count_small _ _ _ _ c.loop.invariant in
    let k = digit_small _ _ _ _ c.digit_at.ensures c.in-Some.is in
    omega arith

pub loop-preserved : goal.loop-preserved
loop-preserved c = search (rules, count_turns)

pub returns : goal.returns
returns c = count_ends _ _ _ _ c.loop.invariant (omega arith)
