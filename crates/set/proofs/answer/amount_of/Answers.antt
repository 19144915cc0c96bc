-- The loop keeps the number that the digits so far write.
use Rattle.set.proofs.Digits.{sum_breaks, sum_turns, sum_ends}
use Rattle.set.proofs.answer.amount_of.Goals as goal

pub returns-then-not-is_ascii_digit : goal.returns-then-not-is_ascii_digit
returns-then-not-is_ascii_digit c = search sum_breaks

pub loop-b-preserved : goal.loop-b-preserved
loop-b-preserved c = search sum_turns

pub returns : goal.returns
returns c = search sum_ends
