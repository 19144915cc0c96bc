-- `put_decimal` writes `decimal`: one digit below 10, and what `put_tens` writes from there on.
use native.Mathlib.Omega.{arith}
use borrow.Author.Rules.{rules}
use Rattle.text.proofs.Written.{digits_one, decimal_one}
use Rattle.text.proofs.write.put_decimal.Goals as goal

pub put-requires : goal.put-requires
put-requires c = let one = digits_one c.args.n (omega arith) in omega arith

pub returns-then-n-lt10 : goal.returns-then-n-lt10
returns-then-n-lt10 c = search (rules, decimal_one)
