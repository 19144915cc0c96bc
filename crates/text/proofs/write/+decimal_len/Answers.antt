-- `decimal_len` counts the digits of `decimal`: one below 10, and one more than the tens. The number falls with each call.
use Prim.Native.Nat.{◌/◌}
use native.Mathlib.Omega.{arith}
use borrow.Author.Rules.{rules}
use Rattle.paper.proofs.Number.{decimal_is_within}
use Rattle.text.proofs.Written.{digits_one, digits_more}
use Rattle.text.proofs.write.+decimal_len.Goals as goal

pub returns-then-n-lt10 : goal.returns-then-n-lt10
returns-then-n-lt10 t c = search (rules, digits_one)

pub overflow_add-result : goal.overflow_add-result
overflow_add-result t c = let few = decimal_is_within 20 (c.args.n / 10) (omega arith) (omega arith) in omega arith

pub returns : goal.returns
returns t c = let more = digits_more c.args.n (omega arith) in omega arith
