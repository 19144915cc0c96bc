-- `put_tens` writes `decimal` from 10 on: two digits, or the digits of the tens and the last one behind them. The number falls with each call.
use Prim.Native.Nat.{◌/◌}
use native.Mathlib.Omega.{arith}
use borrow.Author.Rules.{rules}
use Rattle.text.proofs.Written.{digits_one, digits_more, decimal_two, decimal_more}
use Rattle.text.proofs.write.+put_tens.Goals as goal

pub put_two-requires : goal.put_two-requires
put_two-requires t c = let more = digits_more c.args.n (omega arith) in let one = digits_one (c.args.n / 10) (omega arith) in omega arith

pub returns-then-n-lt100 : goal.returns-then-n-lt100
returns-then-n-lt100 t c = search (rules, decimal_two)

pub put_tens-next-requires : goal.put_tens-next-requires
put_tens-next-requires t c = let more = digits_more c.args.n (omega arith) in omega arith

pub put-requires : goal.put-requires
put-requires t c = let more = digits_more c.args.n (omega arith) in omega arith

pub returns : goal.returns
returns t c = search (rules, decimal_more)
