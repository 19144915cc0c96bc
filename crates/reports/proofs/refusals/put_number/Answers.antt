-- The digits and the byte are two writes, one behind the other.
use Prim.Native.Nat.{◌≤◌}
use lib.ListN.{length}
use native.Mathlib.Omega.{arith}
use borrow.Author.Rules.{rules}
use Rattle.paper.specs.Byte.{decimal}
use Rattle.text.proofs.Written.{writes_then}
use Rattle.reports.proofs.Reporting.{digits_few}
use Rattle.reports.proofs.refusals.put_number.Goals as goal

pub put_decimal-next-requires : goal.put_decimal-next-requires
put_decimal-next-requires c = let few : length (decimal c.args.n) ≤ 20 = digits_few _ (search rules) in omega arith

pub put-requires : goal.put-requires
put-requires c = let few = digits_few c.args.n (search rules) in omega arith

pub returns : goal.returns
returns c = record { writes = search writes_then; upper_bound = let few = digits_few c.args.n (search rules) in omega arith }
