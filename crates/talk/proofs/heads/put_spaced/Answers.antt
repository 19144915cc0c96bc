-- The space and the digits are two writes, one behind the other.
use borrow.Author.Rules.{rules}
use Prim.Native.Nat.{◌≤◌}
use lib.ListN.{length}
use native.Mathlib.Omega.{arith}
use Rattle.paper.specs.Byte.{decimal}
use Rattle.talk.proofs.Heading.{digits_few, spaced_number}
use Rattle.talk.proofs.heads.put_spaced.Goals as goal

pub put_decimal-requires : goal.put_decimal-requires
put_decimal-requires c = let few : length (decimal c.args.n) ≤ 20 = digits_few _ (search rules) in omega arith

pub returns : goal.returns
returns c = record { writes = search spaced_number; upper_bound = let few = digits_few c.args.n (search rules) in omega arith }
