-- `put_mark` writes what goes before a byte: a backslash, or nothing.
use native.Mathlib.Omega.{arith}
use mathlib.Core.Path.{ap}
use lib.ListN.{length}
use Rattle.text.proofs.Content.{mark_either, put_either, put_unmarked}
use Rattle.text.proofs.write.put_mark.Goals as goal

pub put-requires : goal.put-requires
put-requires c = let one = ap length (mark_either c.args.b c.in-92.is) in omega arith

pub returns-in-92 : goal.returns-in-92
returns-in-92 c = search put_either

pub returns-in_default : goal.returns-in_default
returns-in_default c = search put_unmarked
