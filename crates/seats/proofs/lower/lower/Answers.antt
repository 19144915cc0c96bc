-- The sessions below the loop's number have followed.
use native.Mathlib.Omega.{arith}
use borrow.Author.Rules.{rules}
use Rattle.seats.proofs.Lowering.{lowered_begins, lowered_turns, lowered_ends}
use Rattle.seats.proofs.lower.lower.Goals as goal

pub loop-k-init : goal.loop-k-init
loop-k-init c = search (rules, lowered_begins)

pub loop-k-preserved : goal.loop-k-preserved
loop-k-preserved c = search (rules, lowered_turns)

pub returns-clause-by_index : goal.returns-clause-by_index
returns-clause-by_index c = lowered_ends _ _ _ _ _ c.loop-k.invariant (omega arith)
