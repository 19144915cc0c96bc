-- The sum over the tablets that were asked.
use native.Mathlib.Omega.{arith}
use Rattle.tablets.proofs.Left.{summing_begins, summing_few, summing_turns, summing_ends}
use Rattle.tablets.proofs.counts.all_left.Goals as goal

pub loop-t-init : goal.loop-t-init
loop-t-init c = summing_begins _

pub sets_left-n-requires : goal.sets_left-n-requires
sets_left-n-requires c = c.requires

pub overflow_add-n : goal.overflow_add-n
overflow_add-n c = let few = summing_few _ _ _ c.loop-t.invariant _ c.loop-t-test.true c.requires c.sets_left-n.ensures in omega (arith, few)

pub loop-t-smaller : goal.loop-t-smaller
loop-t-smaller c = omega (arith, c.loop-t-test.true)

pub loop-t-preserved : goal.loop-t-preserved
loop-t-preserved c = summing_turns _ _ _ c.loop-t.invariant _ c.loop-t-test.true c.requires c.sets_left-n.ensures

pub returns : goal.returns
returns c = summing_ends _ _ _ c.loop-t.invariant c.loop-t-test.false
