-- By the tag of the tablet's state: only one that prints has sets left, those that were asked for without those that are out.
use native.Mathlib.Omega.{arith}
use Rattle.tablets.proofs.Left.{counts_length, over_left, silent_left, left_inside, printing_within, printing_left}
use Rattle.tablets.proofs.counts.sets_left.Goals as goal

pub returns-then-t-ge-TABLETS : goal.returns-then-t-ge-TABLETS
returns-then-t-ge-TABLETS c = over_left _ _ c.if-t-ge-TABLETS.true

pub bounds-held-at : goal.bounds-held-at
bounds-held-at c = let n = counts_length _ c.requires in omega (arith, n, c.if-t-ge-TABLETS.false)

pub returns-then-held-at-ne-PRINTING : goal.returns-then-held-at-ne-PRINTING
returns-then-held-at-ne-PRINTING c = silent_left _ _ c.if-t-ge-TABLETS.false c.if-held-at-ne-PRINTING.true

pub bounds-held-at-2 : goal.bounds-held-at-2
bounds-held-at-2 c = left_inside _ _ c.if-t-ge-TABLETS.false 1 (omega arith) c.requires

pub bounds-held-at-3 : goal.bounds-held-at-3
bounds-held-at-3 c = left_inside _ _ c.if-t-ge-TABLETS.false 3 (omega arith) c.requires

pub overflow_sub-result : goal.overflow_sub-result
overflow_sub-result c = printing_within _ _ c.if-t-ge-TABLETS.false c.if-held-at-ne-PRINTING.false c.requires

pub returns : goal.returns
returns c = printing_left _ _ c.if-t-ge-TABLETS.false c.if-held-at-ne-PRINTING.false
