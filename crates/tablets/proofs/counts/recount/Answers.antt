-- The count by the tests of the code.
use Rattle.tablets.proofs.Left.{recount_same, recount_fewer, recount_more, recount_other}
use Rattle.tablets.proofs.counts.recount.Goals as goal

pub returns-then-was-is : goal.returns-then-was-is
returns-then-was-is c = let both = recount_same _ c.requires.held_len.0 _ _ c.if-was-is.true in record { held_after = both.0; held_len_2 = both.1 }

pub returns-then-was-eq-PRINTING : goal.returns-then-was-eq-PRINTING
returns-then-was-eq-PRINTING c = let both = recount_fewer c.args.held.now c.requires.held_len.0 _ _ c.if-was-is.false c.if-was-eq-PRINTING.true _ c.saturating_sub.ensures in record { held_after = both.0; held_len_2 = both.1 }

pub returns-then-is-eq-PRINTING : goal.returns-then-is-eq-PRINTING
returns-then-is-eq-PRINTING c = let both = recount_more c.args.held.now c.requires.held_len.0 _ _ c.if-was-is.false c.if-was-eq-PRINTING.false c.if-is-eq-PRINTING.true in record { held_after = both.0; held_len_2 = both.1 }

pub returns-else-is-eq-PRINTING : goal.returns-else-is-eq-PRINTING
returns-else-is-eq-PRINTING c = let both = recount_other _ c.requires.held_len.0 _ _ c.if-was-is.false c.if-was-eq-PRINTING.false c.if-is-eq-PRINTING.false in record { held_after = both.0; held_len_2 = both.1 }
