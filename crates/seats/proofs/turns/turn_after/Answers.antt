-- What is left to ask gives what was to be found.
use borrow.Author.Rules.{rules}
use Rattle.seats.proofs.Turning.{asking_begins, asking_turns, asking_found, asking_ends}
use Rattle.seats.proofs.turns.turn_after.Goals as goal

pub loop-init : goal.loop-init
loop-init c = search (rules, asking_begins)

pub returns-then-held-k-eq-PRINTING : goal.returns-then-held-k-eq-PRINTING
returns-then-held-k-eq-PRINTING c = asking_found _ _ _ _ _ c.loop.invariant c.loop-test.true c.next_after-k.ensures.value c.if-held-k-eq-PRINTING.true

pub loop-preserved : goal.loop-preserved
loop-preserved c = asking_turns _ _ _ _ _ c.loop.invariant c.loop-test.true c.next_after-k.ensures.value c.if-held-k-eq-PRINTING.false

pub returns : goal.returns
returns c = asking_ends _ _ _ _ c.loop.invariant c.loop-test.false
