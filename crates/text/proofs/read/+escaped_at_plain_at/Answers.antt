-- `plain_at` and `escaped_at` answer where the paper's two moods close, one law for each return. The plain mood goes on where its run ends, and each call is behind the last, so what is left of the line falls.
use native.Mathlib.Omega.{arith}
use borrow.Author.Rules.{rules}
use Rattle.text.specs.Place.{run_end}
use Rattle.text.proofs.Quote.{plain_run, plain_open, plain_shut, plain_turns, run_turns, escaped_open, escaped_goes}
use Rattle.text.proofs.read.+escaped_at_plain_at.Goals as goal

pub escaped_at-returns-then-s-at : goal.escaped_at-returns-then-s-at
unfolding run_end
escaped_at-returns-then-s-at t c = search (rules, escaped_open)

pub escaped_at-returns : goal.escaped_at-returns
unfolding run_end
escaped_at-returns t c = search (rules, escaped_goes)

pub plain_at-returns-then-s-end : goal.plain_at-returns-then-s-end
unfolding run_end
plain_at-returns-then-s-end t c = search (rules, plain_run, plain_open)

pub plain_at-returns-then-s-end-eq34 : goal.plain_at-returns-then-s-end-eq34
unfolding run_end
plain_at-returns-then-s-end-eq34 t c = search (rules, plain_run, plain_shut)

pub plain_at-returns : goal.plain_at-returns
unfolding run_end
plain_at-returns t c = search (rules, plain_run, plain_turns, run_turns)

pub plain_at-overflow_sub-more : goal.plain_at-overflow_sub-more
unfolding run_end
plain_at-overflow_sub-more t c = omega arith

pub plain_at-overflow_add-more : goal.plain_at-overflow_add-more
unfolding run_end
plain_at-overflow_add-more t c = omega arith

pub plain_at-escaped_at-requires : goal.plain_at-escaped_at-requires
unfolding run_end
plain_at-escaped_at-requires t c = omega arith

pub plain_at-bounds-s-end : goal.plain_at-bounds-s-end
unfolding run_end
plain_at-bounds-s-end t c = omega arith

pub plain_at-overflow_add-end : goal.plain_at-overflow_add-end
unfolding run_end
plain_at-overflow_add-end t c = omega arith
