-- Each return is the answer that the tests before it lead to.
use Rattle.std.proofs.Common.{rules}
use Rattle.streams.specs.Streams.{tried}
use Rattle.streams.proofs.Telling.{interrupted, blocked, failed}
use Rattle.streams.proofs.told.Goals as goal

pub returns-in-Ok-clause-value : goal.returns-in-Ok-clause-value
unfolding tried
returns-in-Ok-clause-value g c = search rules

pub returns-then-eq-clause-value : goal.returns-then-eq-clause-value
returns-then-eq-clause-value g c = interrupted _ _ _ c.in-Err.is c.from-error.ensures c.if-eq.ensures

pub returns-then-eq-2-clause-value : goal.returns-then-eq-2-clause-value
returns-then-eq-2-clause-value g c = blocked _ _ _ c.in-Err.is c.from-error.ensures c.if-eq.ensures c.if-eq-2.ensures

pub returns-clause-value : goal.returns-clause-value
returns-clause-value g c = failed _ _ _ c.in-Err.is c.from-error.ensures c.if-eq.ensures c.if-eq-2.ensures
