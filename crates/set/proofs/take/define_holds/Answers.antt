-- The kind gives the clause.
use Rattle.set.proofs.Numbers.{holds_variable, holds_down, holds_up}
use Rattle.set.proofs.take.define_holds.Goals as goal

pub returns-then-kind-eq-VARIABLE : goal.returns-then-kind-eq-VARIABLE
returns-then-kind-eq-VARIABLE c = search holds_variable

pub returns-then-kind-eq-DOWN : goal.returns-then-kind-eq-DOWN
returns-then-kind-eq-DOWN c = search holds_down

pub returns : goal.returns
returns c = search holds_up
