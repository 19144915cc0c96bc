-- The kind gives the clause.
use Rattle.set.proofs.Numbers.{count_up, count_down}
use Rattle.set.proofs.take.value_at.Goals as goal

pub returns-then-kind-eq-UP : goal.returns-then-kind-eq-UP
returns-then-kind-eq-UP c = search count_up

pub returns-else-kind-eq-UP : goal.returns-else-kind-eq-UP
returns-else-kind-eq-UP c = search count_down
