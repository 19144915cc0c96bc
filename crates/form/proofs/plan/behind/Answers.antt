-- The test tells.
use Rattle.form.proofs.Ends.{opens_behind, closes_behind}
use Rattle.form.proofs.plan.behind.Goals as goal

pub returns-then-opens : goal.returns-then-opens
returns-then-opens c = search opens_behind

pub returns-else-opens : goal.returns-else-opens
returns-else-opens c = search closes_behind
