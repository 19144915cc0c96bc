-- The test tells.
use Rattle.form.specs.Ending.{value_ending}
use borrow.Author.Rules.{rules}
use Rattle.form.proofs.ending.variable_ending.Goals as goal

pub returns-then-opens : goal.returns-then-opens
unfolding value_ending
returns-then-opens c = search rules

pub returns-else-opens : goal.returns-else-opens
unfolding value_ending
returns-else-opens c = search rules
