-- Four numbers are put one after the other.
use borrow.Author.Rules.{rules}
use Rattle.form.specs.Plan.{four_at}
use Rattle.form.proofs.plan.put_four.Goals as goal

pub returns-clause-to_after : goal.returns-clause-to_after
unfolding four_at
returns-clause-to_after c = search rules
