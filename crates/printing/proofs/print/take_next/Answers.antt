-- A take while Printing, and in every other state.
use Rattle.printing.proofs.Printed.{takes_nothing}
use Rattle.session.proofs.Tags.{tags}
use Rattle.printing.proofs.print.take_next.Goals as goal

pub returns-in_default-clause-value : goal.returns-in_default-clause-value
returns-in_default-clause-value c = search (takes_nothing, tags)
