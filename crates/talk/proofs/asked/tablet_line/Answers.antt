-- One law for each part, in the order of the parts.
use Rattle.paper.specs.ClassProgram.{tablet_line}
use Rattle.talk.proofs.Asking.{asking}
use Rattle.talk.proofs.asked.tablet_line.Goals as goal

pub returns-in_err-tablet : goal.returns-in_err-tablet
unfolding tablet_line
returns-in_err-tablet c = rw c.from_residual.ensures (search (asking, c.in_err-tablet.was))

pub returns-in_err-at : goal.returns-in_err-at
unfolding tablet_line
returns-in_err-at c = rw c.from_residual-in_err-at.ensures (search (asking, c.in_ok-tablet.was, c.in_err-at.was))

pub returns : goal.returns
unfolding tablet_line
returns c = search (asking, c.in_ok-tablet.was, c.in_ok-at.was)
