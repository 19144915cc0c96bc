-- By whether the set was the last.
use Rattle.session.proofs.Used.{kept_used}
use Rattle.printing.proofs.Printed.{goes_idle, goes_onward}
use Rattle.printing.proofs.print.onward.Goals as goal

pub fresh-requires : goal.fresh-requires
fresh-requires c = kept_used _ c.requires.kept

pub returns-then-next-sets-clause-value : goal.returns-then-next-sets-clause-value
returns-then-next-sets-clause-value c = search goes_idle

pub returns-clause-value : goal.returns-clause-value
returns-clause-value c = search goes_onward
