-- `check_defined` judges a definition by the place and the len that were read.
use Rattle.form.proofs.Judged.{counter_judged, variable_judged}
use Rattle.form.proofs.check.check_defined.Goals as goal

pub returns-in-Counter-clause-judges : goal.returns-in-Counter-clause-judges
returns-in-Counter-clause-judges c = search counter_judged

pub returns-in-Variable-clause-judges : goal.returns-in-Variable-clause-judges
returns-in-Variable-clause-judges c = search variable_judged
