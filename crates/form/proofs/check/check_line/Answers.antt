-- `check_line` judges a line as what it is told to be: one that draws, or a definition.
use Rattle.form.proofs.Judged.{draw_judged, told_judged}
use Rattle.form.proofs.check.check_line.Goals as goal

pub returns-in-Some-clause-judges : goal.returns-in-Some-clause-judges
returns-in-Some-clause-judges c = search told_judged

pub returns-in-None-clause-judges : goal.returns-in-None-clause-judges
returns-in-None-clause-judges c = search draw_judged
