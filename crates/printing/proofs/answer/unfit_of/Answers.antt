-- By its length.
use Rattle.printing.proofs.Answering.{unfit_long, unfit_short}
use Rattle.printing.proofs.answer.unfit_of.Goals as goal

pub returns-then-n-gt-LINE : goal.returns-then-n-gt-LINE
returns-then-n-gt-LINE c = search unfit_long

pub returns : goal.returns
returns c = search unfit_short
