-- By whether the refusal gives one number or two.
use borrow.Author.Rules.{rules}
use Rattle.talk.proofs.Heading.{one_figure, two_figures}
use Rattle.talk.proofs.heads.put_figures.Goals as goal

pub returns-in_default : goal.returns-in_default
returns-in_default c = record { writes = search one_figure; upper_bound = search rules }

pub returns-in-Unsound : goal.returns-in-Unsound
returns-in-Unsound c = record { writes = search two_figures; upper_bound = search rules }
