-- Behind the call the bench is reached, so its numbers are those of a class.
use borrow.Author.Rules.{rules}
use Rattle.tablets.proofs.Leading.{reached_counts}
use Rattle.drive.proofs.lent.shown.Goals as goal

pub show_left-requires : goal.show_left-requires
show_left-requires g c = reached_counts _ c.called-answer.ensures
