-- `is_varying` answers whether a variable's definition is held and in range: its prompt, and then its numbers.
use Rattle.normal.proofs.Judged.{varying_hidden, and_passes, told_held, told_counted, told_shown}
use Rattle.normal.proofs.write.is_varying.Goals as goal

pub returns-then-is_shown : goal.returns-then-is_shown
returns-then-is_shown c = search (and_passes, told_held, told_counted, told_shown, c.varying_in.ensures)

pub returns-else-is_shown : goal.returns-else-is_shown
returns-else-is_shown c = search varying_hidden
