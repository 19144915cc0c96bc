-- `is_counting` answers whether a counter's definition is held and in range: its prompt, and then its numbers.
use Rattle.normal.proofs.Judged.{counting_hidden, and_passes, told_held, told_counted, told_shown}
use Rattle.normal.proofs.write.is_counting.Goals as goal

pub returns-then-is_shown : goal.returns-then-is_shown
returns-then-is_shown c = search (and_passes, told_held, told_counted, told_shown, c.counting_in.ensures)

pub returns-else-is_shown : goal.returns-else-is_shown
returns-else-is_shown c = search counting_hidden
