-- `is_shown` answers whether a string is held and has no byte below 20H.
use Rattle.normal.specs.Normal.{shown_at}
use Rattle.command.specs.View.{text_in}
use Rattle.normal.proofs.Judged.{told_closes, and_passes, and_fails, answered}
use Rattle.normal.proofs.write.is_shown.Goals as goal

pub all_shown-requires : goal.all_shown-requires
all_shown-requires c = search told_closes

pub returns-then-is_held : goal.returns-then-is_held
unfolding shown_at text_in
returns-then-is_held c = search (and_passes, answered)

pub returns-else-is_held : goal.returns-else-is_held
unfolding shown_at
returns-else-is_held c = search and_fails
