-- An open piece is noted, unless it has no bytes.
use Rattle.form.proofs.Memory.{none_noted, open_noted}
use Rattle.form.proofs.plan.note_open.Goals as goal

pub returns-then-start-end : goal.returns-then-start-end
returns-then-start-end c = search open_noted

pub returns-else-start-end : goal.returns-else-start-end
returns-else-start-end c = search none_noted
