-- A definition is noted number by number, behind those that are noted.
use Rattle.form.proofs.Memory.{define_noted}
use Rattle.form.proofs.plan.note_define.Goals as goal

pub returns : goal.returns
returns c = search define_noted
