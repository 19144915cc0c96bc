-- Each case of a definition has its numbers.
use Rattle.form.proofs.Ends.{variable_fits, up_noted, down_noted, variable_noted}
use Rattle.form.proofs.plan.note.Goals as goal

pub overflow_add-n : goal.overflow_add-n
overflow_add-n c = search variable_fits

pub returns-in-Up : goal.returns-in-Up
returns-in-Up c = search up_noted

pub returns-in-Down : goal.returns-in-Down
returns-in-Down c = search down_noted

pub returns-in-Variable : goal.returns-in-Variable
returns-in-Variable c = search variable_noted
