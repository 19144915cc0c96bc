-- `line_in` tells a definition by the letter that its line begins with: C and V begin no other line of a form.
use Rattle.form.proofs.Defined.{line_counter, line_variable, line_other}
use Rattle.form.proofs.asked.line_in.Goals as goal

pub returns-in-67 : goal.returns-in-67
returns-in-67 c = search line_counter

pub returns-in-86 : goal.returns-in-86
returns-in-86 c = search line_variable

pub returns-in_default : goal.returns-in_default
returns-in_default c = search line_other
