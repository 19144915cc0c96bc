-- `variable_in` reads the parts of a definition that a form asks by, and the text of the definition gives them back.
use Rattle.form.proofs.Defined.{variable_parts, defining}
use Rattle.form.proofs.asked.variable_in.Goals as goal

pub returns-in_err-n : goal.returns-in_err-n
unfolding variable_parts
returns-in_err-n c = search (defining, c.in_err-n.was) depth 8

pub returns-in_err-len : goal.returns-in_err-len
unfolding variable_parts
returns-in_err-len c = search (defining, c.in_ok-n.was, c.in_err-len.was) depth 8

pub returns : goal.returns
unfolding variable_parts
returns c = search (defining, c.in_ok-n.was, c.in_ok-len.was) depth 8
