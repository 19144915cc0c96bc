-- `counter_in` reads the parts of a definition that a form asks by, and the text of the definition gives them back.
use Rattle.form.proofs.Defined.{counter_parts, defining}
use Rattle.form.proofs.asked.counter_in.Goals as goal

pub returns-in_err-n : goal.returns-in_err-n
unfolding counter_parts
returns-in_err-n c = search (defining, c.in_err-n.was) depth 8

pub returns-in_err-len : goal.returns-in_err-len
unfolding counter_parts
returns-in_err-len c = search (defining, c.in_ok-n.was, c.in_err-len.was) depth 8

pub returns-in_err-letter : goal.returns-in_err-letter
unfolding counter_parts
returns-in_err-letter c = search (defining, c.in_ok-n.was, c.in_ok-len.was, c.in_err-letter.was) depth 8

pub returns-in_err-step : goal.returns-in_err-step
unfolding counter_parts
returns-in_err-step c = search (defining, c.in_ok-n.was, c.in_ok-len.was, c.in_ok-letter.was, c.in_err-step.was) depth 8

pub returns : goal.returns
unfolding counter_parts
returns c = search (defining, c.in_ok-n.was, c.in_ok-len.was, c.in_ok-letter.was, c.in_ok-step.was) depth 8
