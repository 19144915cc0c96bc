-- Each return is the law of the bytes that were tested before it.
use Rattle.form.proofs.LastBytes.{whole_short, whole_other, whole_closed, counter_ends, variable_ends}
use Rattle.form.proofs.ending.ending_of.Goals as goal

pub returns-in_default : goal.returns-in_default
returns-in_default c = search whole_short

pub returns-in_default-2 : goal.returns-in_default-2
returns-in_default-2 c = search whole_other

pub returns-then-last-eq34 : goal.returns-then-last-eq34
returns-then-last-eq34 c = search whole_closed

pub returns-then-second-eq67 : goal.returns-then-second-eq67
returns-then-second-eq67 c = search counter_ends

pub returns : goal.returns
returns c = search variable_ends
