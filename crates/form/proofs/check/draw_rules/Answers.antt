-- `draw_rules` tells the first two lines by their letters, and judges any other by its place and its value.
use Rattle.form.proofs.Judged.{size_rules, direction_rules, early_rules, late_rules}
use Rattle.form.proofs.check.draw_rules.Goals as goal

pub returns-in-81 : goal.returns-in-81
returns-in-81 c = search size_rules

pub returns-in-90 : goal.returns-in-90
returns-in-90 c = search direction_rules

pub returns-then-k-ge2 : goal.returns-then-k-ge2
returns-then-k-ge2 c = search late_rules

pub returns-else-k-ge2 : goal.returns-else-k-ge2
returns-else-k-ge2 c = search early_rules
