-- `line_end` walks to the first LF: the end of the line from `i` on is the end of the whole line.
use Rattle.form.proofs.Lines.{end_here, end_turns, end_none}
use Rattle.form.proofs.walk.line_end.Goals as goal

pub returns-then-text-i-eq10 : goal.returns-then-text-i-eq10
returns-then-text-i-eq10 c = search end_here

pub loop-i-preserved : goal.loop-i-preserved
loop-i-preserved c = search end_turns

pub returns : goal.returns
returns c = search end_none
