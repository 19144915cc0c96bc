-- `read_kind` gives what the parts of a line of its kind say. The commands that are all letters are named here.
use mathlib.Core.Path.{refl}
use Rattle.paper.specs.Command as P
use Rattle.paper.specs.Command.{in_range, ranges, filing_ranges, all_of}
use Rattle.command.specs.View.{view_of, Stand}
use Rattle.line.specs.Kind.{shape_by}
use Rattle.line.proofs.read.read_kind.Goals as goal

pub returns-in-New : goal.returns-in-New
unfolding shape_by view_of Stand in_range ranges filing_ranges all_of
returns-in-New c = rw c.in-New.is (c.bare.ensures P.new refl refl tt)

pub returns-in-Finish : goal.returns-in-Finish
unfolding shape_by view_of Stand in_range ranges filing_ranges all_of
returns-in-Finish c = rw c.in-Finish.is (c.bare-in-Finish.ensures (P.file P.finish) refl refl tt)

pub returns-in-Inform : goal.returns-in-Inform
unfolding shape_by view_of Stand in_range ranges filing_ranges all_of
returns-in-Inform c = rw c.in-Inform.is (c.bare-in-Inform.ensures (P.file P.inform) refl refl tt)

pub returns-in-Ask : goal.returns-in-Ask
unfolding shape_by view_of Stand in_range ranges filing_ranges all_of
returns-in-Ask c = rw c.in-Ask.is (c.bare-in-Ask.ensures P.ask refl refl tt)
