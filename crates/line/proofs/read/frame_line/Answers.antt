-- `frame_line` gives what `frame_line` reads: its parts in a chain, the end of the line, and the ranges.
use native.Mathlib.Omega.{arith}
use Rattle.paper.specs.Line.{followed}
use Rattle.paper.specs.Read.{frame_line, body_shape, judged}
use Rattle.paper.proofs.Law.{if_true, if_false}
use Rattle.text.specs.Place.{said, said_by}
use Rattle.command.specs.View.{view_of, refusal_of, Stand}
use Rattle.line.specs.Given.{as_record}
use Rattle.line.proofs.Given.{ended_here}
use Rattle.line.proofs.read.frame_line.Goals as goal

pub returns : goal.returns
unfolding frame_line body_shape judged followed said said_by view_of refusal_of Stand as_record
returns c = record { view = grind (arith, ended_here, if_true, if_false); stand = grind arith }
