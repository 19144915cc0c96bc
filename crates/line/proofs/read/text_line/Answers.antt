-- `text_line` gives what `text_line` reads: the setting and the content, the end of the line, and the ranges of both.
use native.Mathlib.Omega.{arith}
use Rattle.paper.specs.Line.{followed}
use Rattle.paper.specs.Read.{text_line, body_shape, judged}
use Rattle.paper.proofs.Law.{if_true, if_false}
use Rattle.text.specs.Place.{said, said_by}
use Rattle.command.specs.View.{view_of, put_of, refusal_of, Stand}
use Rattle.line.specs.Given.{as_record}
use Rattle.command.proofs.Judge.{put_ranges}
use Rattle.line.proofs.Given.{ended_here, content_told, content_stands}
use Rattle.line.proofs.read.text_line.Goals as goal

pub returns : goal.returns
unfolding text_line body_shape judged followed said said_by view_of put_of refusal_of Stand as_record
returns c = record { view = grind (arith, ended_here, content_told, put_ranges, if_true, if_false); stand = grind (arith, content_stands) }
