-- The kind of a line by its first two bytes, and what the rest of the line must be for each kind.
use Rattle.std.specs.Prelude.{ℕ, List, eqb}
use Rattle.paper.specs.Byte.{when◌then◌else◌}
use Rattle.paper.specs.Line.{ended}
use Rattle.paper.specs.Command as P
use Rattle.paper.specs.Read.{Shape, strange, body_shape, size_line, direction_line, text_line, bar_line, frame_line, counter_line, variable_line, name_line, print_line}
use Rattle.text.specs.Place.{from}
use Rattle.line.specs.declared.kind.Kind.{Kind}
use Rattle.line.specs.declared.kind.Kind.TheVariants.{New, Finish, Inform, Ask, Size, Direction, Text, Black, Flip, White, Frame, Counting, Varying, Start, Recall, Delete, Print, Unknown}

-- the second letter of an `L` line
unfoldable pub bar_kind : ℕ → Kind
bar_kind b = when eqb b 79 then Black else when eqb b 69 then Flip else when eqb b 87 then White else Unknown

-- the second letter of an `F` line
unfoldable pub filing_kind : ℕ → Kind
filing_kind b =
    when eqb b 69 then Finish
    else when eqb b 73 then Inform
    else when eqb b 83 then Start
    else when eqb b 82 then Recall
    else when eqb b 75 then Delete
    else Unknown

-- the first letter, and for `L` and `F` the second
unfoldable pub kind_of : ℕ → ℕ → Kind
kind_of a b =
    when eqb a 78 then New
    else when eqb a 63 then Ask
    else when eqb a 81 then Size
    else when eqb a 90 then Direction
    else when eqb a 65 then Text
    else when eqb a 88 then Frame
    else when eqb a 67 then Counting
    else when eqb a 86 then Varying
    else when eqb a 80 then Print
    else when eqb a 76 then bar_kind b
    else when eqb a 70 then filing_kind b
    else Unknown

-- the shape of a line of a kind: what the paper's row reads behind the leading letters
unfoldable pub shape_by : List ℕ → Kind → Shape
shape_by s New = body_shape (ended P.new (from s 1))
shape_by s Finish = body_shape (ended (P.file P.finish) (from s 2))
shape_by s Inform = body_shape (ended (P.file P.inform) (from s 2))
shape_by s Ask = body_shape (ended P.ask (from s 1))
shape_by s Size = body_shape (size_line (from s 1))
shape_by s Direction = body_shape (direction_line (from s 1))
shape_by s Text = body_shape (text_line (from s 1))
shape_by s Black = body_shape (bar_line P.black (from s 2))
shape_by s Flip = body_shape (bar_line P.flip (from s 2))
shape_by s White = body_shape (bar_line P.white (from s 2))
shape_by s Frame = body_shape (frame_line (from s 1))
shape_by s Counting = body_shape (counter_line (from s 1))
shape_by s Varying = body_shape (variable_line (from s 1))
shape_by s Start = body_shape (name_line P.start (from s 2))
shape_by s Recall = body_shape (name_line P.recall (from s 2))
shape_by s Delete = body_shape (name_line P.delete (from s 2))
shape_by s Print = body_shape (print_line (from s 1))
shape_by s Unknown = strange
