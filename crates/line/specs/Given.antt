-- What reading a line promises: the record is the reading of the line, and its strings stand in it.
use Rattle.std.specs.Prelude.{ℕ, ◌≡◌, List, Result, Ok, Err}
use Rattle.paper.specs.Line.{Got}
use Rattle.paper.specs.Command as P
use Rattle.paper.specs.Read.{Reading, Shape, judged, body_shape, read}
use Rattle.command.specs.View.{width, view_of, Stand}
use Rattle.command.specs.declared.Refusal.{Refusal}
use Rattle.command.specs.declared.Command.{Command}
use Rattle.command.specs.declared.Command.TheVariants.{Refused}

-- what the parts of a line give, a command or why there is none, as the record of the line
unfoldable pub as_record : Result Command Refusal → Command
as_record (Ok c) = c
as_record (Err why) = Refused why

-- a record is a reading of a line
pub record Reads (s : List ℕ) (reading : Reading) (r : Command) : Type 0 where
  pub view : view_of s r ≡ reading
  pub stand : Stand s r

-- a record is what a shape is judged as
abbrev pub Judges : List ℕ → Shape → Command → Type 0
Judges s shape r = Reads s (judged width shape) r

-- a record is what the parts behind the leading letters give
abbrev pub Gives : List ℕ → Got P.Command → Command → Type 0
Gives s g r = Judges s (body_shape g) r

-- a record is what the line reads as
abbrev pub IsRead : List ℕ → Command → Type 0
IsRead s r = Reads s (read width s) r
