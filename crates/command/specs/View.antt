-- The code's records in the paper's words: a command record with the line that it was read from is a reading of that line.
use Rattle.std.specs.Prelude.{ℕ, ◌-◌, ◌<◌, ◌≡◌, true, List, length}
use Rattle.paper.specs.Byte.{every}
use Rattle.paper.specs.Line.{quote}
use Rattle.paper.specs.Command as P
use Rattle.paper.specs.Refusal as R
use Rattle.paper.specs.Read as Read
use Rattle.text.specs.Place.{byte_at, text_at, Closes}
use Rattle.text.specs.declared.read.Span.{Span}
use Rattle.command.specs.declared.Refusal.{Refusal}
use Rattle.command.specs.declared.Refusal.TheVariants as W
use Rattle.command.specs.declared.Content.{Content}
use Rattle.command.specs.declared.Content.TheVariants as C
use Rattle.command.specs.declared.Setting.{Setting}
use Rattle.command.specs.declared.Put.{Put}
use Rattle.command.specs.declared.Bar.{Bar}
use Rattle.command.specs.declared.Step.{Step}
use Rattle.command.specs.declared.Step.TheVariants as S
use Rattle.command.specs.declared.Command.{Command}
use Rattle.command.specs.declared.Command.TheVariants as M

-- the width of the label, in dots
abbrev pub width : ℕ
width = 812

-- the code's refusals under the paper's words, and so with its numbers
unfoldable pub refusal_of : Refusal → R.Refusal
refusal_of W.TooLong = R.too_long
refusal_of W.ControlByte = R.control_byte
refusal_of W.NotNow = R.not_now
refusal_of W.Unknown = R.unknown
refusal_of W.Malformed = R.malformed
refusal_of W.OutOfRange = R.out_of_range
refusal_of W.Overfull = R.overfull
refusal_of W.IsSpoiled = R.is_spoiled
refusal_of (W.Unsound line) = R.unsound line
refusal_of W.NameTaken = R.name_taken
refusal_of W.NoRoom = R.no_room
refusal_of W.Absent = R.absent
refusal_of W.Unfit = R.unfit
refusal_of W.Overrun = R.overrun
refusal_of W.TooShort = R.too_short
refusal_of W.NotPrinting = R.not_printing
refusal_of W.OthersCollect = R.others_collect
refusal_of W.NoTablet = R.no_tablet
refusal_of W.HeldOpen = R.held_open

-- the text of a string that stands in a line
unfoldable pub text_in : List ℕ → Span → List ℕ
text_in s string = text_at s string.start

-- a step
unfoldable pub step_of : Step → P.Step
step_of (S.Up n) = P.up n
step_of (S.Down n) = P.down n

-- a content, its string read off the line
unfoldable pub content_of : List ℕ → Content → P.Content
content_of s (C.Text string) = P.text (text_in s string)
content_of s (C.Counter n) = P.shown (P.counter n)
content_of s (C.Variable n) = P.shown (P.variable n)
content_of s (C.TextCounter string n) = P.joined (text_in s string) (P.counter n)
content_of s (C.TextVariable string n) = P.joined (text_in s string) (P.variable n)

-- the seven parameters of a text before its content
unfoldable pub setting_of : Setting → P.Setting
setting_of t = record { x = t.x; y = t.y; r = t.r; f = t.f; h = t.h; v = t.v; m = t.m }

-- a bar of some pen
unfoldable pub bar_of : P.Pen → Bar → P.Command
bar_of pen b = P.keep (P.draw (P.bar pen b.x b.y b.w b.t))

-- a text, its string read off the line
unfoldable pub put_of : List ℕ → Put → P.Command
put_of s p = P.keep (P.draw (P.put (setting_of p.setting) (content_of s p.content)))

-- a record, its strings read off the line, as a reading
unfoldable pub view_of : List ℕ → Command → Read.Reading
view_of s M.Empty = Read.command P.empty
view_of s M.New = Read.command P.new
view_of s M.Finish = Read.command (P.file P.finish)
view_of s M.Inform = Read.command (P.file P.inform)
view_of s M.Ask = Read.command P.ask
view_of s (M.Size p₁ p₂) = Read.command (P.keep (P.draw (P.size p₁ p₂)))
view_of s (M.Direction d) = Read.command (P.keep (P.draw (P.direction d)))
view_of s (M.Text put) = Read.command (put_of s put)
view_of s (M.Black b) = Read.command (bar_of P.black b)
view_of s (M.Flip b) = Read.command (bar_of P.flip b)
view_of s (M.White b) = Read.command (bar_of P.white b)
view_of s (M.Frame x₁ y₁ t x₂ y₂) = Read.command (P.keep (P.draw (P.frame x₁ y₁ t x₂ y₂)))
view_of s (M.Counting n len step prompt) =
    Read.command (P.keep (P.define (P.counting n len 78 (step_of step) (text_in s prompt))))
view_of s (M.Varying n len prompt) = Read.command (P.keep (P.define (P.varying n len 78 (text_in s prompt))))
view_of s (M.Start name) = Read.command (P.file (P.start (text_in s name)))
view_of s (M.Recall name) = Read.command (P.file (P.recall (text_in s name)))
view_of s (M.Delete name) = Read.command (P.file (P.delete (text_in s name)))
view_of s (M.Print sets copies) = Read.command (P.print sets copies)
view_of s (M.Refused why) = Read.unread (refusal_of why)

-- a string holds in a line: it closes with the quote at its end, and has the length that it says
pub record Holds (s : List ℕ) (string : Span) : Type 0 where
  pub closes : Closes s string.start string.end
  pub counted : string.len ≡ length (text_in s string)

-- a string that stands in a line: it starts behind a quote, and holds
pub record Standing (s : List ℕ) (string : Span) : Type 0 where
  pub opens : byte_at s (string.start - 1) ≡ quote
  pub begins : 0 < string.start
  pub holds : Holds s string

-- a string of shown bytes that has the length that it says
pub record Shown (s : List ℕ) (string : Span) : Type 0 where
  pub counted : string.len ≡ length (text_in s string)
  pub shown : every P.is_shown (text_in s string) ≡ true

-- the string of a content is one
unfoldable pub ContentShown : List ℕ → Content → Type 0
ContentShown s (C.Text string) = Shown s string
ContentShown s (C.Counter n) = Unit
ContentShown s (C.Variable n) = Unit
ContentShown s (C.TextCounter string n) = Shown s string
ContentShown s (C.TextVariable string n) = Shown s string

-- the strings of a content stand in the line
unfoldable pub ContentStands : List ℕ → Content → Type 0
ContentStands s (C.Text string) = Standing s string
ContentStands s (C.Counter n) = Unit
ContentStands s (C.Variable n) = Unit
ContentStands s (C.TextCounter string n) = Standing s string
ContentStands s (C.TextVariable string n) = Standing s string

-- the strings of a record stand in the line
unfoldable pub Stand : List ℕ → Command → Type 0
Stand s M.Empty = Unit
Stand s M.New = Unit
Stand s M.Finish = Unit
Stand s M.Inform = Unit
Stand s M.Ask = Unit
Stand s (M.Size p₁ p₂) = Unit
Stand s (M.Direction d) = Unit
Stand s (M.Text put) = ContentStands s put.content
Stand s (M.Black b) = Unit
Stand s (M.Flip b) = Unit
Stand s (M.White b) = Unit
Stand s (M.Frame x₁ y₁ t x₂ y₂) = Unit
Stand s (M.Counting n len step prompt) = Standing s prompt
Stand s (M.Varying n len prompt) = Standing s prompt
Stand s (M.Start name) = Standing s name
Stand s (M.Recall name) = Standing s name
Stand s (M.Delete name) = Standing s name
Stand s (M.Print sets copies) = Unit
Stand s (M.Refused why) = Unit
