-- Writing a record of a line: its normal form, whether some line reads as it, and what the writer answers.
use Rattle.std.specs.Prelude.{ℕ, ◌+◌, ◌≤◌, Bool, true, false, ◌&&◌, List, [], ◌∷◌, length, eqb, Option, Some, None, Result}
use Rattle.paper.specs.Byte.{when◌then◌else◌, decimal, every}
use Rattle.paper.specs.Line.{plain, quoted}
use Rattle.paper.specs.Command as P
use Rattle.paper.specs.Read as Read
use Rattle.paper.specs.Write as Write
use Rattle.paper.specs.Refusal as R
use Rattle.text.specs.Place.{from, closing}
use Rattle.text.specs.declared.read.Span.{Span}
use Rattle.text.specs.declared.read.Closing.{Closing}
use Rattle.command.specs.View.{width, text_in, view_of}
use Rattle.command.specs.Answer.{Meets}
use Rattle.command.specs.declared.Bar.{Bar}
use Rattle.command.specs.declared.Content.{Content}
use Rattle.command.specs.declared.Content.TheVariants as C
use Rattle.command.specs.declared.Command.{Command}
use Rattle.command.specs.declared.Command.TheVariants as M
use Rattle.command.specs.declared.Refusal.{Refusal}

-- a string that is being read closes at a place with a length
unfoldable pub closes_with : ℕ → ℕ → Option Closing → Bool
closes_with end len (Some c) = eqb c.end end && eqb c.len len
closes_with end len None = false

-- a string of a record stands in the source: it closes where the record says and has the length that it says
unfoldable pub held_at : List ℕ → Span → Bool
held_at s string = closes_with string.end string.len (closing s 0 (plain (from s string.start)))

-- and has no byte below 20H
unfoldable pub shown_at : List ℕ → Span → Bool
shown_at s string = held_at s string && every P.is_shown (text_in s string)

-- the string of a content, if it has one
unfoldable pub content_held : List ℕ → Content → Bool
content_held s (C.Text string) = held_at s string
content_held s (C.Counter n) = true
content_held s (C.Variable n) = true
content_held s (C.TextCounter string n) = held_at s string
content_held s (C.TextVariable string n) = held_at s string

-- and has no byte below 20H
unfoldable pub content_shown : List ℕ → Content → Bool
content_shown s (C.Text string) = shown_at s string
content_shown s (C.Counter n) = true
content_shown s (C.Variable n) = true
content_shown s (C.TextCounter string n) = shown_at s string
content_shown s (C.TextVariable string n) = shown_at s string

-- the string of a record, if it has one
unfoldable pub record_held : List ℕ → Command → Bool
record_held s M.Empty = true
record_held s M.New = true
record_held s M.Finish = true
record_held s M.Inform = true
record_held s M.Ask = true
record_held s (M.Size p₁ p₂) = true
record_held s (M.Direction d) = true
record_held s (M.Text put) = content_held s put.content
record_held s (M.Black b) = true
record_held s (M.Flip b) = true
record_held s (M.White b) = true
record_held s (M.Frame x₁ y₁ t x₂ y₂) = true
record_held s (M.Counting n len step prompt) = held_at s prompt
record_held s (M.Varying n len prompt) = held_at s prompt
record_held s (M.Start name) = held_at s name
record_held s (M.Recall name) = held_at s name
record_held s (M.Delete name) = held_at s name
record_held s (M.Print sets copies) = true
record_held s (M.Refused why) = true

-- there is room for a text at a place of a buffer
pub record Room (buf : List ℕ) (at : ℕ) (text : List ℕ) : Type 0 where
  pub fits : at + length text ≤ length buf

-- an `L` line by its second letter
unfoldable pub bar_text : ℕ → Bar → List ℕ
bar_text second b =
    76 ∷ second ∷ Write.commas (decimal b.x ∷ decimal b.y ∷ decimal b.w ∷ decimal b.t ∷ [])

-- an `F` line with a name, by its second letter
unfoldable pub name_text : ℕ → List ℕ → List ℕ
name_text second name = 70 ∷ second ∷ quoted name

-- a reading that some line has: a command in range
unfoldable pub readable : Read.Reading → Bool
readable (Read.command c) = P.in_range width c
readable (Read.unread r) = false

-- the normal form of a reading
unfoldable pub reading_text : Read.Reading → List ℕ
reading_text (Read.command c) = Write.normal c
reading_text (Read.unread r) = []

-- writing a reading
unfoldable pub write_reading : ℕ → Read.Reading → R.Answer
write_reading room (Read.command c) = Write.write width room c
write_reading room (Read.unread r) = R.refused R.out_of_range

-- writing a record with its source: 6 where no line reads as it, else the paper's writing of its reading
unfoldable pub write_of : List ℕ → ℕ → Command → R.Answer
write_of s room c = when record_held s c then write_reading room (view_of s c) else R.refused R.out_of_range

-- `write_line`: that answer, with the lent buffer
pub record WritesLine (s : List ℕ) (c : Command) (old new : List ℕ) (r : Result ℕ Refusal) : Type 0 where
  pub meets : Meets (write_of s (length old) c) old new r
