-- The readers of parts with more than one number, and of a string that ends the line: their answers in the paper's words.
use Rattle.std.specs.Prelude.{ℕ, ◌+◌, ◌≤◌, ◌≡◌, List, length, Option, Some, None}
use Rattle.paper.specs.Line.{Got, got, bad, Reader, ◌>>=◌, ended, string}
use Rattle.paper.specs.Command as P
use Rattle.text.specs.Place.{from, said_by}
use Rattle.text.specs.declared.read.Parsed.{Parsed}
use Rattle.text.specs.declared.read.Span.{Span}
use Rattle.command.specs.View.{text_in, content_of, Standing, ContentStands}
use Rattle.command.specs.declared.Content.{Content}
use Rattle.line.specs.declared.parts.Value.{Value}
use Rattle.line.specs.declared.parts.Value.TheVariants.{Counter, Variable}

-- a value
unfoldable pub value_of : Value → P.Value
value_of (Counter n) = P.counter n
value_of (Variable n) = P.variable n

-- the strings of a content that was read stand in the line
unfoldable pub Found : List ℕ → Option (Parsed Content) → Type 0
Found s (Some p) = ContentStands s p.value
Found s None = Unit

-- a content as the paper reads it, with its string in the line
pub record ReadsContent (s : List ℕ) (g : Got P.Content) (r : Option (Parsed Content)) : Type 0 where
  pub says : said_by (content_of s) s r ≡ g
  pub stands : Found s r

-- a string at the end of the line
unfoldable pub last_string : Reader (List ℕ)
last_string = do
  t ← string
  ended t

-- the string at a place: the paper reads it, it stands in the line, and nothing follows it
pub record EndsAs (s : List ℕ) (at : ℕ) (span : Span) : Type 0 where
  pub reads : string (from s at) ≡ got (text_in s span) (from s (span.end + 1))
  pub stands : Standing s span
  pub last : length s ≤ span.end + 1

-- the string that a line ends with at a place, or that none does
unfoldable pub LastAt : List ℕ → ℕ → Option Span → Type 0
LastAt s at (Some span) = EndsAs s at span
LastAt s at None = last_string (from s at) ≡ bad
