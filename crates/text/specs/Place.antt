-- Places in a line, and the leaf readers: what each answers is the paper's reader on the bytes from a place on.
use Rattle.std.specs.Prelude.{ℕ, suc, ◌+◌, ◌-◌, ◌≤◌, ◌<◌, ◌≡◌, ◌||◌, List, [], ◌∷◌, length, drop, get_or, eqb, Option, Some, None}
use Rattle.paper.specs.Byte.{when◌then◌else◌}
use Rattle.paper.specs.Line.{Got, got, bad, followed, comma, give, plain, quote, backslash}
use Rattle.text.specs.declared.read.Parsed.{Parsed}
use Rattle.text.specs.declared.read.Closing.{Closing}
use Rattle.text.specs.declared.read.Span.{Span}

-- the byte at a place, 0 past the end
unfoldable pub byte_at : List ℕ → ℕ → ℕ
byte_at s at = get_or s at 0

-- the bytes from a place on
unfoldable pub from : List ℕ → ℕ → List ℕ
from s at = drop at s

-- an answer in the paper's words: what the value stands for, and the bytes from the next place on
unfoldable pub said_by : {A B : Type 0} → (A → B) → List ℕ → Option (Parsed A) → Got B
said_by f s (Some p) = got (f p.value) (from s p.next)
said_by f s None = bad

-- the same of a number, which stands for itself
unfoldable pub said : List ℕ → Option (Parsed ℕ) → Got ℕ
said = said_by (λ n. n)

-- the place behind what was read
unfoldable pub place_after : {A : Type 0} → Option (Parsed A) → ℕ
place_after (Some p) = p.next
place_after None = 0

-- an answer that says what a reader of the paper gives, with its next place in the line
pub record Says (s : List ℕ) (g : Got ℕ) (r : Option (Parsed ℕ)) : Type 0 where
  pub says : said s r ≡ g
  pub inside : place_after r ≤ length s

-- a part that was read, with the comma behind it
unfoldable pub with_comma : Got ℕ → Got ℕ
with_comma g = followed g (λ n s. followed (comma s) (λ _. give n))

-- how many bytes stand before the first quote or backslash
unfoldable pub run : List ℕ → ℕ
run [] = 0
run (b ∷ s) = when eqb b quote || eqb b backslash then 0 else suc (run s)

-- the place of the first quote or backslash from a place on, or else the end; past the end the place itself
unfoldable pub run_end : List ℕ → ℕ → ℕ
run_end s at = at + run (from s at)

-- where a string that is being read closes, and how many bytes it has then, with `len` of them read before
unfoldable pub closing : List ℕ → ℕ → Got (List ℕ) → Option Closing
closing s len (got c rest) = Some (record { end = length s - suc (length rest); len = len + length c })
closing s len bad = None

-- a string that starts with a quote at a place: its content from the next place up to the closing quote, and its length
unfoldable pub quoted_at : List ℕ → ℕ → Got (List ℕ) → Option Span
quoted_at s at (got c rest) = Some (record { start = at + 1; end = length s - suc (length rest); len = length c })
quoted_at s at bad = None

-- the content that a paper's string has
unfoldable pub content_of : Got (List ℕ) → List ℕ
content_of (got c rest) = c
content_of bad = []

-- the content of the string whose first byte is at a place
unfoldable pub text_at : List ℕ → ℕ → List ℕ
text_at s start = content_of (plain (from s start))

-- a string whose content starts at a place closes with the quote at another
pub record Closes (s : List ℕ) (start end : ℕ) : Type 0 where
  pub closes : plain (from s start) ≡ got (text_at s start) (from s (end + 1))
  pub inside : end < length s

-- the place of the byte that a string's byte stands for: behind a backslash the next
unfoldable pub literal : List ℕ → ℕ → ℕ
literal s at = when eqb (byte_at s at) backslash then at + 1 else at
