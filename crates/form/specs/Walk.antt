-- The lines of a text.
use Rattle.std.specs.Prelude.{ℕ, ◌+◌, ◌-◌, ◌≤◌, ◌<◌, ◌≡◌, List, [], ◌∷◌, length, take, drop, eqb, Option, Some, None}
use Rattle.paper.specs.Byte.{when◌then◌else◌}
use Rattle.paper.specs.Line.{lf}
use Rattle.text.specs.Place.{from}
use Rattle.form.specs.declared.walk.Line.{Line}
use Rattle.form.specs.declared.walk.Lines.{Lines}

-- the bytes before the first LF, or all where there is none
unfoldable pub first_line : List ℕ → List ℕ
first_line [] = []
first_line (b ∷ s) = when eqb b lf then [] else (b ∷ first_line s)

-- a part of a text, from its first place up to the place behind it
unfoldable pub part_of : List ℕ → ℕ → ℕ → List ℕ
part_of s start end = take (end - start) (drop start s)

-- the line at a place, with the place behind its LF
pub record Next (s : Lines) (line : Line) (t : Lines) : Type 0 where
  pub before : s.at < length s.text.now
  pub place : line.at ≡ s.at
  pub bytes : line.bytes.now ≡ first_line (from s.text.now s.at)
  pub next : t.at ≡ s.at + length line.bytes.now + 1
  pub text : t.text.now ≡ s.text.now

-- the lines come one after the other, up to the end of the text
unfoldable pub lines_steps : Lines → Option Line → Lines → Type 0
lines_steps s None t = (length s.text.now ≤ s.at) × (t ≡ s)
lines_steps s (Some line) t = Next s line t
