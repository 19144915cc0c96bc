-- The plan of a form: what it asks for, in its order, and the pieces of its text that a set shows, each with the value that goes
-- behind it; and both as numbers in memory.
use Rattle.std.specs.Prelude.{ℕ, ◌+◌, ◌-◌, ◌*◌, Bool, true, false, List, [], ◌∷◌, ◌++◌, length, set, eqb}
use Rattle.paper.specs.Line.{quote}
use Rattle.paper.specs.Command as P
use Rattle.paper.specs.Command.{FormLine}
use Rattle.paper.specs.Form.{asked, value_of, len_of}
use Rattle.paper.specs.Write.{value_text, draw_text, define_text}
use Rattle.text.specs.Write.{padded}

-- a value by its number: the counters from 0 on, the variables from 10 on
unfoldable pub number_of : P.Value → ℕ
number_of (P.counter n) = n
number_of (P.variable n) = 10 + n

-- the kinds of a definition: a counter that goes up, one that goes down, a variable
unfoldable pub kind_of : P.Define → ℕ
kind_of (P.counting n len letter (P.up by) prompt) = 0
kind_of (P.counting n len letter (P.down by) prompt) = 1
kind_of (P.varying n len letter prompt) = 2

-- how far a counter steps
unfoldable pub step_size : P.Define → ℕ
step_size (P.counting n len letter (P.up by) prompt) = by
step_size (P.counting n len letter (P.down by) prompt) = by
step_size (P.varying n len letter prompt) = 0

-- four numbers that are put at a place
unfoldable pub four_at : List ℕ → ℕ → (a b c d : ℕ) → List ℕ
four_at xs at a b c d = set (set (set (set xs at a) (at + 1) b) (at + 2) c) (at + 3) d

-- definitions in memory, four numbers each
unfoldable pub defines_in : List P.Define → List ℕ
defines_in [] = []
defines_in (d ∷ ds) = kind_of d ∷ len_of d ∷ step_size d ∷ number_of (value_of d) ∷ defines_in ds

-- what a line that draws shows at its end: nothing but its text, or a value, in a quote of its own or joined to a string
pub data Shows : Type 0 where
  nothing : Shows
  value : (alone : Bool) → P.Value → Shows

unfoldable pub shows_of : P.Draw → Shows
shows_of (P.size p₁ p₂) = nothing
shows_of (P.direction d) = nothing
shows_of (P.put s (P.text t)) = nothing
shows_of (P.put s (P.shown v)) = value true v
shows_of (P.put s (P.joined t v)) = value false v
shows_of (P.bar pen x y w t) = nothing
shows_of (P.frame x₁ y₁ t x₂ y₂) = nothing

-- the bytes of the line that give way to it: those that name the value, and the quote that closes the string before it
unfoldable pub gives_way : Shows → List ℕ
gives_way nothing = []
gives_way (value true v) = value_text v
gives_way (value false v) = quote ∷ value_text v

-- a piece of the text, from a place up to another, and what goes behind it
pub record Piece : Type 0 where
  pub start : ℕ
  pub end : ℕ
  pub behind : Shows

-- a piece is put in front only if it has bytes
unfoldable pub unless_none : Bool → Piece → List Piece → List Piece
unless_none true p ps = ps
unless_none false p ps = p ∷ ps

-- a piece is put in front where a value closes it; otherwise it goes on over the next line
unfoldable pub if_value : Shows → Piece → List Piece → List Piece
if_value nothing p ps = ps
if_value (value alone v) p ps = p ∷ ps

-- the start of the piece that a line leaves open: as it was, or the line's LF where a value has closed one
unfoldable pub opens_at : Shows → (start end : ℕ) → ℕ
opens_at nothing start end = start
opens_at (value alone v) start end = end

-- the place behind a line and its LF
abbrev pub past : ℕ → List ℕ → ℕ
past at line = at + (length line + 1)

-- how lines cut the text, the first of them at `at`, where a piece is open from `since` on; a definition's bytes are in no piece
unfoldable pub pieces : (since at : ℕ) → List FormLine → List Piece
pieces since at [] = unless_none (eqb since at) (record { start = since; end = at; behind = nothing }) []
pieces since at (P.define d ∷ ls) =
    unless_none (eqb since at) (record { start = since; end = at; behind = nothing })
    (pieces (past at (define_text d)) (past at (define_text d)) ls)
pieces since at (P.draw d ∷ ls) =
    if_value (shows_of d) (record { start = since; end = at + (length (draw_text d) - length (gives_way (shows_of d))); behind = shows_of d })
    (pieces (opens_at (shows_of d) since (at + length (draw_text d))) (past at (draw_text d)) ls)

-- what goes behind a piece, as a number: 0 for nothing, odd for a value that closes the quote before it, even for one that opens its own
unfoldable pub behind_in : Shows → ℕ
behind_in nothing = 0
behind_in (value false v) = 1 + number_of v * 2
behind_in (value true v) = 2 + number_of v * 2

-- pieces in memory, three numbers each
unfoldable pub pieces_in : List Piece → List ℕ
pieces_in [] = []
pieces_in (p ∷ ps) = p.start ∷ p.end ∷ behind_in p.behind ∷ pieces_in ps

-- the plan in memory: how many definitions and how many pieces, room for 26 and for 42 of them, 0 behind each
unfoldable pub plan_of : List FormLine → List ℕ
plan_of ls =
    length (asked ls) ∷ length (pieces 0 0 ls) ∷ (padded 104 (defines_in (asked ls)) ++ padded 126 (pieces_in (pieces 0 0 ls)))
