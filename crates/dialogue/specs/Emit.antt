-- The output of a class's run, piece of input by piece: what is written next depends on where the run stands.
use Rattle.std.specs.Prelude.{ℕ, List, [], ◌∷◌, ◌++◌, eqb}
use Rattle.paper.specs.Byte.{when◌then◌else◌}
use Rattle.paper.specs.Line.{lf, is_dropped}
use Rattle.paper.specs.Class.{Class, begin_class, Reply}
use Rattle.paper.specs.ClassProgram.{asked_in, reply_for, record_of}
use Rattle.command.specs.View.{width}

-- where a run stands: the class, and what came of an input line
pub record Standing : Type 0 where
  pub class : Class
  pub wait : List ℕ

-- the start
abbrev pub start : Standing
start = record { class = begin_class; wait = [] }

-- the record of a call
unfoldable pub record_for : Reply → List ℕ
record_for r = record_of r.answer r.whose r.next

-- what an input line leads to
unfoldable pub line_reply : Class → List ℕ → Reply
line_reply c s = reply_for width c (asked_in s)

-- the next line was answered
unfoldable pub answered : Standing → List ℕ → Standing
answered s w = record { class = (line_reply s.class w).next; wait = [] }

-- and what that adds: its record
unfoldable pub answered_says : Standing → List ℕ → List ℕ
answered_says s w = record_for (line_reply s.class w)

-- more bytes wait
unfoldable pub waiting : Standing → List ℕ → Standing
waiting s w = record { class = s.class; wait = w }

-- a byte of input: an LF has the line answered, a CR or 1AH leaves no trace, and all others wait
unfoldable pub step : Standing → ℕ → Standing
step s b = when eqb b lf then answered s s.wait else when is_dropped b then s else waiting s (s.wait ++ (b ∷ []))

-- and what it adds
unfoldable pub step_says : Standing → ℕ → List ℕ
step_says s b = when eqb b lf then answered_says s s.wait else []

-- a piece of input, byte by byte
unfoldable pub after : Standing → List ℕ → Standing
after s [] = s
after s (b ∷ input) = after (step s b) input

-- and what it adds
unfoldable pub emit : Standing → List ℕ → List ℕ
emit s [] = []
emit s (b ∷ input) = step_says s b ++ emit (step s b) input
