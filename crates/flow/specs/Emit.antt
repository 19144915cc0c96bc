-- The output of a run, piece of input by piece: what is written next depends on where the run stands.
use Rattle.std.specs.Prelude.{ℕ, ◌+◌, ◌-◌, List, [], ◌∷◌, ◌++◌, eqb}
use Rattle.paper.specs.Byte.{when◌then◌else◌}
use Rattle.paper.specs.Line.{lf, is_dropped}
use Rattle.paper.specs.Bench.{Bench, begin, Outcome, hear, take_set}
use Rattle.paper.specs.Program.{Output, enough, out_of, err_of, to_take, takes, after_takes}
use Rattle.command.specs.View.{width}

-- where a run stands: the bench, what came of a line, the lines that have come, and the sets that are still to be taken
pub record Standing : Type 0 where
  pub bench : Bench
  pub wait : List ℕ
  pub lines : ℕ
  pub left : ℕ

-- the start
abbrev pub start : Standing
start = record { bench = begin; wait = []; lines = 0; left = 0 }

-- nothing
abbrev pub silence : Output
silence = record { out = []; err = [] }

-- one output behind another
unfoldable pub joined : Output → Output → Output
joined a b = record { out = a.out ++ b.out; err = a.err ++ b.err }

-- the next line was heard
unfoldable pub heard : Standing → List ℕ → Standing
heard s w =
    let o : Outcome = hear width enough s.bench w in
    record { bench = o.next; wait = []; lines = s.lines + 1; left = to_take o.next.session }

-- and what it adds: its reply, or its refusal under its number
unfoldable pub heard_says : Standing → List ℕ → Output
heard_says s w =
    let o : Outcome = hear width enough s.bench w in
    record { out = out_of o.answer; err = err_of (s.lines + 1) o.answer }

-- one set was taken
unfoldable pub taken : Standing → Standing
taken s = record { bench = (take_set enough s.bench).next; wait = s.wait; lines = s.lines; left = s.left - 1 }

-- and what it adds to standard output; a refusal of it would add nothing, as in the paper's `takes`
unfoldable pub taken_says : Standing → Output
taken_says s = record { out = out_of (take_set enough s.bench).answer; err = [] }

-- all sets were taken
unfoldable pub settled : Standing → Standing
settled s = record { bench = after_takes s.left s.bench; wait = s.wait; lines = s.lines; left = 0 }

-- and what they add
unfoldable pub sets_say : Standing → Output
sets_say s = record { out = takes s.left s.bench; err = [] }

-- more bytes wait
unfoldable pub waiting : Standing → List ℕ → Standing
waiting s w = record { bench = s.bench; wait = w; lines = s.lines; left = s.left }

-- a byte of input: an LF has the line heard, a CR or 1AH leaves no trace, and all others wait
unfoldable pub step : Standing → ℕ → Standing
step s b = when eqb b lf then heard s s.wait else when is_dropped b then s else waiting s (s.wait ++ (b ∷ []))

-- and what it adds
unfoldable pub step_says : Standing → ℕ → Output
step_says s b = when eqb b lf then heard_says s s.wait else silence

-- a piece of input: the sets that are left are taken before each byte and behind the last
unfoldable pub after : Standing → List ℕ → Standing
after s [] = settled s
after s (b ∷ input) = after (step (settled s) b) input

-- and what it adds
unfoldable pub emit : Standing → List ℕ → Output
emit s [] = sets_say s
emit s (b ∷ input) = joined (sets_say s) (joined (step_says (settled s) b) (emit (step (settled s) b) input))
