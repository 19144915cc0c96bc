-- `run_end` answers where a run ends: from `i` on it ends where it ends from the start on, and each return is the law of its byte.
use mathlib.Core.Path.{◌≡◌}
use Rattle.text.specs.Place.{run_end}
use Rattle.text.proofs.read.run_end.Given as goal

abbrev pub invariant-loop-i : goal.invariant-loop-i
invariant-loop-i l = run_end l.s l.i ≡ run_end l.s l.at
