-- `run_end` answers where a run ends: from `i` on it ends where it ends from the start on, and each return is the law of its byte.
use Rattle.text.proofs.Quote.{run_over, run_stops, run_goes}
use Rattle.text.proofs.read.run_end.Goals.{in-34, in_default}
use Rattle.text.proofs.read.run_end.Goals as goal

pub returns-then-matches : goal.returns-then-matches
returns-then-matches c = elim c.match-matches.branch [ in-34 w ↦ search run_stops | in_default w ↦ absurd cc ]

pub loop-i-preserved : goal.loop-i-preserved
loop-i-preserved c = elim c.match-matches.branch [ in-34 w ↦ absurd cc | in_default w ↦ search run_goes ]

pub returns : goal.returns
returns c = rw c.max.ensures (search run_over)
