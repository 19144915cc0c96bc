-- By what the write came to.
use mathlib.Core.Path.{sym}
use mathlib.Core.Bool.{false≢true}
use Rattle.program.proofs.Passing.{failed_some}
use Rattle.program.proofs.write_both.Goals as goal

pub returns-in-Ok : goal.returns-in-Ok
returns-in-Ok g c e = absurd (false≢true (sym e))

pub returns-in-Err : goal.returns-in-Err
returns-in-Err g c e = search failed_some
