-- Where a run of the program of one tablet stands behind the three lines, and what they add to its outputs.
use Rattle.std.specs.Prelude.{ℕ, ◌+◌, ◌≡◌, true, List, [], ◌++◌}
use Rattle.paper.specs.Refusal.{refused}
use Rattle.paper.specs.Bench.{idle}
use Rattle.paper.specs.State.{Led}
use Rattle.paper.specs.Program.{Output, err_of, to_take}
use Rattle.paper.specs.Freeing.{why_broken, why_finish}
use Rattle.command.specs.View.{width}
use Rattle.flow.specs.Emit.{Standing}
use Rattle.flow.specs.Fill.{Desk}
use Rattle.program.specs.Pass.{Passes}

-- Idle before the store that was there, with nothing waiting, and three lines later
unfoldable pub freed_at : Standing → Standing
freed_at s = record { bench = record { forms = s.bench.forms; session = idle }; wait = []; lines = s.lines + 3; left = 0 }

-- two refusals under their numbers, and nothing to standard output
unfoldable pub freeing_says : Standing → Output
freeing_says s =
    record { out = []; err = err_of (s.lines + 1) (refused (why_broken s.wait)) ++ err_of (s.lines + 2) (refused (why_finish s.bench.session)) }

-- a run with a bench that calls lead to, and as many sets to be taken as that has left
pub record Due (s : Standing) : Type 0 where
  pub led : Led width s.bench
  pub due : s.left ≡ to_take s.bench.session

-- pieces of input, each passed on to its end, from one run in memory to another
pub data Pieces : Desk → List ℕ → Desk → Type 0 where
  none : {d : Desk} → Pieces d [] d
  piece : {d e f : Desk} {input rest : List ℕ} {next : ℕ} → Passes d input e next true → Pieces e rest f → Pieces d (input ++ rest) f
