-- The numbers of a bench that calls lead to are those of a class, which `sets_left` and `all_left` ask for.
use Rattle.tablets.specs.Calls.{Reached, Counts}
use Rattle.tablets.proofs.Leading.{reached_counts}
use Rattle.bench.specs.Whole.{memory}
use Rattle.bench.specs.declared.Bench.{Bench}

pub counts : (h : Bench) → Reached (memory h) → Counts (memory h).held
counts h k = reached_counts (memory h) k
