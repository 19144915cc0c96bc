-- The numbers of a bench that calls lead to are those of a class.
use Rattle.bench.proofs.Counting.{counts}
use Rattle.bench.proofs.Bench.sets_left.Goals as goal

pub sets_left-requires : goal.sets_left-requires
sets_left-requires c = counts _ c.requires
