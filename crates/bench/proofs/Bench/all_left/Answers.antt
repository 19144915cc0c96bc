-- The numbers of a bench that calls lead to are those of a class.
use Rattle.bench.proofs.Counting.{counts}
use Rattle.bench.proofs.Bench.all_left.Goals as goal

pub all_left-requires : goal.all_left-requires
all_left-requires c = counts _ c.requires
