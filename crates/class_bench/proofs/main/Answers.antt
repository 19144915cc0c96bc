-- Arrays of zeros, but for the tablet last served, are a class that has just begun.
use borrow.Author.Rules.{rules}
use Rattle.class_bench.proofs.Beginning.{zeros_start}
use Rattle.class_bench.proofs.main.Goals as goal

pub run-requires : goal.run-requires
run-requires c = zeros_start
