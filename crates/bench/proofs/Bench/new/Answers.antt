-- A bench of zeros, but for the tablet last served.
use borrow.Author.Rules.{rules}
use Rattle.tablets.proofs.Beginning.{zeros_begin}
use Rattle.bench.proofs.Bench.new.Goals as goal

pub returns : goal.returns
returns c = zeros_begin
