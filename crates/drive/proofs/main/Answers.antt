-- Arrays of zeros, but for the tablet last served, are a bench that is reached.
use borrow.Author.Rules.{rules}
use Rattle.tablets.proofs.Leading.{begins_on}
use Rattle.tablets.proofs.Beginning.{zeros_begin}
use Rattle.drive.proofs.main.Goals as goal

pub play-requires : goal.play-requires
play-requires c = begins_on _ zeros_begin
