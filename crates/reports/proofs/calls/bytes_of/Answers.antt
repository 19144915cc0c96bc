-- As many as the answer says, or none.
use Rattle.reports.proofs.Saying.{bytes_told}
use Rattle.reports.proofs.calls.bytes_of.Goals as goal

pub returns : goal.returns
returns c = search bytes_told
