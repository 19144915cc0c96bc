-- A name and LF are two writes, one behind the other.
use Rattle.store.proofs.Listing.{name_line_written}
use Rattle.store.proofs.put_name.Goals as goal

pub returns : goal.returns
returns c = search name_line_written
