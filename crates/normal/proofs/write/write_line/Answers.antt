-- `write_line` writes the normal form of a record: built at the front of 256 bytes, and copied where it fits.
use Rattle.normal.proofs.Lent.{meets_out, meets_short, meets_room}
use Rattle.normal.proofs.write.write_line.Goals as goal

pub returns-then-not-is_readable : goal.returns-then-not-is_readable
returns-then-not-is_readable c = search meets_out

pub returns-then-buf-len : goal.returns-then-buf-len
returns-then-buf-len c = search meets_short

pub returns : goal.returns
returns c = search meets_room
