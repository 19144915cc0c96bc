-- Only `FS` and `FK` matter to the others, and the first two bytes tell them.
use Rattle.guard.proofs.Reading.{guards_first, guards_second, guards_long}
use Rattle.guard.proofs.guarded.Goals as goal

pub returns-then-byte_at-ne70 : goal.returns-then-byte_at-ne70
returns-then-byte_at-ne70 c = search guards_first

pub returns-then-s-gt-LINE : goal.returns-then-s-gt-LINE
returns-then-s-gt-LINE c = search guards_long

pub returns : goal.returns
returns c = search guards_second
