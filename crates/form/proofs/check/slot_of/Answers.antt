-- `slot_of` tells a value's place by its number.
use Rattle.form.proofs.Slots.{place_none, place_some}
use Rattle.form.proofs.check.slot_of.Goals as goal

pub returns-then-last-n : goal.returns-then-last-n
returns-then-last-n c = search place_none

pub returns : goal.returns
returns c = search place_some
