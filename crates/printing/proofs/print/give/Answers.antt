-- A set straight into the buffer, or by way of one in which every set has room.
use Rattle.printing.proofs.Printed.{set_within, set_size, set_handed, set_given}
use Rattle.printing.proofs.print.give.Goals as goal

pub returns-then-buf-ge-SET : goal.returns-then-buf-ge-SET
returns-then-buf-ge-SET c = search set_given

pub slice_bounds-out-end : goal.slice_bounds-out-end
slice_bounds-out-end c = search set_within

pub slice_bounds-hand-end : goal.slice_bounds-hand-end
slice_bounds-hand-end c = search set_size

pub returns : goal.returns
returns c = search set_handed
