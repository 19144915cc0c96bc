-- `N`, the pieces, and `P1,c`, one behind the other.
use Rattle.set.proofs.Putting.{pieces_ready, print_room, copies_room, end_room, set_puts}
use Rattle.set.proofs.take.put_set.Goals as goal

pub put_pieces-end-requires : goal.put_pieces-end-requires
put_pieces-end-requires c = let h = pieces_ready c.args.text.now c.args.answers.now c.args.plan.now c.args.values.now c.args.copies c.args.i _ c.requires.in_bounds _ _ c.put_all-next.ensures c.requires.taking in record { pieces_told = h.0; plan_in_bounds = h.1 }

pub put_all-a-requires : goal.put_all-a-requires
put_all-a-requires c = print_room c.args.text.now c.args.answers.now c.args.plan.now c.args.values.now c.args.copies c.args.i _ c.requires.in_bounds _ _ c.put_all-next.ensures _ _ c.put_pieces-end.ensures c.requires.taking

pub put_decimal-b-requires : goal.put_decimal-b-requires
put_decimal-b-requires c = copies_room c.args.text.now c.args.answers.now c.args.plan.now c.args.values.now c.args.copies c.args.i _ c.requires.in_bounds _ _ c.put_all-next.ensures _ _ c.put_pieces-end.ensures _ _ c.put_all-a.ensures c.requires.taking

pub put-requires : goal.put-requires
put-requires c = end_room c.args.text.now c.args.answers.now c.args.plan.now c.args.values.now c.args.copies c.args.i _ c.requires.in_bounds _ _ c.put_all-next.ensures _ _ c.put_pieces-end.ensures _ _ c.put_all-a.ensures _ _ c.put_decimal-b.ensures c.requires.taking

pub returns : goal.returns
returns c = set_puts c.args.text.now c.args.answers.now c.args.plan.now c.args.values.now c.args.copies c.args.i _ c.requires.in_bounds _ _ c.put_all-next.ensures _ _ c.put_pieces-end.ensures _ _ c.put_all-a.ensures _ _ c.put_decimal-b.ensures _ _ c.put.ensures
