-- A part of the text, and what goes behind it.
use Rattle.set.proofs.Numbers.{piece_within, piece_room, behind_room, piece_writes}
use Rattle.set.proofs.take.put_piece.Goals as goal

pub shown-piece-requires : goal.shown-piece-requires
shown-piece-requires c = search piece_within

pub put_all-next-requires : goal.put_all-next-requires
put_all-next-requires c = search piece_room

pub put_behind-requires : goal.put_behind-requires
put_behind-requires c = record { told = c.requires.piece_told.told; i_in_bounds = behind_room c.args.text.now c.args.answers.now c.args.plan.now c.args.values.now c.args.k c.args.i _ c.shown-piece.ensures _ _ _ _ c.put_all-next.ensures c.requires.i_in_bounds }

pub returns : goal.returns
returns c = piece_writes c.args.text.now c.args.answers.now c.args.plan.now c.args.values.now c.args.k c.args.i _ c.shown-piece.ensures _ _ _ _ c.put_all-next.ensures _ _ c.put_behind.ensures
