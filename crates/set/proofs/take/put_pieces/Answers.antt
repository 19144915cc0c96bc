-- The loop writes one piece after the other.
use Rattle.set.proofs.Numbers.{going_begins, going_room, going_told, going_turns, going_ends}
use Rattle.set.proofs.take.put_pieces.Goals as goal

pub loop-k-init : goal.loop-k-init
loop-k-init c = search going_begins

pub put_piece-next-requires : goal.put_piece-next-requires
put_piece-next-requires c = record { piece_told = search going_told; i_in_bounds = search going_room }

pub loop-k-preserved : goal.loop-k-preserved
loop-k-preserved c = search going_turns

pub returns : goal.returns
returns c = search going_ends
