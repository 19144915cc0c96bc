-- `put_bar` writes an `L` line.
use Rattle.normal.proofs.Piece.{rooms, pair_then, three_then, commas_last}
use Rattle.normal.specs.Normal.{bar_text}
use Rattle.normal.proofs.write.put_bar.Goals as goal

pub put_pair-a-requires : goal.put_pair-a-requires
unfolding bar_text
put_pair-a-requires c = omega rooms

pub put_three-b-requires : goal.put_three-b-requires
unfolding bar_text
put_three-b-requires c = omega rooms

pub put_decimal-requires : goal.put_decimal-requires
unfolding bar_text
put_decimal-requires c = omega rooms

pub returns : goal.returns
unfolding bar_text
returns c = search (pair_then, three_then, commas_last)
