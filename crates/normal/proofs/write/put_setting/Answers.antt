-- `put_setting` writes the seven parameters of a text: its place and its look.
use Rattle.command.specs.View.{setting_of}
use Rattle.normal.proofs.Piece.{rooms, pieces}
use Rattle.normal.proofs.write.put_setting.Goals as goal

pub put_three-a-requires : goal.put_three-a-requires
unfolding setting_of
put_three-a-requires c = omega rooms

pub put_look-requires : goal.put_look-requires
unfolding setting_of
put_look-requires c = omega rooms

pub returns : goal.returns
unfolding setting_of
returns c = search pieces
