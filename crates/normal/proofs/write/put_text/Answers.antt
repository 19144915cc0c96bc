-- `put_text` writes an `A` line: the letter, the seven parameters and the content.
use Rattle.normal.proofs.Piece.{rooms, pieces}
use Rattle.paper.specs.Byte.{bytes}
use Rattle.paper.specs.Write.{normal, line_text, draw_text}
use Rattle.command.specs.View.{put_of}
use Rattle.normal.proofs.Record.{text_mood, text_content}
use Rattle.normal.proofs.write.put_text.Goals as goal

pub put-a-requires : goal.put-a-requires
unfolding normal line_text draw_text bytes put_of
put-a-requires c = omega rooms

pub put_setting-b-requires : goal.put_setting-b-requires
unfolding normal line_text draw_text bytes put_of
put_setting-b-requires c = record { room = omega rooms; m_bound = search text_mood }

pub put_of-requires-clause-room : goal.put_of-requires-clause-room
unfolding normal line_text draw_text bytes put_of
put_of-requires-clause-room c = omega rooms

pub put_of-requires-clause-content_value_2 : goal.put_of-requires-clause-content_value_2
unfolding normal line_text draw_text bytes put_of
put_of-requires-clause-content_value_2 c = search text_content

pub returns : goal.returns
unfolding normal line_text draw_text bytes put_of
returns c = search pieces
