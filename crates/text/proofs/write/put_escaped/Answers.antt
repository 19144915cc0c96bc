-- `put_escaped` writes the escaping of a text: the loop has written that of its first bytes, and that of those from `i` on is still to come.
use borrow.Author.Rules.{rules}
use Rattle.text.proofs.Written.{writing_begins, writing_room, writing_turns, writing_ends, writes_length}
use Rattle.text.proofs.Content.{escape_next, escape_past}
use Rattle.text.proofs.write.put_escaped.Goals as goal

pub loop-b-init : goal.loop-b-init
loop-b-init c = search (rules, writing_begins)

pub put_escaped_byte-next-requires : goal.put_escaped_byte-next-requires
put_escaped_byte-next-requires c = search (rules, writing_room, escape_next)

pub loop-b-preserved : goal.loop-b-preserved
loop-b-preserved c = search (rules, writing_turns, escape_next)

pub shape_of-buf : goal.shape_of-buf
shape_of-buf c = search (rules, writes_length)

pub returns : goal.returns
returns c = search (rules, writing_ends, escape_past)
