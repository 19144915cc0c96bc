-- `put_escaped_byte` writes the escaping of one byte: what goes before it, and the byte.
use native.Mathlib.Omega.{arith}
use Rattle.text.proofs.Content.{escape_length, marked_room, put_marked}
use Rattle.text.proofs.write.put_escaped_byte.Goals as goal

pub put_mark-next-requires : goal.put_mark-next-requires
put_mark-next-requires c = omega (arith, escape_length c.args.b)

pub put-requires : goal.put-requires
put-requires c = search marked_room

pub returns : goal.returns
returns c = search put_marked
