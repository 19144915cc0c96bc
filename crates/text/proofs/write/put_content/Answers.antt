-- `put_content` writes the escaping of a string's content: from `i` on the string still closes at `end`, and the escaping of its content from there is still to come. Each turn steps over one byte of the content.
use native.Mathlib.Omega.{arith}
use borrow.Author.Rules.{rules}
use Rattle.text.proofs.Written.{writing_begins, writing_room, writing_turns, writing_ends, writes_length}
use Rattle.text.proofs.Content.{Steps, closes_steps, steps_escape, closes_escape}
use Rattle.text.proofs.write.put_content.Goals as goal

pub loop-i-init : goal.loop-i-init
loop-i-init c = search (rules, writing_begins)

pub bounds-s-literal : goal.bounds-s-literal
bounds-s-literal c = let s : Steps c.args.s.now c.loop-i.i c.args.end c.literal_at-literal.result = search (rules, closes_steps) in omega arith

pub put_escaped_byte-next-requires : goal.put_escaped_byte-next-requires
put_escaped_byte-next-requires c =
    let s : Steps c.args.s.now c.loop-i.i c.args.end c.literal_at-literal.result = search (rules, closes_steps) in
    let next = steps_escape _ _ _ _ s in
    search (rules, writing_room)

pub overflow_add-i : goal.overflow_add-i
overflow_add-i c = let s : Steps c.args.s.now c.loop-i.i c.args.end c.literal_at-literal.result = search (rules, closes_steps) in omega arith

pub loop-i-smaller : goal.loop-i-smaller
loop-i-smaller c = let s : Steps c.args.s.now c.loop-i.i c.args.end c.literal_at-literal.result = search (rules, closes_steps) in omega arith

pub loop-i-preserved : goal.loop-i-preserved
loop-i-preserved c =
    let s : Steps c.args.s.now c.loop-i.i c.args.end c.literal_at-literal.result = search (rules, closes_steps) in
    let next = steps_escape _ _ _ _ s in
    search (rules, writing_turns)

pub shape_of-buf : goal.shape_of-buf
shape_of-buf c = search (rules, writes_length)

pub returns : goal.returns
returns c = search (rules, writing_ends, closes_escape)
