-- `all_shown` answers whether every byte of a string is shown: the bytes passed are, so that those from `i` on decide. Each turn steps over one byte of the content.
use native.Mathlib.Omega.{arith}
use borrow.Author.Rules.{rules}
use Rattle.text.proofs.Content.{Steps, closes_steps}
use Rattle.command.proofs.Held.{walk_turns, walk_stops, walk_ends}
use Rattle.normal.proofs.Judged.{byte_shown, byte_hidden}
use Rattle.normal.proofs.write.all_shown.Goals as goal

pub bounds-s-literal : goal.bounds-s-literal
bounds-s-literal c =
    let s : Steps c.args.s.now c.loop-i.i c.args.end c.literal_at-literal.result = search (rules, closes_steps) in
    omega arith

pub returns-then-s-literal-lt-SHOWN : goal.returns-then-s-literal-lt-SHOWN
returns-then-s-literal-lt-SHOWN c =
    let s : Steps c.args.s.now c.loop-i.i c.args.end c.literal_at-literal.result = search (rules, closes_steps) in
    search (walk_stops, byte_hidden)

pub loop-i-smaller : goal.loop-i-smaller
loop-i-smaller c =
    let s : Steps c.args.s.now c.loop-i.i c.args.end c.literal_at-literal.result = search (rules, closes_steps) in
    omega arith

pub loop-i-preserved : goal.loop-i-preserved
loop-i-preserved c =
    let s : Steps c.args.s.now c.loop-i.i c.args.end c.literal_at-literal.result = search (rules, closes_steps) in
    let small = c.type_inv.s c.literal_at-literal.result in
    (search (walk_turns, byte_shown), s.left)

pub returns : goal.returns
returns c = search walk_ends
