-- `name_in` answers whether the content is a name: its length is, and the bytes passed are, so that those from `i` on decide about the whole content. Each turn steps over one byte of the content.
use native.Mathlib.Omega.{arith}
use borrow.Author.Rules.{rules}
use borrow.Author.Tests.{not-true, not-false}
use Rattle.text.proofs.Content.{Steps, closes_steps}
use Rattle.command.proofs.Held.{walk_turns, walk_stops}
use Rattle.command.proofs.Name.{name_byte, name_judged}
use Rattle.command.proofs.range.name_in.Goals as goal

pub bounds-s-literal : goal.bounds-s-literal
bounds-s-literal c =
    let s : Steps c.args.s.now c.loop-i.i c.args.name.end c.literal_at-literal.result = search (rules, closes_steps) in
    omega (arith, s.inside, c.loop-i.invariant.1.inside)

pub returns-then-not-name_byte : goal.returns-then-not-name_byte
returns-then-not-name_byte c =
    let s : Steps c.args.s.now c.loop-i.i c.args.name.end c.literal_at-literal.result = search (rules, closes_steps) in
    search (name_judged, walk_stops, name_byte, not-true)

pub overflow_add-i : goal.overflow_add-i
overflow_add-i c =
    let s : Steps c.args.s.now c.loop-i.i c.args.name.end c.literal_at-literal.result = search (rules, closes_steps) in
    omega arith

pub loop-i-smaller : goal.loop-i-smaller
loop-i-smaller c =
    let s : Steps c.args.s.now c.loop-i.i c.args.name.end c.literal_at-literal.result = search (rules, closes_steps) in
    omega arith

pub loop-i-preserved : goal.loop-i-preserved
loop-i-preserved c =
    let s : Steps c.args.s.now c.loop-i.i c.args.name.end c.literal_at-literal.result = search (rules, closes_steps) in
    (search (walk_turns, name_byte, not-false), s.left)
