-- The loop keeps what was copied and what is still to come.
use borrow.Author.Rules.{rules}
use native.Mathlib.Omega.{arith}
use Rattle.session.proofs.Naming.{copy_begins, copy_room, copy_inside, copy_onward, copy_turns, copy_ends}
use Rattle.session.proofs.name.name_of.Goals as goal

pub loop-i-init : goal.loop-i-init
loop-i-init c = search (copy_begins, rules)

pub bounds-s-literal : goal.bounds-s-literal
bounds-s-literal c = let l = c.loop-i in copy_inside _ _ _ _ _ _ _ l.invariant (omega arith) c.literal_at-literal.ensures

pub bounds-bytes-len : goal.bounds-bytes-len
bounds-bytes-len c = let l = c.loop-i in copy_room _ _ _ _ _ _ _ l.invariant (omega arith) c.literal_at-literal.ensures

pub overflow_add-len : goal.overflow_add-len
overflow_add-len c = let l = c.loop-i in omega (arith, copy_room _ _ _ _ _ _ _ l.invariant (omega arith) c.literal_at-literal.ensures)

pub overflow_add-i : goal.overflow_add-i
overflow_add-i c = let l = c.loop-i in omega (arith, copy_inside _ _ _ _ _ _ _ l.invariant (omega arith) c.literal_at-literal.ensures)

pub loop-i-smaller : goal.loop-i-smaller
loop-i-smaller c = let l = c.loop-i in omega (arith, copy_onward _ _ _ _ _ _ _ l.invariant (omega arith) c.literal_at-literal.ensures)

pub loop-i-preserved : goal.loop-i-preserved
loop-i-preserved c = search copy_turns

pub returns : goal.returns
returns c = search copy_ends
