-- None below the loop's number passes.
use native.Mathlib.Omega.{arith}
use borrow.Author.Rules.{rules}
use Rattle.seats.proofs.Neighbours.{passed_begins, passed_own, passed_turns, passed_found, passed_ends}
use Rattle.seats.proofs.beside.is_beside.Goals.{else-k-t-via-then-k-t+else-is_at, else-k-t-via-else-k-t}
use Rattle.seats.proofs.beside.is_beside.Goals as goal

pub loop-k-init : goal.loop-k-init
loop-k-init c = search (rules, passed_begins)

pub returns-then-is_at : goal.returns-then-is_at
returns-then-is_at c = passed_found _ _ _ _ _ _ _ _ c.loop-k.invariant c.loop-k-test.true c.if-k-t.true c.is_at.ensures c.if-is_at.true

pub loop-k-preserved : goal.loop-k-preserved
loop-k-preserved c =
    elim c.else-k-t.branch [
      | else-k-t-via-then-k-t+else-is_at w ↦ passed_turns _ _ _ _ _ _ _ _ c.loop-k.invariant c.loop-k-test.true w.if-k-t.true w.is_at.ensures w.if-is_at.false
      | else-k-t-via-else-k-t w ↦ passed_own _ _ _ _ _ _ _ c.loop-k.invariant w.if-k-t.false
    ]

pub returns : goal.returns
returns c = passed_ends _ _ _ _ _ _ _ c.loop-k.invariant (omega arith)
