-- The loop keeps where the run stands behind what was written out so far.
use mathlib.Core.Path.{sym, ◌∙◌, ap}
use mathlib.Core.Bool.{not, false≢true}
use native.Mathlib.Omega.{arith}
use lib.Seq.{length-take-le}
use borrow.Author.Tests.{not-true}
use Rattle.class_program.proofs.Passing.{passing_begins, passing_inside, passing_waits, passing_less, passing_turns, passes_ends}
use Rattle.class_program.proofs.pass.Goals.{then-not-going-via-then-not-going, then-not-going-via-else-not-going+then-filled}
use Rattle.class_program.proofs.pass.Goals as goal

pub loop-filled-init : goal.loop-filled-init
loop-filled-init g c = passing_begins _ _ _ _ c.requires.stands c.requires.roomy

pub fill-filled-requires : goal.fill-filled-requires
fill-filled-requires g c = let inv = c.loop-filled.invariant in record { stands = inv.stands; inside = passing_inside inv }

pub slice_bounds-write_out-end : goal.slice_bounds-write_out-end
slice_bounds-write_out-end g c = let inv = c.loop-filled.invariant in passing_waits inv _ _ _ c.fill-filled.ensures

pub slice_bounds-write_out-end-in-loop-filled : goal.slice_bounds-write_out-end-in-loop-filled
slice_bounds-write_out-end-in-loop-filled g c = let inv = c.loop-filled.invariant in sym (length-take-le _ _ (passing_waits inv _ _ _ c.fill-filled.ensures))

pub returns-then-not-going : goal.returns-then-not-going
returns-then-not-going g c = let inv = c.loop-filled.invariant in
    passes_ends inv _ _ _ c.fill-filled.ensures c.fill-filled.new.reply (record { all = c.fill-filled.auto.all; names = c.fill-filled.auto.names; texts = c.fill-filled.auto.texts; lens = c.fill-filled.auto.lens; plans = c.fill-filled.auto.plans; filed = c.fill-filled.auto.filed; name = c.fill-filled.auto.name; text = c.fill-filled.auto.text; answers = c.fill-filled.auto.answers; values = c.fill-filled.auto.values; held = c.fill-filled.auto.held; waiting = c.fill-filled.auto.waiting }) c.fill-filled.auto.reply _ c.write_out-going.ensures
    (λ y. elim c.then-not-going.branch [
      | then-not-going-via-then-not-going w ↦ absurd (false≢true (sym (not-true _ (ap not w.if-not-going.true)) ∙ y))
      | then-not-going-via-else-not-going+then-filled w ↦ w.if-filled.true
    ])

pub loop-filled-smaller : goal.loop-filled-smaller
loop-filled-smaller g c = let less = passing_less c.loop-filled.invariant _ _ _ c.fill-filled.ensures c.if-filled.false in let inside = c.fill-filled.ensures.goes.inside in omega (arith, less, inside)

pub loop-filled-preserved : goal.loop-filled-preserved
loop-filled-preserved g c = let inv = c.loop-filled.invariant in passing_turns inv _ _ _ c.fill-filled.ensures _ (record { all = c.fill-filled.auto.all; names = c.fill-filled.auto.names; texts = c.fill-filled.auto.texts; lens = c.fill-filled.auto.lens; plans = c.fill-filled.auto.plans; filed = c.fill-filled.auto.filed; name = c.fill-filled.auto.name; text = c.fill-filled.auto.text; answers = c.fill-filled.auto.answers; values = c.fill-filled.auto.values; held = c.fill-filled.auto.held; waiting = c.fill-filled.auto.waiting }) c.fill-filled.auto.reply
