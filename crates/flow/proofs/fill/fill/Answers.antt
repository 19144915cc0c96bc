-- Step by step; the measure is what is left to do.
use native.Mathlib.Omega.{arith}
use mathlib.Core.Path.{◌∙◌}
use Rattle.flow.specs.Fill.{out_full, err_full}
use Rattle.flow.proofs.Filling.{inside_within, filling_turns, fills_used, fills_full, turning_begins}
use Rattle.flow.proofs.fill.fill.Goals as goal
use Rattle.flow.proofs.fill.fill.Goals.{then-out-reach-lt-REPLY_ROOM-via-then-out-reach-lt-REPLY_ROOM, then-out-reach-lt-REPLY_ROOM-via-else-out-reach-lt-REPLY_ROOM+then-err-reach-lt-REFUSAL_ROOM}

pub loop-out-init : goal.loop-out-init
loop-out-init c = turning_begins _ _ _ _ c.requires.stands (inside_within _ _ _ _ _ _ c.requires.inside)

pub overflow_sub-out : goal.overflow_sub-out
overflow_sub-out c = c.loop-out.invariant.filling.within.out_inside

pub returns-then-out-reach-lt-REPLY_ROOM : goal.returns-then-out-reach-lt-REPLY_ROOM
returns-then-out-reach-lt-REPLY_ROOM c =
    let inv = c.loop-out.invariant.filling in
    fills_full inv (elim c.then-out-reach-lt-REPLY_ROOM.branch [
      | then-out-reach-lt-REPLY_ROOM-via-then-out-reach-lt-REPLY_ROOM w ↦ out_full (omega (arith, inv.within.out_inside, w.if-out-reach-lt-REPLY_ROOM.true))
      | then-out-reach-lt-REPLY_ROOM-via-else-out-reach-lt-REPLY_ROOM+then-err-reach-lt-REFUSAL_ROOM w ↦ err_full (omega (arith, inv.within.err_inside, w.if-err-reach-lt-REFUSAL_ROOM.true))
    ])

pub overflow_sub-err : goal.overflow_sub-err
overflow_sub-err c = c.loop-out.invariant.filling.within.err_inside

pub step-filled-requires : goal.step-filled-requires
step-filled-requires c = let inv = c.loop-out.invariant.filling in record { stands = inv.goes.stands; room = record { next_inside = inv.within.next_inside; out_room = omega (arith, inv.within.out_inside, c.if-out-reach-lt-REPLY_ROOM.false); err_room = omega (arith, inv.within.err_inside, c.if-err-reach-lt-REFUSAL_ROOM.false); countable = inv.within.countable } }

pub returns-then-filled : goal.returns-then-filled
returns-then-filled c = fills_used c.loop-out.invariant.filling c.step-filled.ensures c.if-filled.true

pub loop-out-smaller : goal.loop-out-smaller
loop-out-smaller c = c.step-filled.ensures.moves c.if-filled.false

pub loop-out-preserved : goal.loop-out-preserved
loop-out-preserved c = record { filling = filling_turns c.loop-out.invariant.filling c.step-filled.ensures c.if-filled.false; sizes = record { all = c.step-filled.auto.all ∙ c.loop-out.invariant.sizes.all; names = c.step-filled.auto.names ∙ c.loop-out.invariant.sizes.names; texts = c.step-filled.auto.texts ∙ c.loop-out.invariant.sizes.texts; lens = c.step-filled.auto.lens ∙ c.loop-out.invariant.sizes.lens; plans = c.step-filled.auto.plans ∙ c.loop-out.invariant.sizes.plans; filed = c.step-filled.auto.filed ∙ c.loop-out.invariant.sizes.filed; name = c.step-filled.auto.name ∙ c.loop-out.invariant.sizes.name; text = c.step-filled.auto.text ∙ c.loop-out.invariant.sizes.text; answers = c.step-filled.auto.answers ∙ c.loop-out.invariant.sizes.answers; values = c.step-filled.auto.values ∙ c.loop-out.invariant.sizes.values; held = c.step-filled.auto.held ∙ c.loop-out.invariant.sizes.held; waiting = c.step-filled.auto.waiting ∙ c.loop-out.invariant.sizes.waiting } }
