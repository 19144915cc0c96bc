-- Step by step; the measure is the input that is left.
use Prim.Native.Nat.{◌-◌}
use mathlib.Core.Path.{◌∙◌}
use native.Mathlib.Omega.{arith}
use lib.ListN.{length}
use Rattle.call.specs.Call.{memory_of}
use Rattle.dialogue.specs.Fill.{place_of}
use Rattle.dialogue.proofs.Filling.{inside_within, fills_used, fills_full, Turning, turning_begins, turning_room, turning_turns}
use Rattle.dialogue.proofs.fill.fill.Goals as goal

pub loop-out-init : goal.loop-out-init
loop-out-init c = turning_begins _ _ _ _ c.requires.stands (inside_within _ _ _ _ _ _ c.requires.inside) c.requires.inside.reply_room

pub overflow_sub-out : goal.overflow_sub-out
overflow_sub-out c = c.loop-out.invariant.filling.within.out_inside

pub shape_of-all-then-out-reach-lt-RECORD_ROOM : goal.shape_of-all-then-out-reach-lt-RECORD_ROOM
shape_of-all-then-out-reach-lt-RECORD_ROOM c = c.loop-out.invariant.sizes.all

pub shape_of-names-then-out-reach-lt-RECORD_ROOM : goal.shape_of-names-then-out-reach-lt-RECORD_ROOM
shape_of-names-then-out-reach-lt-RECORD_ROOM c = c.loop-out.invariant.sizes.names

pub shape_of-texts-then-out-reach-lt-RECORD_ROOM : goal.shape_of-texts-then-out-reach-lt-RECORD_ROOM
shape_of-texts-then-out-reach-lt-RECORD_ROOM c = c.loop-out.invariant.sizes.texts

pub shape_of-lens-then-out-reach-lt-RECORD_ROOM : goal.shape_of-lens-then-out-reach-lt-RECORD_ROOM
shape_of-lens-then-out-reach-lt-RECORD_ROOM c = c.loop-out.invariant.sizes.lens

pub shape_of-plans-then-out-reach-lt-RECORD_ROOM : goal.shape_of-plans-then-out-reach-lt-RECORD_ROOM
shape_of-plans-then-out-reach-lt-RECORD_ROOM c = c.loop-out.invariant.sizes.plans

pub shape_of-filed-then-out-reach-lt-RECORD_ROOM : goal.shape_of-filed-then-out-reach-lt-RECORD_ROOM
shape_of-filed-then-out-reach-lt-RECORD_ROOM c = c.loop-out.invariant.sizes.filed

pub shape_of-name-then-out-reach-lt-RECORD_ROOM : goal.shape_of-name-then-out-reach-lt-RECORD_ROOM
shape_of-name-then-out-reach-lt-RECORD_ROOM c = c.loop-out.invariant.sizes.name

pub shape_of-text-then-out-reach-lt-RECORD_ROOM : goal.shape_of-text-then-out-reach-lt-RECORD_ROOM
shape_of-text-then-out-reach-lt-RECORD_ROOM c = c.loop-out.invariant.sizes.text

pub shape_of-answers-then-out-reach-lt-RECORD_ROOM : goal.shape_of-answers-then-out-reach-lt-RECORD_ROOM
shape_of-answers-then-out-reach-lt-RECORD_ROOM c = c.loop-out.invariant.sizes.answers

pub shape_of-values-then-out-reach-lt-RECORD_ROOM : goal.shape_of-values-then-out-reach-lt-RECORD_ROOM
shape_of-values-then-out-reach-lt-RECORD_ROOM c = c.loop-out.invariant.sizes.values

pub shape_of-held-then-out-reach-lt-RECORD_ROOM : goal.shape_of-held-then-out-reach-lt-RECORD_ROOM
shape_of-held-then-out-reach-lt-RECORD_ROOM c = c.loop-out.invariant.sizes.held

pub shape_of-waiting-then-out-reach-lt-RECORD_ROOM : goal.shape_of-waiting-then-out-reach-lt-RECORD_ROOM
shape_of-waiting-then-out-reach-lt-RECORD_ROOM c = c.loop-out.invariant.sizes.waiting

pub shape_of-reply-then-out-reach-lt-RECORD_ROOM : goal.shape_of-reply-then-out-reach-lt-RECORD_ROOM
shape_of-reply-then-out-reach-lt-RECORD_ROOM c = c.loop-out.invariant.reply_size

pub shape_of-out-then-out-reach-lt-RECORD_ROOM : goal.shape_of-out-then-out-reach-lt-RECORD_ROOM
shape_of-out-then-out-reach-lt-RECORD_ROOM c = c.loop-out.invariant.filling.out_size

pub returns-then-out-reach-lt-RECORD_ROOM : goal.returns-then-out-reach-lt-RECORD_ROOM
returns-then-out-reach-lt-RECORD_ROOM c = let inv = c.loop-out.invariant.filling in fills_full inv (omega (arith, inv.within.out_inside, c.if-out-reach-lt-RECORD_ROOM.true))

pub step-filled-requires : goal.step-filled-requires
step-filled-requires c = let inv = c.loop-out.invariant in let room = turning_room inv (omega (arith, c.if-out-reach-lt-RECORD_ROOM.false)) in record { stands = inv.filling.goes.stands; room = record { next_inside = room.0; out_room = room.1; reply_room = room.2 } }

pub returns-then-filled : goal.returns-then-filled
returns-then-filled c = fills_used c.loop-out.invariant.filling c.step-filled.ensures c.if-filled.true

pub loop-out-smaller : goal.loop-out-smaller
loop-out-smaller c = let moves = c.step-filled.ensures.moves c.if-filled.false in let inside = c.step-filled.ensures.goes.inside in omega (arith, moves, inside)

pub loop-out-preserved : goal.loop-out-preserved
loop-out-preserved c = turning_turns c.loop-out.invariant c.step-filled.ensures c.if-filled.false (record { all = c.step-filled.auto.all; names = c.step-filled.auto.names; texts = c.step-filled.auto.texts; lens = c.step-filled.auto.lens; plans = c.step-filled.auto.plans; filed = c.step-filled.auto.filed; name = c.step-filled.auto.name; text = c.step-filled.auto.text; answers = c.step-filled.auto.answers; values = c.step-filled.auto.values; held = c.step-filled.auto.held; waiting = c.step-filled.auto.waiting }) c.step-filled.auto.reply
