-- From line to line the bench is reached, in memory of the sizes that it had; the measure is what is left of the script.
use Prim.Native.Nat.{◌-◌}
use native.Mathlib.Omega.{arith}
use lib.ListN.{length}
use borrow.Author.Rules.{rules}
use Rattle.call.specs.Call.{memory_of}
use Rattle.drive.proofs.Playing.{Playing, playing_begins, playing_turns, ends_inside, behind_fits}
use Rattle.drive.proofs.states.play.Goals as goal

pub loop-at-init : goal.loop-at-init
loop-at-init g c = playing_begins _ (search rules)

pub slice_bounds-act-end : goal.slice_bounds-act-end
slice_bounds-act-end g c = ends_inside c.args.script.now c.loop-at.at c.line_end-end.result (let taken = c.loop-at-test.true in omega arith) c.line_end-end.ensures

pub act-requires : goal.act-requires
act-requires g c = c.loop-at.invariant.reached

pub overflow_add-at : goal.overflow_add-at
overflow_add-at g c = behind_fits (length c.args.script.now) c.line_end-end.result c.well_formed.1.1.1.1.1.1.1.1.1.1.1.1.0.1
    (ends_inside c.args.script.now c.loop-at.at c.line_end-end.result (let taken = c.loop-at-test.true in omega arith) c.line_end-end.ensures)

pub loop-at-smaller : goal.loop-at-smaller
loop-at-smaller g c = omega (arith, c.loop-at-test.true, c.line_end-end.ensures)

pub loop-at-preserved : goal.loop-at-preserved
loop-at-preserved g c = playing_turns c.loop-at.invariant _ c.act.ensures (record { all = c.act.auto.all; names = c.act.auto.names; texts = c.act.auto.texts; lens = c.act.auto.lens; plans = c.act.auto.plans; filed = c.act.auto.filed; name = c.act.auto.name; text = c.act.auto.text; answers = c.act.auto.answers; values = c.act.auto.values; held = c.act.auto.held })

pub shape_of-all : goal.shape_of-all
shape_of-all g c = c.loop-at.invariant.sized.all

pub shape_of-names : goal.shape_of-names
shape_of-names g c = c.loop-at.invariant.sized.names

pub shape_of-texts : goal.shape_of-texts
shape_of-texts g c = c.loop-at.invariant.sized.texts

pub shape_of-lens : goal.shape_of-lens
shape_of-lens g c = c.loop-at.invariant.sized.lens

pub shape_of-plans : goal.shape_of-plans
shape_of-plans g c = c.loop-at.invariant.sized.plans

pub shape_of-filed : goal.shape_of-filed
shape_of-filed g c = c.loop-at.invariant.sized.filed

pub shape_of-name : goal.shape_of-name
shape_of-name g c = c.loop-at.invariant.sized.name

pub shape_of-text : goal.shape_of-text
shape_of-text g c = c.loop-at.invariant.sized.text

pub shape_of-answers : goal.shape_of-answers
shape_of-answers g c = c.loop-at.invariant.sized.answers

pub shape_of-values : goal.shape_of-values
shape_of-values g c = c.loop-at.invariant.sized.values

pub shape_of-held : goal.shape_of-held
shape_of-held g c = c.loop-at.invariant.sized.held

pub returns : goal.returns
returns g c = c.loop-at.invariant.reached
