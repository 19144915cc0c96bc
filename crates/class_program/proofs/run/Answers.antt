-- Each turn reads once.
use mathlib.Core.Path.{sym}
use Rattle.class_program.proofs.Passing.{stands_reached, reading_begins, reading_roomy, reading_turns}
use Rattle.class_program.proofs.run.Goals as goal

pub loop-init : goal.loop-init
loop-init g c = reading_begins _ _ _ _ c.requires c.begun-len.ensures

pub slice_bounds-obey-end : goal.slice_bounds-obey-end
slice_bounds-obey-end g c = sym c.loop.invariant.stands.at.waits.room

pub obey-passed-requires : goal.obey-passed-requires
obey-passed-requires g c = let inv = c.loop.invariant in record { stands = inv.stands; reads = c.read_some-read.ensures; roomy = reading_roomy inv }

pub returns-then-not-passed : goal.returns-then-not-passed
returns-then-not-passed g c = stands_reached c.obey-passed.ensures.passes.stands

pub loop-preserved : goal.loop-preserved
loop-preserved g c = reading_turns c.loop.invariant _ _ _ _ _ _ _ c.obey-passed.ensures (record { all = c.obey-passed.auto.all; names = c.obey-passed.auto.names; texts = c.obey-passed.auto.texts; lens = c.obey-passed.auto.lens; plans = c.obey-passed.auto.plans; filed = c.obey-passed.auto.filed; name = c.obey-passed.auto.name; text = c.obey-passed.auto.text; answers = c.obey-passed.auto.answers; values = c.obey-passed.auto.values; held = c.obey-passed.auto.held; waiting = c.obey-passed.auto.waiting }) c.read_some-read.auto.buf c.obey-passed.auto.reply c.obey-passed.auto.out

pub returns : goal.returns
returns g c = stands_reached c.loop.invariant.stands
