-- The lines that are still to come, with the plan so far (`Planning.antt`).
use mathlib.Core.Path.{ap}
use Prim.Native.Nat.{◌<◌, ◌^◌}
use native.Mathlib.Omega.{arith}
use lib.ListN.{length}
use Rattle.form.specs.declared.walk.Lines.{Lines}
use Rattle.form.proofs.Lines.{line_here, lines_past}
use Rattle.form.proofs.Planning.{trails_first, trails_walk, trails_room, trails_on, trails_made}
use Rattle.form.proofs.plan.make_plan.Goals as goal

pub loop-line-init : goal.loop-line-init
loop-line-init c =
    let e = c.into_iter-line-iterator.ensures.into_iter_gives in
    record { can = tt; ends = tt; text = ap (λ (s : Lines). s.text.now) e; trails = rw (ap (λ (s : Lines). s.at) e) (trails_first _ _ c.requires) }

pub note_line-start-requires : goal.note_line-start-requires
note_line-start-requires c =
    let h = line_here _ _ _ _ _ c.next.ensures.steps c.in-Some.is c.loop-line.invariant.text in
    let fits : length c.args.text.now < 2 ^ 64 = omega arith in
    rw h.place (trails_walk _ _ c.requires _ _ _ _ c.loop-line.invariant.trails h.before h.stands fits)

pub loop-line-preserved : goal.loop-line-preserved
loop-line-preserved c =
    let h = line_here _ _ _ _ _ c.next.ensures.steps c.in-Some.is c.loop-line.invariant.text in
    record { can = tt; ends = tt; text = h.text_same; trails = trails_on _ _ _ _ _ _ _ _ c.loop-line.invariant.trails h.before h.stands h.next (rw h.place at c.note_line-start.ensures) }

pub note_open-requires : goal.note_open-requires
note_open-requires c = trails_room _ _ c.requires _ _ _ c.loop-line.invariant.trails

pub returns : goal.returns
returns c =
    let past = lines_past _ _ _ _ c.next.ensures.steps c.in-None.is c.loop-line.invariant.text in
    trails_made _ _ _ _ _ c.loop-line.invariant.trails past c.note_open.ensures
