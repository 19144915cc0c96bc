-- Each definition holds.
use Rattle.std.proofs.Common.{rules, arith, refl, tests, get_or}
use Rattle.std.proofs.iter.Serving.{serving}
use Rattle.std.proofs.lemmas.Iterator.{YieldsList-from_range}
use Rattle.std.proofs.lemmas.Iterator.Search.{all_from_yields_List}
use Rattle.set.specs.Piece.{holds_at}
use Rattle.set.proofs.Holding.{hold_counted, hold_told, hold_all}
use Rattle.set.proofs.take.all_hold.Goals as goal

pub bounds-plan-0 : goal.bounds-plan-0
bounds-plan-0 c = search hold_counted

pub all-requires-clause-callable : goal.all-requires-clause-callable
all-requires-clause-callable c = let h = hold_told _ _ c.requires.filled in grind (serving, h)

pub returns : goal.returns
returns c =
    let plan = c.args.plan.now in
    let count = get_or plan 0 0 in
    hold_all plan c.args.values.now c.args.last c.all.result
    (all_from_yields_List (λ k. holds_at plan c.args.values.now k c.args.last) _ _ c.all.result c.all.ensures.ran
    (YieldsList-from_range 0 count count refl (omega arith)) (λ x b q k. search (rules, tests)))
