-- The line that stands at the place, and the place behind its LF.
use mathlib.Core.Path.{refl, ap}
use native.Mathlib.Omega.{arith}
use lib.ListN.{length}
use borrow.Author.Rules.{rules}
use Rattle.form.specs.Walk.{lines_steps}
use Rattle.form.proofs.Lines.{Inside, end_inside, line_stands}
use Rattle.form.proofs.walk.LinesIterator.next.Goals as goal

pub returns-then-self-at-clause-steps : goal.returns-then-self-at-clause-steps
unfolding lines_steps
returns-then-self-at-clause-steps c = search rules

pub overflow_add-self : goal.overflow_add-self
overflow_add-self c = let h : Inside c.args.self.now.text.now c.args.self.now.at c.line_end-end.result = search end_inside in omega arith

pub slice_bounds-result-end : goal.slice_bounds-result-end
slice_bounds-result-end c = let h : Inside c.args.self.now.text.now c.args.self.now.at c.line_end-end.result = search end_inside in search rules

pub returns-clause-steps : goal.returns-clause-steps
unfolding lines_steps
returns-clause-steps c =
    let stands = line_stands _ _ _ c.line_end-end.ensures in
    record { before = c.if-self-at.false; place = refl; bytes = stands; next = omega (arith, c.line_end-end.ensures, ap length stands); text = refl }
