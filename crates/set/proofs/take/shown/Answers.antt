-- The case says of which slice the part is.
use Rattle.set.proofs.Numbers.{within_answers, within_text, shown_answers, shown_text}
use Rattle.set.proofs.take.shown.Goals as goal

pub slice_bounds-result-count : goal.slice_bounds-result-count
slice_bounds-result-count c = (within_answers _ _ _ _ _ c.if-answered.true c.requires).0

pub slice_bounds-result-start : goal.slice_bounds-result-start
slice_bounds-result-start c = (within_answers _ _ _ _ _ c.if-answered.true c.requires).0

pub slice_bounds-result-end : goal.slice_bounds-result-end
slice_bounds-result-end c = (within_answers _ _ _ _ _ c.if-answered.true c.requires).1

pub returns-then-answered : goal.returns-then-answered
returns-then-answered c = search shown_answers

pub slice_bounds-result-count-2 : goal.slice_bounds-result-count-2
slice_bounds-result-count-2 c = (within_text _ _ _ _ _ c.if-answered.false c.requires).0

pub slice_bounds-result-start-2 : goal.slice_bounds-result-start-2
slice_bounds-result-start-2 c = (within_text _ _ _ _ _ c.if-answered.false c.requires).0

pub slice_bounds-result-end-2 : goal.slice_bounds-result-end-2
slice_bounds-result-end-2 c = (within_text _ _ _ _ _ c.if-answered.false c.requires).1

pub returns : goal.returns
returns c = search shown_text
