-- The tests of the code decide, in the definition's order.
use borrow.Author.Rules.{rules}
use Rattle.set.proofs.Judging.{ask_inside, ask_nine, judged_long, judged_variable, judged_empty, judged_none, judged_counter}
use Rattle.set.proofs.answer.judged.Goals as goal

pub overflow_mul-at : goal.overflow_mul-at
overflow_mul-at c = let h = ask_inside _ _ c.requires.asking in search rules

pub overflow_add-at : goal.overflow_add-at
overflow_add-at c = let h = ask_inside _ _ c.requires.asking in search rules

pub offset_bounds-plan-at : goal.offset_bounds-plan-at
offset_bounds-plan-at c = let h = ask_inside _ _ c.requires.asking in search rules

pub bounds-plan-at : goal.bounds-plan-at
bounds-plan-at c = let h = ask_inside _ _ c.requires.asking in search rules

pub overflow_add-len : goal.overflow_add-len
overflow_add-len c = let h = ask_inside _ _ c.requires.asking in search rules

pub offset_bounds-plan-at-2 : goal.offset_bounds-plan-at-2
offset_bounds-plan-at-2 c = let h = ask_inside _ _ c.requires.asking in search rules

pub bounds-plan-at-2 : goal.bounds-plan-at-2
bounds-plan-at-2 c = let h = ask_inside _ _ c.requires.asking in search rules

pub returns-then-len-a : goal.returns-then-len-a
returns-then-len-a c = search judged_long

pub returns-then-kind-eq-VARIABLE : goal.returns-then-kind-eq-VARIABLE
returns-then-kind-eq-VARIABLE c = search judged_variable

pub returns-then-is_empty : goal.returns-then-is_empty
returns-then-is_empty c = search judged_empty

pub amount_of-requires : goal.amount_of-requires
amount_of-requires c = ask_nine c.args.plan.now c.args.k c.args.a.now c.requires.asking (search rules) (search rules)

pub returns-in_err-first : goal.returns-in_err-first
returns-in_err-first c = judged_none _ _ _ _ (search rules) _ _ c.amount_of.ensures c.in_err-first.was c.from_residual.ensures

pub returns : goal.returns
returns c = judged_counter _ _ _ _ (search rules) _ _ _ c.amount_of.ensures c.in_ok-first.was c.is_empty.ensures c.if-is_empty.false (search rules)
