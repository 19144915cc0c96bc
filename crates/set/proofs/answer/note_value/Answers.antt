-- The definition's place is found in the plan, and its value's numbers are put there.
use native.Mathlib.Omega.{arith}
use borrow.Author.Rules.{rules}
use Rattle.set.proofs.Judging.{ask_inside, ask_placed, notes_value}
use Rattle.set.proofs.answer.note_value.Goals as goal

pub overflow_mul-from : goal.overflow_mul-from
overflow_mul-from c = let h = ask_inside _ _ c.requires.asking in search rules

pub overflow_add-from : goal.overflow_add-from
overflow_add-from c = let h = ask_inside _ _ c.requires.asking in search rules

pub overflow_add-at : goal.overflow_add-at
overflow_add-at c = let h = ask_inside _ _ c.requires.asking in search rules

pub offset_bounds-plan-from : goal.offset_bounds-plan-from
offset_bounds-plan-from c = let h = ask_inside _ _ c.requires.asking in search rules

pub bounds-plan-from : goal.bounds-plan-from
bounds-plan-from c = let h = ask_inside _ _ c.requires.asking in search rules

pub overflow_mul-at : goal.overflow_mul-at
overflow_mul-at c = let p = ask_placed _ _ c.requires.asking in search rules

pub offset_bounds-plan-from-2 : goal.offset_bounds-plan-from-2
offset_bounds-plan-from-2 c = let h = ask_inside _ _ c.requires.asking in search rules

pub bounds-plan-from-2 : goal.bounds-plan-from-2
bounds-plan-from-2 c = let h = ask_inside _ _ c.requires.asking in search rules

pub overflow_add-step : goal.overflow_add-step
overflow_add-step c = let h = ask_inside _ _ c.requires.asking in search rules

pub offset_bounds-plan-from-3 : goal.offset_bounds-plan-from-3
offset_bounds-plan-from-3 c = let h = ask_inside _ _ c.requires.asking in search rules

pub bounds-plan-from-3 : goal.bounds-plan-from-3
bounds-plan-from-3 c = let h = ask_inside _ _ c.requires.asking in search rules

pub put_four-requires : goal.put_four-requires
put_four-requires c = omega (arith, ask_placed _ _ c.requires.asking, c.requires.values_len)

pub returns : goal.returns
returns c = search notes_value
