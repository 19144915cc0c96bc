-- The line is written behind the others.
use native.Mathlib.Omega.{arith}
use Rattle.text.proofs.Written.{writes_length}
use Rattle.normal.proofs.Lent.{front_length}
use Rattle.filing.proofs.Collecting.{text_whole, text_short, reads_written, keeps_long, keeps_many, keeps_more}
use Rattle.filing.proofs.collect.collect.Goals as goal

pub put_normal-n-requires : goal.put_normal-n-requires
put_normal-n-requires c = let both = reads_written _ _ c.requires.read c.requires.keeps in record { in_bounds = omega arith; c_value = both.0; c_value_2 = both.1 }

pub overflow_add-at : goal.overflow_add-at
overflow_add-at c = omega (arith, text_short _ c.requires.kept, c.put_normal-n.ensures.room)

pub returns-then-at-n-gt-TEXT-clause-value : goal.returns-then-at-n-gt-TEXT-clause-value
returns-then-at-n-gt-TEXT-clause-value c = λ k. search keeps_long

pub returns-then-lines-gt-LINES-clause-value : goal.returns-then-lines-gt-LINES-clause-value
returns-then-lines-gt-LINES-clause-value c = λ k. search keeps_many

pub slice_bounds-put_all-end : goal.slice_bounds-put_all-end
slice_bounds-put_all-end c = search front_length

pub put_all-end-requires : goal.put_all-end-requires
put_all-end-requires c = let w = front_length _ _ _ _ c.put_normal-n.ensures in
    omega (arith, text_whole _ c.requires.kept)

pub put-session-requires : goal.put-session-requires
put-session-requires c = let w = front_length _ _ _ _ c.put_normal-n.ensures in
    let q = c.put_all-end.ensures in
    omega (arith, text_whole _ c.requires.kept, q.ends, writes_length _ _ _ _ _ q)

pub returns-clause-value : goal.returns-clause-value
returns-clause-value c = λ k. keeps_more _ _ _ _ _ _ _ _ _ _ _ k c.requires.mode_value c.put_normal-n.ensures c.if-at-n-gt-TEXT.false c.if-lines-gt-LINES.false c.put_all-end.ensures c.put-session.ensures
