-- `digit_at` says what `digit` reads: each return is the law of a byte by a test, and a byte that passes it stands in the line.
use native.Mathlib.Omega.{arith}
use mathlib.Core.Path.{refl, sym, ◌∙◌}
use Rattle.paper.specs.Byte.{between}
use Rattle.paper.specs.Line.{digit, is_digit}
use Rattle.text.proofs.Place.{one_none, one_stands, digit_says, followed_bad}
use Rattle.text.proofs.read.digit_at.Goals as goal

pub returns-then-not-is_ascii_digit : goal.returns-then-not-is_ascii_digit
unfolding digit is_digit between
returns-then-not-is_ascii_digit c = followed_bad _ _ _ (one_none is_digit _ _ _ c.byte_at-b.ensures (sym c.is_ascii_digit.ensures.value ∙ c.if-not-is_ascii_digit.true))

pub overflow_add-result : goal.overflow_add-result
unfolding digit is_digit between
overflow_add-result c = let h = one_stands is_digit _ _ _ c.byte_at-b.ensures refl (sym c.is_ascii_digit.ensures.value ∙ c.if-not-is_ascii_digit.false) in omega arith

pub returns : goal.returns
unfolding is_digit between
returns c = digit_says _ _ _ c.byte_at-b.ensures (sym c.is_ascii_digit.ensures.value ∙ c.if-not-is_ascii_digit.false)
