-- `letter_at` says what `letter` reads: each return is the law of a byte by a test, and a byte that passes it stands in the line.
use native.Mathlib.Omega.{arith}
use mathlib.Core.Path.{refl, sym, ◌∙◌}
use Rattle.paper.specs.Byte.{between}
use Rattle.paper.specs.Line.{letter}
use Rattle.text.proofs.Place.{one_none, one_stands, one_some}
use Rattle.text.proofs.read.letter_at.Goals as goal

pub returns-then-not-is_ascii_uppercase : goal.returns-then-not-is_ascii_uppercase
unfolding letter between
returns-then-not-is_ascii_uppercase c = one_none (between 65 90) _ _ _ c.byte_at-b.ensures (sym c.is_ascii_uppercase.ensures.value ∙ c.if-not-is_ascii_uppercase.true)

pub overflow_add-result : goal.overflow_add-result
unfolding between
overflow_add-result c = let h = one_stands (between 65 90) _ _ _ c.byte_at-b.ensures refl (sym c.is_ascii_uppercase.ensures.value ∙ c.if-not-is_ascii_uppercase.false) in omega arith

pub returns : goal.returns
unfolding letter between
returns c = one_some (between 65 90) _ _ _ c.byte_at-b.ensures refl (sym c.is_ascii_uppercase.ensures.value ∙ c.if-not-is_ascii_uppercase.false)
