-- The byte is a space, or another.
use native.Mathlib.Omega.{arith}
use Rattle.text.proofs.Place.{stands}
use Rattle.talk.proofs.Asking.{space_stands, space_lacks}
use Rattle.talk.proofs.asked.space_at.Goals as goal

pub returns-then-byte_at-ne32 : goal.returns-then-byte_at-ne32
returns-then-byte_at-ne32 c = search space_lacks

pub overflow_add-result : goal.overflow_add-result
overflow_add-result c = let h = stands _ _ _ c.byte_at.ensures (omega arith) in omega arith

pub returns : goal.returns
returns c = search space_stands
