-- A set, the rest of the input, or a line. Each need stands by itself, so that each has the checker's steps to itself.
use native.Mathlib.Omega.{arith}
use Rattle.flow.proofs.Cutting.{ends_before}
use Rattle.flow.proofs.fill.step.Goals as goal

pub step_hear-requires : goal.step_hear-requires
step_hear-requires c = let cut = c.cut_at-end.ensures in record { stands = c.requires.stands; room = c.requires.room; left_value = omega (arith, c.if-run-gt0.false); ending = (cut.ending, ends_before _ _ _ c.requires.room.next_inside cut.ending c.if-end-input.false); clear = cut.clear }

pub returns : goal.returns
returns c = c.step_hear.ensures
