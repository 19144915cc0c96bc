-- By how many print: nobody, the one last served alone, or the first that the search finds.
use native.Mathlib.Omega.{arith}
use mathlib.Core.Path.{sym}
use Rattle.tablets.proofs.Left.{counts_length}
use Rattle.tablets.proofs.Taking.{turn_none, turn_again, turn_asked, turn_found}
use Rattle.tablets.proofs.sets.turn_of.Goals as goal

pub bounds-held-300 : goal.bounds-held-300
bounds-held-300 c = omega (arith, counts_length _ c.requires)

pub bounds-held-301 : goal.bounds-held-301
bounds-held-301 c = omega (arith, counts_length _ c.requires)

pub overflow_mul-last : goal.overflow_mul-last
overflow_mul-last c = let a = turn_asked _ c.requires in omega (arith, a.1)

pub offset_bounds-held-last : goal.offset_bounds-held-last
offset_bounds-held-last c = let a = turn_asked _ c.requires in omega (arith, a.1)

pub bounds-held-last : goal.bounds-held-last
bounds-held-last c = let a = turn_asked _ c.requires in omega (arith, a.1, counts_length _ c.requires)

pub slice_bounds-turn_after-end : goal.slice_bounds-turn_after-end
slice_bounds-turn_after-end c = sym (turn_asked _ c.requires).0

pub turn_after-requires : goal.turn_after-requires
turn_after-requires c = turn_asked _ c.requires

pub returns-in-0 : goal.returns-in-0
returns-in-0 c = turn_none _ c.in-0.is

pub returns-in-1 : goal.returns-in-1
returns-in-1 c = turn_again _ c.in-1.is c.if-held-last-eq-PRINTING.true

pub returns-in_default : goal.returns-in_default
returns-in_default c = turn_found _ _ c.turn_after.ensures
