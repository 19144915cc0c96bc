-- The marks that are lent are as many as are asked for.
use mathlib.Core.Path.{sym}
use lib.Seq.{length-take-le}
use borrow.Author.Rules.{rules}
use Rattle.drive.proofs.lent.lent.Goals as goal

pub slice_bounds-shown-end : goal.slice_bounds-shown-end
slice_bounds-shown-end g c = sym (length-take-le _ _ c.requires.room_bound)
