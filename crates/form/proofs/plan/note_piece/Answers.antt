-- A piece is noted number by number, behind those that are noted.
use mathlib.Core.Path.{refl}
use Rattle.form.proofs.Memory.{piece_noted}
use Rattle.form.proofs.plan.note_piece.Goals as goal

pub returns : goal.returns
returns c = piece_noted _ _ _ _ _ refl
