-- An open piece is noted, and then the definition.
use Rattle.form.proofs.Ends.{gap_open, gap_define}
use Rattle.form.proofs.plan.note_gap.Goals as goal

pub note_open-requires : goal.note_open-requires
note_open-requires c = search gap_open

pub note-requires : goal.note-requires
note-requires c = search gap_define
