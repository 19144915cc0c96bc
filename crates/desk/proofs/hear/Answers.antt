-- It is seen whether the line is free of bytes below 20H.
use Rattle.desk.proofs.hear.Goals as goal

pub hear_from-requires : goal.hear_from-requires
hear_from-requires c = record { reached = c.requires; s_value = c.is_clear-shown.ensures.0 }

pub returns : goal.returns
returns c = c.hear_from.ensures
