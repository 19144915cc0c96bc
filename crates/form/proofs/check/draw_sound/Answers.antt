-- `draw_sound` judges a line by the len that is noted for the value at its end.
use Rattle.std.proofs.Common.{rules, tests}
use Rattle.std.proofs.lemmas.Option.{MatchOption-at_some}
use Rattle.form.proofs.Values.{whole_sound, none_sound, alone_sound, joins_sound}
use Rattle.form.proofs.check.draw_sound.Goals as goal

pub returns-in_default : goal.returns-in_default
returns-in_default c = search whole_sound

pub returns-in_default-len_at : goal.returns-in_default-len_at
returns-in_default-len_at c = search none_sound

pub returns-then-ending : goal.returns-then-ending
returns-then-ending c = search alone_sound

pub returns-else-ending : goal.returns-else-ending
returns-else-ending c =
    joins_sound _ _ _ _ c.in-Some.is c.ending_of.ensures _ c.len_at.ensures _ c.in-Some-len_at.is _ _ c.if-ending.false c.string_len.ensures
    (λ m e. let h = MatchOption-at_some _ _ m e c.is_some_and.ensures in search (rules, tests))
