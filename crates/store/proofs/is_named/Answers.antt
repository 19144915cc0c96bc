-- The slot is the part of the names that is compared.
use Rattle.std.proofs.Common.{◌∙◌}
use Rattle.store.proofs.Look.{name_part, same_is}
use Rattle.store.proofs.is_named.Goals as goal

pub returns : goal.returns
returns c = let a = c.args in rw (← name_part a.names.now a.i a.len) (c.eq.ensures ∙ same_is _ _)
