-- `is_held` compares where a string closes with what the record says.
use mathlib.Core.Path.{refl, ◌∙◌}
use Rattle.normal.specs.Normal.{held_at}
use Rattle.normal.proofs.Judged.{held_equal}
use Rattle.normal.proofs.write.is_held.Goals as goal

pub returns : goal.returns
unfolding held_at
returns c = c.eq.ensures ∙ rw (← c.plain_at.ensures) (held_equal _ c.args.string c.plain_at.result (λ x y. refl))
