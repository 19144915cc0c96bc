-- The store and the sessions are those of every class whose memory this is.
use Rattle.tablets.proofs.Leaving.{reached_whole, reached_two, front_length}
use Rattle.tablets.proofs.Forbidding.{warns_by, warned_watching}
use Rattle.desk.proofs.warned.Goals as goal

pub filed_of-requires : goal.filed_of-requires
filed_of-requires c = reached_two _ c.requires.reached

pub slice_bounds-guarded-end : goal.slice_bounds-guarded-end
slice_bounds-guarded-end c = front_length c.args.held.now (reached_whole _ c.requires.reached)

pub guarded-requires : goal.guarded-requires
guarded-requires c = record { watching = warned_watching _ _ c.requires.t_bound _ c.filed_of.ensures c.requires.reached; s_value = c.requires.s_value }

pub returns : goal.returns
returns c = warns_by _ _ c.requires.t_bound _ _ c.filed_of.ensures _ c.guarded.ensures
