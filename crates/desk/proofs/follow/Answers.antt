-- The numbers of the sessions are lent, and the two behind them stay.
use mathlib.Core.Path.{sym, ◌∙◌}
use native.Mathlib.Omega.{arith}
use Rattle.tablets.proofs.Leaving.{front_length}
use Rattle.tablets.proofs.Following.{follows_numbered, follows_length}
use Rattle.desk.proofs.follow.Goals as goal

pub slice_bounds-lower-end : goal.slice_bounds-lower-end
slice_bounds-lower-end c = omega (arith, c.requires)

pub slice_bounds-lower-end-2 : goal.slice_bounds-lower-end-2
slice_bounds-lower-end-2 c = front_length c.args.held.now c.requires

pub lower-requires : goal.lower-requires
lower-requires c = sym (front_length c.args.held.now c.requires)

pub shape_of-held : goal.shape_of-held
shape_of-held c = follows_length c.args.held.now c.lower.new.held c.requires c.lower.ensures.held_len ∙ sym c.requires

pub returns : goal.returns
returns c = record {
  by_index = follows_numbered c.args.held.now _ _ _ c.lower.ensures.by_index;
  held_len = follows_length c.args.held.now c.lower.new.held c.requires c.lower.ensures.held_len;
}
