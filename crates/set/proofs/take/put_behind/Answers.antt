-- Nothing, or a value between its quotes.
use borrow.Author.Rules.{rules}
use Rattle.set.proofs.Numbers.{behind_none, first_room, value_room, close_room, behind_writes}
use Rattle.set.proofs.take.put_behind.Goals as goal

pub returns-then-behind-eq0 : goal.returns-then-behind-eq0
returns-then-behind-eq0 c = search behind_none

pub put_opening-next-requires : goal.put_opening-next-requires
put_opening-next-requires c = search first_room

pub put_value-end-requires : goal.put_value-end-requires
put_value-end-requires c = record { told = c.requires.told (search rules); i_in_bounds = value_room c.args.answers.now c.args.values.now c.args.behind c.args.i _ _ (search rules) _ _ c.put_opening-next.ensures c.requires.i_in_bounds }

pub put-requires : goal.put-requires
put-requires c = close_room c.args.answers.now c.args.values.now c.args.behind c.args.i _ _ (search rules) _ _ c.put_opening-next.ensures _ _ c.put_value-end.ensures c.requires.i_in_bounds

pub returns : goal.returns
returns c = behind_writes c.args.answers.now c.args.values.now c.args.behind c.args.i _ _ (search rules) _ _ c.put_opening-next.ensures _ _ c.put_value-end.ensures _ _ c.put.ensures
