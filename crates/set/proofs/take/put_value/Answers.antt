-- The kind gives the clause: a part of the answers, or a count.
use borrow.Author.Rules.{rules}
use Rattle.set.proofs.Numbers.{value_within, escaped_room, escaped_writes, counted_room, counted_writes}
use Rattle.set.proofs.take.put_value.Goals as goal

pub shown-requires : goal.shown-requires
shown-requires c = search (value_within, rules)

pub put_escaped-requires : goal.put_escaped-requires
put_escaped-requires c = escaped_room c.args.answers.now c.args.values.now c.args.value c.args.i (search rules) c.args.text.now _ _ _ c.shown.ensures c.requires.i_in_bounds

pub returns-then-kind-eq-VARIABLE : goal.returns-then-kind-eq-VARIABLE
returns-then-kind-eq-VARIABLE c = search (escaped_writes, rules)

pub put_count-requires : goal.put_count-requires
put_count-requires c = search (counted_room, rules)

pub returns : goal.returns
returns c = search (counted_writes, rules)
