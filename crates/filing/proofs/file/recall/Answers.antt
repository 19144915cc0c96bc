-- The name is looked for; the plan of its form says what is asked for.
use Prim.Native.Nat.{◌<◌}
use native.Mathlib.Omega.{arith}
use Rattle.filing.proofs.Clearing.{at_stocked}
use Rattle.filing.proofs.Filing.{recall_not_now, recall_few, recall_inside, recall_opens, recall_absent}
use Rattle.session.proofs.Tags.{tags}
use Rattle.filing.proofs.file.recall.Goals as goal

pub returns-in_default-clause-value : goal.returns-in_default-clause-value
returns-in_default-clause-value c = search (recall_not_now, tags)

pub find_string-requires : goal.find_string-requires
find_string-requires c = search at_stocked

pub overflow_mul-found : goal.overflow_mul-found
overflow_mul-found c = let few : c.in-Some.found.index < 8 = search recall_few in omega arith

pub offset_bounds-plans-found : goal.offset_bounds-plans-found
offset_bounds-plans-found c = let few : c.in-Some.found.index < 8 = search recall_few in omega arith

pub bounds-plans-found : goal.bounds-plans-found
bounds-plans-found c = recall_inside _ _ _ c.requires.at (search recall_few)

pub returns-clause-value : goal.returns-clause-value
returns-clause-value c = search recall_opens

pub returns-in_default-find_string-clause-value : goal.returns-in_default-find_string-clause-value
returns-in_default-find_string-clause-value c = search recall_absent
