-- `is_names` answers whether a string is held, and a name or the star.
use Rattle.normal.proofs.Judged.{told_holds, names_name, names_star}
use Rattle.normal.proofs.write.is_names.Goals as goal

pub name_in-requires : goal.name_in-requires
name_in-requires c = search told_holds

pub is_star-requires : goal.is_star-requires
is_star-requires c = search told_holds

pub returns-then-name_in : goal.returns-then-name_in
returns-then-name_in c = search names_name

pub returns-else-name_in : goal.returns-else-name_in
returns-else-name_in c = search names_star
