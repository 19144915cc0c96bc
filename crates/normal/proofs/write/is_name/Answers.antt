-- `is_name` answers whether a string is held and a name.
use Rattle.normal.proofs.Judged.{told_holds, name_told}
use Rattle.normal.proofs.write.is_name.Goals as goal

pub name_in-requires : goal.name_in-requires
name_in-requires c = search told_holds

pub returns-then-is_held : goal.returns-then-is_held
returns-then-is_held c = search name_told
