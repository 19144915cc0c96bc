-- `FE` in each state.
use Rattle.session.proofs.Refusing.{minds_not_now, finish_not_now}
use Rattle.filing.proofs.Collecting.{at_used, files_shelved, files_beside, finishes_spoiled}
use Rattle.session.proofs.Tags.{tags}
use Rattle.filing.proofs.collect.finish.Goals as goal

pub fresh-requires : goal.fresh-requires
fresh-requires c = at_used _ _ c.requires

pub returns-in-Collecting-clause-value : goal.returns-in-Collecting-clause-value
returns-in-Collecting-clause-value c = search files_shelved

pub returns-in-Spoiled-clause-value : goal.returns-in-Spoiled-clause-value
returns-in-Spoiled-clause-value c = search (files_beside, finishes_spoiled)

pub returns-in_default-clause-value : goal.returns-in_default-clause-value
returns-in_default-clause-value c = search (files_beside, minds_not_now, finish_not_now, tags)
