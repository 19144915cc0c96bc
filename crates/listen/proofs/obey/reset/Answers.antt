-- `N`: refused while a form is collected, and else Idle.
use Rattle.session.proofs.Refusing.{minds_not_now, new_collecting, new_spoiled}
use Rattle.session.proofs.Used.{kept_used}
use Rattle.listen.proofs.Heeding.{resets}
use Rattle.session.proofs.Tags.{tags}
use Rattle.listen.proofs.obey.reset.Goals as goal

pub fresh-requires : goal.fresh-requires
fresh-requires c = search kept_used

pub returns-in-Collecting-clause-value : goal.returns-in-Collecting-clause-value
returns-in-Collecting-clause-value c = search (minds_not_now, new_collecting)

pub returns-in-Spoiled-clause-value : goal.returns-in-Spoiled-clause-value
returns-in-Spoiled-clause-value c = search (minds_not_now, new_spoiled)

pub returns-in_default-clause-value : goal.returns-in_default-clause-value
returns-in_default-clause-value c = search (resets, tags)
