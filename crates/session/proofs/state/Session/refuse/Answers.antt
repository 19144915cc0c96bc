use Rattle.session.proofs.Tags.{tags}
use Rattle.session.proofs.Held.{refuses, spoils, drops, stays}
use Rattle.session.proofs.Used.{kept_used}
use Rattle.session.proofs.state.Session.refuse.Goals as goal

pub fresh-requires : goal.fresh-requires
fresh-requires c = search kept_used

pub fresh-requires-in-Answering : goal.fresh-requires-in-Answering
fresh-requires-in-Answering c = search kept_used

pub returns-in-Collecting-clause-value : goal.returns-in-Collecting-clause-value
returns-in-Collecting-clause-value c = search (refuses, spoils)

pub returns-in-Answering-clause-value : goal.returns-in-Answering-clause-value
returns-in-Answering-clause-value c = search (refuses, drops)

pub returns-in_default-clause-value : goal.returns-in_default-clause-value
returns-in_default-clause-value c = search (refuses, stays, tags)
