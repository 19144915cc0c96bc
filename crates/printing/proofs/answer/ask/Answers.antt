-- `?` is taken in Open; elsewhere it is refused.
use Rattle.session.proofs.Refusing.{minds_not_now, ask_not_now}
use Rattle.printing.proofs.Answering.{asks}
use Rattle.session.proofs.Tags.{tags}
use Rattle.printing.proofs.answer.ask.Goals as goal

pub returns-in_default-clause-value : goal.returns-in_default-clause-value
returns-in_default-clause-value c = search (minds_not_now, ask_not_now, tags)

pub returns-clause-value : goal.returns-clause-value
returns-clause-value c = search (asks, tags)
