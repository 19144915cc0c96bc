-- Whether the answers are as many as the form asks for.
use Rattle.printing.proofs.Answering.{waits_done, waits_more}
use Rattle.printing.proofs.answer.waiting.Goals as goal

pub returns-then-k-asked : goal.returns-then-k-asked
returns-then-k-asked c = search waits_done

pub returns : goal.returns
returns c = search waits_more
