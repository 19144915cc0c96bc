-- A line that is too long, or one to be read and obeyed.
use borrow.Author.Rules.{rules}
use Rattle.listen.proofs.Heeding.{hears_long}
use Rattle.listen.proofs.obey.listen.Goals as goal

pub returns-then-s-gt-LINE-clause-value : goal.returns-then-s-gt-LINE-clause-value
returns-then-s-gt-LINE-clause-value c = hears_long _ _ _ _ _ _ (search rules) c.refuse.ensures.value

pub obey-requires : goal.obey-requires
obey-requires c = record { at = c.requires.at; not_answering = c.requires.not_answering; read = c.read_clear-c.ensures }
