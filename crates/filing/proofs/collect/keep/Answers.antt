-- A line for a form in each state.
use borrow.Author.Rules.{rules}
use Rattle.session.proofs.Refusing.{minds_not_now, keep_not_now}
use Rattle.filing.proofs.Collecting.{keeps_spoiled}
use Rattle.session.proofs.Tags.{tags}
use Rattle.filing.proofs.collect.keep.Goals as goal

pub collect-requires : goal.collect-requires
collect-requires c = record { kept = c.requires.kept; mode_value = search rules; read = c.requires.read; keeps = c.requires.keeps }

pub returns-in-Spoiled-clause-value : goal.returns-in-Spoiled-clause-value
returns-in-Spoiled-clause-value c = λ k. search keeps_spoiled

pub returns-in_default-clause-value : goal.returns-in_default-clause-value
returns-in_default-clause-value c = λ k. search (minds_not_now, keep_not_now, tags)
