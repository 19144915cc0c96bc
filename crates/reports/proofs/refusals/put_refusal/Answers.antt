-- Nothing, or the refusal's line.
use borrow.Author.Rules.{rules}
use Rattle.reports.proofs.Reporting.{report_none, report_line}
use Rattle.reports.proofs.refusals.put_refusal.Goals as goal

pub returns-in_default : goal.returns-in_default
returns-in_default c = search (report_none, rules)

pub returns : goal.returns
returns c = search report_line
