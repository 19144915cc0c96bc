-- By whether the refusal gives one number or two.
use Rattle.reports.proofs.Reporting.{report_one, report_two}
use Rattle.reports.proofs.refusals.put_report.Goals as goal

pub returns-in_default : goal.returns-in_default
returns-in_default c = search report_one

pub returns : goal.returns
returns c = search report_two
