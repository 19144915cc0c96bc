-- Each command is obeyed by its own function, and every other line is one for a form. Each need stands by itself, so that each has the checker's steps to itself.
use borrow.Author.Rules.{rules}
use Rattle.listen.proofs.Heeding.{obeys_empty, names_start, names_recall, names_delete, prints_some, prints_few, keeps_line, heeds_empty, heeds_new, heeds_start, heeds_finish, heeds_inform, heeds_recall, heeds_delete, heeds_ask, heeds_print, heeds_refused, heeds_keep}
use Rattle.listen.proofs.obey.obey.Goals as goal

pub start-requires : goal.start-requires
start-requires c = record { beside = search rules; named = names_start _ _ _ c.requires.read (search rules) }

pub recall-requires : goal.recall-requires
recall-requires c = record { at = search rules; named = names_recall _ _ _ c.requires.read (search rules) }

pub delete-requires : goal.delete-requires
delete-requires c = record { at = search rules; starred = names_delete _ _ _ c.requires.read (search rules) }

pub print-requires : goal.print-requires
print-requires c = record { planned = search rules; le_sets = (prints_some _ _ _ _ c.requires.read c.in-Print.is, prints_few _ _ _ _ c.requires.read c.in-Print.is) }

pub keep-requires : goal.keep-requires
keep-requires c = record { kept = search rules; read = c.requires.read; keeps = keeps_line _ _ (record { no_empty = c.in_default.not-Empty; no_new = c.in_default.not-New; no_start = c.in_default.not-Start; no_finish = c.in_default.not-Finish; no_inform = c.in_default.not-Inform; no_recall = c.in_default.not-Recall; no_delete = c.in_default.not-Delete; no_ask = c.in_default.not-Ask; no_print = c.in_default.not-Print; no_refused = c.in_default.not-Refused }) }

pub returns-in-Empty-clause-value : goal.returns-in-Empty-clause-value
returns-in-Empty-clause-value c = heeds_empty _ _ _ _ c.requires.read _ _ _ _ _ c.requires.not_answering (search rules) (obeys_empty _ _ _)

pub returns-in-New-clause-value : goal.returns-in-New-clause-value
returns-in-New-clause-value c = heeds_new _ _ _ _ c.requires.read _ _ _ _ _ c.requires.not_answering (search rules) ((c.reset.ensures.value.minds _).heeds _)

pub returns-in-Start-clause-value : goal.returns-in-Start-clause-value
returns-in-Start-clause-value c = heeds_start _ _ _ _ c.requires.read _ _ _ _ _ c.requires.not_answering _ c.in-Start.is ((c.start.ensures.value.consults _).heeds _)

pub returns-in-Finish-clause-value : goal.returns-in-Finish-clause-value
returns-in-Finish-clause-value c = heeds_finish _ _ _ _ c.requires.read _ _ _ _ _ c.requires.not_answering (search rules) (c.finish.ensures.value.files _)

pub returns-in-Inform-clause-value : goal.returns-in-Inform-clause-value
returns-in-Inform-clause-value c = heeds_inform _ _ _ _ c.requires.read _ _ _ _ _ c.requires.not_answering c.in-Inform.is (c.inform.ensures.value.informs _)

pub returns-in-Recall-clause-value : goal.returns-in-Recall-clause-value
returns-in-Recall-clause-value c = heeds_recall _ _ _ _ c.requires.read _ _ _ _ _ c.requires.not_answering _ c.in-Recall.is (c.recall.ensures.value.heeds _)

pub returns-in-Delete-clause-value : goal.returns-in-Delete-clause-value
returns-in-Delete-clause-value c = heeds_delete _ _ _ _ c.requires.read _ _ _ _ _ c.requires.not_answering _ c.in-Delete.is (c.delete.ensures.value.files _)

pub returns-in-Ask-clause-value : goal.returns-in-Ask-clause-value
returns-in-Ask-clause-value c = heeds_ask _ _ _ _ c.requires.read _ _ _ _ _ c.requires.not_answering (search rules) ((c.ask.ensures.value.minds _).heeds _)

pub returns-in-Print-clause-value : goal.returns-in-Print-clause-value
returns-in-Print-clause-value c = heeds_print _ _ _ _ c.requires.read _ _ _ _ _ c.requires.not_answering _ _ (search rules) ((c.print.ensures.value.follows _).heeds _)

pub returns-in-Refused-clause-value : goal.returns-in-Refused-clause-value
returns-in-Refused-clause-value c = heeds_refused _ _ _ _ _ _ c.requires.not_answering _ _ c.requires.read c.in-Refused.is c.refuse.ensures.value

pub returns-in_default-clause-value : goal.returns-in_default-clause-value
returns-in_default-clause-value c = let k = keeps_line _ _ (record { no_empty = c.in_default.not-Empty; no_new = c.in_default.not-New; no_start = c.in_default.not-Start; no_finish = c.in_default.not-Finish; no_inform = c.in_default.not-Inform; no_recall = c.in_default.not-Recall; no_delete = c.in_default.not-Delete; no_ask = c.in_default.not-Ask; no_print = c.in_default.not-Print; no_refused = c.in_default.not-Refused }) in heeds_keep _ _ _ _ c.requires.read _ _ _ _ _ c.requires.not_answering k (((c.keep.ensures.value k).minds _).heeds _)
