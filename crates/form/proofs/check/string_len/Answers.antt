-- `string_len` reads the setting and the string behind it, and the text of the line gives them back.
use Rattle.form.proofs.Values.{no_setting, no_string, string_counts}
use Rattle.form.proofs.check.string_len.Goals as goal

pub returns-in_err-setting : goal.returns-in_err-setting
returns-in_err-setting c = rw c.from_residual.ensures (search (no_setting, c.in_err-setting.was))

pub returns-in_err-string : goal.returns-in_err-string
returns-in_err-string c = rw c.from_residual-in_err-string.ensures (search (no_string, c.in_ok-setting.was, c.in_err-string.was))

pub returns : goal.returns
returns c = search (string_counts, c.in_ok-setting.was, c.in_ok-string.was)
