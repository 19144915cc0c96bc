-- `is_text` answers whether a text is held and in range: its string, its parameters and its content.
use mathlib.Core.Path.{sym, ◌∙◌}
use Rattle.normal.proofs.Judged.{text_told, text_hidden, text_out}
use Rattle.normal.proofs.write.is_text.Goals.{then-is_content, else-is_content}
use Rattle.normal.proofs.write.is_text.Goals as goal

pub returns-then-setting_in : goal.returns-then-setting_in
returns-then-setting_in c =
    elim c.if-is_content.branch [
      | then-is_content w ↦ text_told _ _ _ _ _ c.is_content.ensures w.if-is_content.true w.setting_in.ensures (sym w.value-is ∙ c.if-setting_in.true) c.content_in.ensures
      | else-is_content w ↦ cc
    ]

pub returns-else-setting_in : goal.returns-else-setting_in
returns-else-setting_in c =
    elim c.if-is_content.branch [
      | then-is_content w ↦ w.value-is ∙ text_out _ _ _ w.setting_in.ensures (sym w.value-is ∙ c.if-setting_in.false)
      | else-is_content w ↦ w.value-is ∙ text_hidden _ _ _ c.is_content.ensures w.if-is_content.false
    ]
