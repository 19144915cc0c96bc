-- `check_define` judges a definition by its place and the lens noted above, and notes its len.
use Rattle.form.proofs.Judged.{define_early, define_twice, define_notes}
use Rattle.form.proofs.check.check_define.Goals.{then-k-lt2-via-then-k-lt2, then-k-lt2-via-else-k-lt2+then-is_some}
use Rattle.form.proofs.check.check_define.Goals as goal

pub returns-then-k-lt2-clause-judges : goal.returns-then-k-lt2-clause-judges
returns-then-k-lt2-clause-judges c = λ d above p q s a.
    elim c.then-k-lt2.branch [
      | then-k-lt2-via-then-k-lt2 w ↦ define_early _ _ w.if-k-lt2.true d above
      | then-k-lt2-via-else-k-lt2+then-is_some w ↦ define_twice _ _ _ _ c.in-Some.is _ w.len_at.ensures _ w.is_some.ensures w.if-k-lt2.false w.if-is_some.true d above p a
    ]

pub returns-clause-judges : goal.returns-clause-judges
returns-clause-judges c = search define_notes
