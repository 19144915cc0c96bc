-- `unsound_at` checks line after line: the lines before the place keep the rules, so that those from there on decide.
use mathlib.Core.Path.{ap}
use Rattle.form.specs.declared.walk.Lines.{Lines}
use Rattle.form.proofs.Lines.{line_here, lines_past}
use Rattle.form.proofs.Slots.{agrees_none}
use Rattle.form.proofs.Broken.{check_begins, check_breaks, check_turns, check_short, check_ends}
use Rattle.form.proofs.check.unsound_at.Goals as goal

pub loop-line-init : goal.loop-line-init
loop-line-init c =
    let e = c.into_iter-line-iterator.ensures.into_iter_gives in
    record { can = tt; ends = tt; text = ap (λ (s : Lines). s.text.now) e; checking = rw (ap (λ (s : Lines). s.at) e) (check_begins _ _ agrees_none) }

pub returns-then-not-check_line : goal.returns-then-not-check_line
returns-then-not-check_line c =
    let h = line_here _ _ _ _ _ c.next.ensures.steps c.in-Some.is c.loop-line.invariant.text in
    check_breaks _ _ _ _ _ _ _ c.loop-line.invariant.checking h.before h.stands c.check_line.ensures.judges c.if-not-check_line.true

pub loop-line-preserved : goal.loop-line-preserved
loop-line-preserved c =
    let h = line_here _ _ _ _ _ c.next.ensures.steps c.in-Some.is c.loop-line.invariant.text in
    record {
      can = tt;
      ends = tt;
      text = h.text_same;
      checking = check_turns _ _ _ _ _ _ _ c.loop-line.invariant.checking h.before h.stands c.check_line.ensures.judges c.check_line.ensures.lens_len_unchanged c.if-not-check_line.false _ h.next;
    }

pub returns-then-k-lt2 : goal.returns-then-k-lt2
returns-then-k-lt2 c =
    let past = lines_past _ _ _ _ c.next.ensures.steps c.in-None.is c.loop-line.invariant.text in
    check_short _ _ _ _ c.loop-line.invariant.checking past c.if-k-lt2.true

pub returns-else-k-lt2 : goal.returns-else-k-lt2
returns-else-k-lt2 c =
    let past = lines_past _ _ _ _ c.next.ensures.steps c.in-None.is c.loop-line.invariant.text in
    check_ends _ _ _ _ c.loop-line.invariant.checking past c.if-k-lt2.false
