-- `unsound_at` checks line after line: the lines before the place keep the rules, so that those from there on decide.
use mathlib.Core.Path.{◌≡◌}
use Rattle.form.proofs.Broken.{Checking}
use Rattle.form.proofs.check.unsound_at.Given as goal

abbrev pub invariant-loop-line : goal.invariant-loop-line
invariant-loop-line l =
    record {
      can : (goal.iterator-loop-line).can_next l.line-iterator;
      ends : (goal.iterator-loop-line).is_finite l.line-iterator;
      text : l.line-iterator.text.now ≡ l.text;
      checking : Checking l.text l.lens l.line-iterator.at l.k;
    }
