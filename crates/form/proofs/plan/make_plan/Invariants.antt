-- The lines that are still to come, with the plan so far (`Planning.antt`).
use mathlib.Core.Path.{◌≡◌}
use Rattle.form.proofs.Planning.{Trails}
use Rattle.form.proofs.plan.make_plan.Given as goal

abbrev pub invariant-loop-line : goal.invariant-loop-line
invariant-loop-line l =
    record {
      can : (goal.iterator-loop-line).can_next l.line-iterator;
      ends : (goal.iterator-loop-line).is_finite l.line-iterator;
      text : l.line-iterator.text.now ≡ l.text;
      trails : Trails l.text l.plan l.start l.line-iterator.at;
    }
