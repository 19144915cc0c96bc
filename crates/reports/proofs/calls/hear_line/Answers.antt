-- The reply stands where the part of the buffer was lent, and the refusal behind those that wait.
use Prim.Native.Nat.{◌+◌, ◌^◌, ◌≤◌, ◌<◌}
use native.Mathlib.Omega.{arith}
use lib.ListN.{length}
use Rattle.reports.proofs.Saying.{hears_at, hears_fits}
use Rattle.reports.proofs.calls.hear_line.Goals as goal

pub hear_from-answer-requires : goal.hear_from-answer-requires
hear_from-answer-requires c = record { reached = c.requires.sole.lone.reached; s_value = c.requires.s_value }

pub overflow_add-result : goal.overflow_add-result
overflow_add-result c = let fits : c.args.at + c.bytes_of.result ≤ length c.args.out.now =
    hears_fits _ c.args.out.now c.args.at _ _ _ _ c.requires.at_in_bounds.0 c.hear_from-answer.auto.reply c.bytes_of.ensures _ c.hear_from-answer.ensures c.requires.sole in
    let small : length c.args.out.now < 2 ^ 64 = omega (arith, c.well_formed.1.1.1.1.1.1.1.1.1.1.1.1.1.0) in
    record { fits = omega arith }

pub put_refusal-requires : goal.put_refusal-requires
put_refusal-requires c = c.requires.at_in_bounds.1

pub returns : goal.returns
returns c = hears_at _ _ _ _ _ _ _ c.requires.at_in_bounds.0 c.hear_from-answer.auto.reply c.bytes_of.ensures _ c.hear_from-answer.ensures _ _ _ _ _ c.put_refusal.ensures
