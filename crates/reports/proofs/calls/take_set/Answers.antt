-- The set stands where the part of the buffer was lent.
use Prim.Native.Nat.{◌+◌, ◌^◌, ◌≤◌, ◌<◌}
use native.Mathlib.Omega.{arith}
use lib.ListN.{length}
use Rattle.reports.proofs.Saying.{takes_at, takes_fits}
use Rattle.reports.proofs.calls.take_set.Goals as goal

pub take-served-requires : goal.take-served-requires
take-served-requires c = c.requires.sole.lone.reached

pub overflow_add-result : goal.overflow_add-result
overflow_add-result c = let fits : c.args.at + c.bytes_of.result ≤ length c.args.out.now = takes_fits _ c.args.out.now c.args.at _ _ _ _ c.requires.at_in_bounds c.take-served.auto.set c.bytes_of.ensures _ c.take-served.ensures c.requires.sole in
    let small : length c.args.out.now < 2 ^ 64 = omega (arith, c.well_formed.1.1.1.1.1.1.1.1.1.1.1.0) in
    record { fits = omega arith }

pub returns : goal.returns
returns c = takes_at _ _ _ _ _ _ _ c.requires.at_in_bounds c.take-served.auto.set c.bytes_of.ensures _ c.take-served.ensures
