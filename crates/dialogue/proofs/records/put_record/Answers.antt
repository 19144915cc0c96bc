-- The first line, and behind it the bytes of an accepted answer.
use Prim.Native.Nat.{◌≤◌}
use mathlib.Core.Path.{sym}
use native.Mathlib.Omega.{arith}
use lib.ListN.{length, length-take}
use lib.Seq.{length-take-le}
use borrow.Author.Rules.{rules}
use Rattle.text.proofs.Written.{writes_length}
use Rattle.dialogue.proofs.Telling.{says_size, puts_ok, puts_no}
use Rattle.dialogue.proofs.records.put_record.Goals as goal

pub slice_bounds-put_all-end : goal.slice_bounds-put_all-end
slice_bounds-put_all-end c =
    let few : c.in-Ok.len ≤ length c.args.reply.now = omega (arith, says_size _ _ c.in-Ok.is, c.requires.answer_bound.0, c.requires.answer_bound.1) in
    sym (length-take-le _ _ few)

pub put_all-requires : goal.put_all-requires
put_all-requires c =
    omega (arith, length-take c.in-Ok.len c.args.reply.now, says_size _ _ c.in-Ok.is, c.put_ok-next.ensures.upper_bound, writes_length _ _ _ _ _ c.put_ok-next.ensures.writes, c.requires.at_in_bounds, c.requires.answer_bound.0)

pub returns-in-Ok : goal.returns-in-Ok
returns-in-Ok c = search puts_ok

pub returns-in-Err : goal.returns-in-Err
returns-in-Err c = search puts_no
