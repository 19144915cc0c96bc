-- The line is heard with the front of the buffer lent, and its record is put.
use Prim.Native.Nat.{◌≤◌}
use mathlib.Core.Path.{◌≡◌, sym}
use native.Mathlib.Omega.{arith}
use lib.ListN.{length, take}
use lib.Seq.{length-take-le}
use borrow.Author.Rules.{rules}
use Rattle.tablets.proofs.Leading.{reached_counts}
use Rattle.dialogue.proofs.Telling.{hears_size, lent_length, tells_hears}
use Rattle.dialogue.proofs.records.talk_hear.Goals as goal

pub slice_bounds-hear_from-end-2 : goal.slice_bounds-hear_from-end-2
slice_bounds-hear_from-end-2 c = let few : 10291 ≤ length c.args.reply.now = omega (arith, c.requires.in_bounds.0) in let size : length (take 10291 c.args.reply.now) ≡ 10291 = length-take-le 10291 c.args.reply.now few in sym size

pub hear_from-answer-requires : goal.hear_from-answer-requires
hear_from-answer-requires c = record { reached = c.requires.reached; s_value = c.requires.s_value }

pub sets_left-left-requires : goal.sets_left-left-requires
sets_left-left-requires c = reached_counts _ c.hear_from-answer.ensures.reached

pub put_record-requires : goal.put_record-requires
put_record-requires c = let few : 10291 ≤ length c.args.reply.now = omega (arith, c.requires.in_bounds.0) in let size : length (take 10291 c.args.reply.now) ≡ 10291 = length-take-le 10291 c.args.reply.now few in record { at_in_bounds = c.requires.in_bounds.1; answer_bound = (hears_size _ _ _ _ _ _ _ c.requires.reached c.hear_from-answer.ensures c.hear_from-answer.auto.reply size, lent_length 10291 c.args.reply.now c.hear_from-answer.new.reply c.hear_from-answer.auto.reply few few) }

pub returns : goal.returns
returns c = let few : 10291 ≤ length c.args.reply.now = omega (arith, c.requires.in_bounds.0) in let size : length (take 10291 c.args.reply.now) ≡ 10291 = length-take-le 10291 c.args.reply.now few in tells_hears _ _ _ _ _ _ _ c.hear_from-answer.ensures size _ c.sets_left-left.ensures _ _ _ _ _ c.put_record.ensures
