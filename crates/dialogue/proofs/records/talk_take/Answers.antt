-- The set is taken with as much of the buffer lent as the take names, and its record is put.
use Prim.Native.Nat.{◌≤◌}
use mathlib.Core.Path.{◌≡◌, sym}
use native.Mathlib.Omega.{arith}
use lib.ListN.{length, take}
use lib.Seq.{length-take-le}
use borrow.Author.Rules.{rules}
use Rattle.tablets.proofs.Leading.{reached_counts}
use Rattle.dialogue.proofs.Telling.{takes_size, lent_length, tells_takes}
use Rattle.dialogue.proofs.records.talk_take.Goals as goal

pub slice_bounds-take-end : goal.slice_bounds-take-end
slice_bounds-take-end c = omega (arith, c.requires.in_bounds.0, c.requires.room_bound)

pub slice_bounds-take-end-2 : goal.slice_bounds-take-end-2
slice_bounds-take-end-2 c = let few : c.args.room ≤ length c.args.reply.now = omega (arith, c.requires.in_bounds.0, c.requires.room_bound) in let size : length (take c.args.room c.args.reply.now) ≡ c.args.room = length-take-le c.args.room c.args.reply.now few in sym size

pub take-served-requires : goal.take-served-requires
take-served-requires c = c.requires.reached

pub sets_left-left-requires : goal.sets_left-left-requires
sets_left-left-requires c = reached_counts _ c.take-served.ensures.reached

pub put_record-requires : goal.put_record-requires
put_record-requires c = let few : c.args.room ≤ length c.args.reply.now = omega (arith, c.requires.in_bounds.0, c.requires.room_bound) in let size : length (take c.args.room c.args.reply.now) ≡ c.args.room = length-take-le c.args.room c.args.reply.now few in record { at_in_bounds = c.requires.in_bounds.1; answer_bound = (takes_size _ _ _ _ _ _ c.requires.reached c.take-served.ensures, lent_length c.args.room c.args.reply.now c.take-served.new.set c.take-served.auto.set few (omega (arith, c.requires.in_bounds.0))) }

pub returns : goal.returns
returns c = let few : c.args.room ≤ length c.args.reply.now = omega (arith, c.requires.in_bounds.0, c.requires.room_bound) in let size : length (take c.args.room c.args.reply.now) ≡ c.args.room = length-take-le c.args.room c.args.reply.now few in tells_takes _ _ _ _ _ _ _ c.take-served.ensures size _ c.sets_left-left.ensures _ _ _ _ _ c.put_record.ensures
