-- No such tablet is refused; a line with bytes below 20H goes its own way; the rest is as for a line without them.
use mathlib.Core.Path.{refl, sym, ◌∙◌}
use native.Mathlib.Omega.{arith}
use Rattle.tablets.proofs.Packed.{packed_sits}
use Rattle.tablets.proofs.Leaving.{reached_whole, tag_within, files_idle, not_denied, order_frees}
use Rattle.tablets.proofs.Hearing.{mid_counted, order_hears}
use Rattle.tablets.proofs.Forbidding.{over_hears, answer_hears}
use mathlib.Core.Path.{ap}
use mathlib.Core.Bool.{not}
use Rattle.desk.proofs.hear_from.Goals as goal

pub returns-then-t-ge-TABLETS : goal.returns-then-t-ge-TABLETS
returns-then-t-ge-TABLETS c = over_hears _ _ _ _ _ c.if-t-ge-TABLETS.true refl c.requires.reached

pub hear_dropped-requires : goal.hear_dropped-requires
hear_dropped-requires c = record { reached = c.requires.reached; t_bound = (omega (arith, c.if-t-ge-TABLETS.false)) }

pub returns-then-not-shown : goal.returns-then-not-shown
returns-then-not-shown c = c.hear_dropped.ensures

pub bounds-held-t : goal.bounds-held-t
bounds-held-t c = tag_within c.args.t c.args.held.now (reached_whole _ c.requires.reached) (omega (arith, c.if-t-ge-TABLETS.false))

pub seat_answer-requires : goal.seat_answer-requires
seat_answer-requires c = record { sits = packed_sits _ _ c.requires.reached (omega (arith, c.if-t-ge-TABLETS.false)); t_value = c.if-was-eq-ANSWERING.true; s_value = (c.requires.s_value (not_denied c.args.shown (ap not c.if-not-shown.false))) }

pub returns-then-was-eq-ANSWERING : goal.returns-then-was-eq-ANSWERING
returns-then-was-eq-ANSWERING c = answer_hears _ _ (omega (arith, c.if-t-ge-TABLETS.false)) _ _ _ _ _ c.seat_answer.ensures c.if-was-eq-ANSWERING.true c.requires.reached

pub hear_filing-requires : goal.hear_filing-requires
hear_filing-requires c = record { reached = c.requires.reached; t_bound = (omega (arith, c.if-t-ge-TABLETS.false)); s_value = (c.requires.s_value (not_denied c.args.shown (ap not c.if-not-shown.false))); t_value = files_idle _ _ _ c.files.ensures c.if-files.true }

pub returns-then-files : goal.returns-then-files
returns-then-files c = c.hear_filing.ensures

pub seat_command-answer-requires : goal.seat_command-answer-requires
seat_command-answer-requires c = record { sits = packed_sits _ _ c.requires.reached (omega (arith, c.if-t-ge-TABLETS.false)); fact = c.if-was-eq-ANSWERING.false; s_value = (c.requires.s_value (not_denied c.args.shown (ap not c.if-not-shown.false))) }

pub recount-requires : goal.recount-requires
recount-requires c = let counted = mid_counted _ _ (omega (arith, c.if-t-ge-TABLETS.false)) _ _ _ _ _ c.seat_command-answer.ensures (λ k. order_frees _ k _ (omega (arith, c.if-t-ge-TABLETS.false)) _ _ (c.requires.s_value (not_denied c.args.shown (ap not c.if-not-shown.false))) c.files.ensures c.if-files.false) c.requires.reached in record { held_len = (counted.0, (omega (arith, c.if-t-ge-TABLETS.false))); held_bound = counted.1 }

pub shape_of-held : goal.shape_of-held
shape_of-held c = c.recount.ensures.held_len_2 ∙ sym (reached_whole _ c.requires.reached)

pub returns : goal.returns
returns c = order_hears _ _ (omega (arith, c.if-t-ge-TABLETS.false)) _ _ _ _ _ c.seat_command-answer.ensures (λ k. order_frees _ k _ (omega (arith, c.if-t-ge-TABLETS.false)) _ _ (c.requires.s_value (not_denied c.args.shown (ap not c.if-not-shown.false))) c.files.ensures c.if-files.false) _ _ refl c.recount.ensures.held_after c.requires.reached
