-- An answer is heard at its seat, a line to the store as the others let it, and behind any other it is counted who prints.
use mathlib.Core.Path.{refl, sym, ◌∙◌}
use Rattle.tablets.proofs.Packed.{packed_sits}
use Rattle.tablets.proofs.Leaving.{reached_whole, tag_within, files_idle, order_frees}
use Rattle.tablets.proofs.Hearing.{mid_counted, order_hears}
use Rattle.tablets.proofs.Forbidding.{answer_hears}
use Rattle.desk.proofs.hear_shown.Goals as goal

pub bounds-held-t : goal.bounds-held-t
bounds-held-t c = tag_within c.args.t c.args.held.now (reached_whole _ c.requires.reached) c.requires.t_bound

pub seat_answer-requires : goal.seat_answer-requires
seat_answer-requires c = record { sits = packed_sits _ _ c.requires.reached c.requires.t_bound; t_value = c.if-was-eq-ANSWERING.true; s_value = c.requires.s_value }

pub returns-then-was-eq-ANSWERING : goal.returns-then-was-eq-ANSWERING
returns-then-was-eq-ANSWERING c = answer_hears _ _ c.requires.t_bound _ _ _ _ _ c.seat_answer.ensures c.if-was-eq-ANSWERING.true c.requires.reached

pub hear_filing-requires : goal.hear_filing-requires
hear_filing-requires c = record { reached = c.requires.reached; t_bound = c.requires.t_bound; s_value = c.requires.s_value; t_value = files_idle _ _ _ c.files.ensures c.if-files.true }

pub returns-then-files : goal.returns-then-files
returns-then-files c = c.hear_filing.ensures

pub seat_command-answer-requires : goal.seat_command-answer-requires
seat_command-answer-requires c = record { sits = packed_sits _ _ c.requires.reached c.requires.t_bound; fact = c.if-was-eq-ANSWERING.false; s_value = c.requires.s_value }

pub recount-requires : goal.recount-requires
recount-requires c = let counted = mid_counted _ _ c.requires.t_bound _ _ _ _ _ c.seat_command-answer.ensures (λ k. order_frees _ k _ c.requires.t_bound _ _ c.requires.s_value c.files.ensures c.if-files.false) c.requires.reached in record { held_len = (counted.0, c.requires.t_bound); held_bound = counted.1 }

pub shape_of-held : goal.shape_of-held
shape_of-held c = c.recount.ensures.held_len_2 ∙ sym (reached_whole _ c.requires.reached)

pub returns : goal.returns
returns c = order_hears _ _ c.requires.t_bound _ _ _ _ _ c.seat_command-answer.ensures (λ k. order_frees _ k _ c.requires.t_bound _ _ c.requires.s_value c.files.ensures c.if-files.false) _ _ refl c.recount.ensures.held_after c.requires.reached
