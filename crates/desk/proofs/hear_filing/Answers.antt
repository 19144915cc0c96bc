-- What the others make of the line decides: it is heard at its seat, refused, or heard and followed.
use mathlib.Core.Path.{sym, ◌∙◌, ap}
use Rattle.std.specs.Prelude.{Err}
use Rattle.std.proofs.lemmas.Result.{err_from_is_err_and}
use Rattle.tablets.proofs.Packed.{packed_sits}
use Rattle.tablets.proofs.Leaving.{reached_whole, zero_four}
use Rattle.tablets.proofs.Forbidding.{free_hears, refused_hears}
use Rattle.tablets.proofs.Following.{leaves_hears}
use Rattle.desk.proofs.hear_filing.Goals as goal

pub warned-requires : goal.warned-requires
warned-requires c = record { reached = c.requires.reached; t_bound = c.requires.t_bound; s_value = c.requires.s_value; t_value = c.requires.t_value }

pub seat_command-answer-requires : goal.seat_command-answer-requires
seat_command-answer-requires c = record { sits = packed_sits _ _ c.requires.reached c.requires.t_bound; fact = (λ e. zero_four (sym c.requires.t_value ∙ e)); s_value = c.requires.s_value }

pub follow-requires : goal.follow-requires
follow-requires c = c.seat_command-answer.auto.held ∙ reached_whole _ c.requires.reached

pub returns-in_err-leaving : goal.returns-in_err-leaving
returns-in_err-leaving c = let p = err_from_is_err_and c.from_residual.result c.from_residual.ensures.1 in refused_hears _ _ c.requires.t_bound _ _ c.requires.t_value c.requires.s_value c.requires.reached _ _ c.in_err-leaving.ensures (p.1 ∙ ap Err p.2)

pub returns-in_default : goal.returns-in_default
returns-in_default c = free_hears _ _ c.requires.t_bound _ _ c.requires.t_value c.requires.s_value c.requires.reached _ _ _ _ c.in_ok-leaving.ensures c.in_default.is c.seat_command-answer.ensures

pub returns : goal.returns
returns c = leaves_hears _ _ c.requires.t_bound _ _ c.requires.t_value c.requires.s_value c.requires.reached _ _ _ c.in_ok-leaving.ensures c.in-Some.is _ _ _ c.seat_command-answer.ensures _ c.follow.ensures.by_index
