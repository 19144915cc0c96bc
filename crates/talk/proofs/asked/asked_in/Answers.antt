-- By whether the line begins with the word of a take.
use mathlib.Core.Bool.{true≢false}
use mathlib.Core.Path.{sym, ◌∙◌}
use Rattle.std.proofs.lemmas.Bool.Decides.{Decides-eqb}
use Rattle.std.proofs.lemmas.Slice.Eq.{starts_is}
use Rattle.paper.specs.Byte.{bytes}
use Rattle.text.specs.Place.{from}
use Rattle.talk.proofs.Asking.{asks_line, asks_room}
use Rattle.talk.proofs.asked.asked_in.Goals as goal

pub returns-then-starts_with : goal.returns-then-starts_with
unfolding from bytes
returns-then-starts_with c =
    let told = starts_is Decides-eqb c.args.s.now (bytes "take") c.starts_with.result c.starts_with.ensures.value in
    asks_room _ _ (told.0 c.if-starts_with.true) c.room_at.ensures

pub returns : goal.returns
unfolding from bytes
returns c =
    let told = starts_is Decides-eqb c.args.s.now (bytes "take") c.starts_with.result c.starts_with.ensures.value in
    asks_line _ _ (λ x e. true≢false (sym (told.1 x e) ∙ c.if-starts_with.false)) c.tablet_line.ensures
