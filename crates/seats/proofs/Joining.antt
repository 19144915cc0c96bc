-- A form joins behind the others: their numbers and places stay, and so does every session that holds one of them open.
use Prim.Native.Nat.{ℕ, suc, ◌+◌}
use mathlib.Core.Path.{◌≡◌, refl, sym, ◌∙◌, ap}
use mathlib.Core.List.{List, [], ◌∷◌, ◌++◌}
use mathlib.Core.Option.{some, some-ne-none}
use lib.ListN.{length}
use Rattle.paper.specs.Byte.{same}
use Rattle.paper.specs.Command.{FormLine}
use Rattle.paper.specs.Form.{Form, text_of, find, stored}
use Rattle.paper.specs.Bench as P
use Rattle.paper.specs.Class.{open_lines}
use Rattle.paper.proofs.Test.{either}
use Rattle.session.specs.Memory.{place_of, holds, holding, packed_session, number_of}
use Rattle.session.specs.declared.state.Mode.{Mode}
use Rattle.seats.proofs.Gone.{number_here, number_later, find_later, place_first, place_later}

-- the number and the place of a stored form before others
pub record Stays (form : List ℕ) (fs gs : List Form) : Type 0 where
  pub number : number_of form (fs ++ gs) ≡ number_of form fs
  pub place : place_of (fs ++ gs) (number_of form fs) ≡ place_of fs (number_of form fs)

pub stays : (form : List ℕ) (fs gs : List Form) (ls : List FormLine) → find form fs ≡ some ls → Stays form fs gs
unfolding find
stays form [] gs ls e = absurd (some-ne-none _ (sym e))
stays form (f ∷ fs) gs ls e =
    either (same form f.name)
    (λ y.
    let here = number_here form f fs y in
    record { number = number_here form f (fs ++ gs) y ∙ sym here; place = rw here (place_first f (fs ++ gs) ∙ sym (place_first f fs)) })
    (λ n.
    let later = number_later form f fs n in
    let w = stays form fs gs ls (sym (find_later form f fs n) ∙ e) in
    record {
      number = number_later form f (fs ++ gs) n ∙ ap suc w.number ∙ sym later;
      place = rw later (place_later f (fs ++ gs) (number_of form fs) ∙ ap (λ p. length (text_of f.lines) + p) w.place ∙ sym (place_later f fs (number_of form fs)));
    })

-- a session that holds it open
holding_stays : (form : List ℕ) (fs gs : List Form) (mode : Mode) (ls : List FormLine) (given : List (List ℕ)) → find form fs ≡ some ls
    → holding mode (fs ++ gs) (number_of form (fs ++ gs)) ls given ≡ holding mode fs (number_of form fs) ls given
unfolding holding holds
holding_stays form fs gs mode ls given e = let w = stays form fs gs ls e in rw (w.number, w.place)

-- whatever a session holds open, its memory stays where a form joins
pub joins_alike : (form name : List ℕ) (fs : List Form) (new : List FormLine) (st : P.Session) → ((ls : List FormLine) → open_lines st ≡ some ls → find form fs ≡ some ls)
    → packed_session (stored fs name new) (number_of form (stored fs name new)) st ≡ packed_session fs (number_of form fs) st
unfolding packed_session open_lines stored
joins_alike form name fs new P.idle held = refl
joins_alike form name fs new (P.collecting draft ls) held = refl
joins_alike form name fs new P.spoiled held = refl
joins_alike form name fs new (P.opened ls) held = holding_stays form fs _ _ ls _ (held ls refl)
joins_alike form name fs new (P.answering ls given) held = holding_stays form fs _ _ ls given (held ls refl)
joins_alike form name fs new (P.ready ls given) held = holding_stays form fs _ _ ls given (held ls refl)
joins_alike form name fs new (P.printing ls given k c i) held = holding_stays form fs _ _ ls given (held ls refl)
