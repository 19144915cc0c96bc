-- What the code asks of the other tablets' numbers is what the paper asks of the other tablets. A form's number tells its name, since
-- a form that is held open is stored.
use Prim.Native.Nat.{ℕ, ◌≤◌, ◌<◌}
use mathlib.Core.Path.{◌≡◌, refl, sym, ◌∙◌, ap}
use mathlib.Core.Bool.{Bool, true, false, ◌&&◌}
use mathlib.Core.List.{List, [], ◌∷◌}
use mathlib.Core.Option.{some, some-ne-none}
use native.Mathlib.Omega.{arith}
use lib.ListN.{length}
use lib.Dec.{eqb}
use borrow.Author.Tests.{eq-eqb, eqb-true}
use Rattle.paper.specs.Byte.{same}
use Rattle.paper.specs.Command.{FormLine, delete, star}
use Rattle.paper.specs.Form.{Form, is_some, find}
use Rattle.paper.specs.Bench as P
use Rattle.paper.specs.Class.{Class, collects, holds_form, open_lines, another, strikes, first_after, turn, thirty}
use Rattle.paper.proofs.Store.{same_self}
use Rattle.paper.proofs.Test.{either, agree}
use Rattle.paper.proofs.Text.{same_eq}
use Rattle.session.specs.Memory.{packed_session, number_of}
use Rattle.seats.specs.Numbers.{code_of}
use Rattle.seats.specs.Seats.{is_at, beside_below}
use Rattle.seats.proofs.States.{collects_at, held_is_holding, any_holds_at, prints_at, another_beside, beside_alike}
use Rattle.seats.proofs.Gone.{number_here, number_later, find_later}

-- the number of a stored form is one of theirs
pub number_below : (name : List ℕ) (fs : List Form) (ls : List FormLine) → find name fs ≡ some ls → number_of name fs < length fs
unfolding find
number_below name [] ls e = absurd (some-ne-none _ (sym e))
number_below name (f ∷ fs) ls e =
    either (same name f.name)
    (λ y. let here = number_here name f fs y in omega arith)
    (λ n. let later = number_later name f fs n in let more = number_below name fs ls (sym (find_later name f fs n) ∙ e) in omega arith)

-- a name with the number of a stored form is its name
number_name : (name form : List ℕ) (fs : List Form) (ls : List FormLine) → find form fs ≡ some ls → number_of name fs ≡ number_of form fs → same name form ≡ true
unfolding find
number_name name form [] ls e m = absurd (some-ne-none _ (sym e))
number_name name form (f ∷ fs) ls e m =
    either (same form f.name)
    (λ z.
    let here = number_here form f fs z in
    either (same name f.name)
    (λ y. rw (same_eq name f.name y, same_eq form f.name z) (same_self f.name))
    (λ n. let later = number_later name f fs n in absurd (omega arith)))
    (λ z.
    let later = number_later form f fs z in
    either (same name f.name)
    (λ y. let here = number_here name f fs y in absurd (omega arith))
    (λ n.
    let more = number_later name f fs n in
    number_name name form fs ls (sym (find_later form f fs z) ∙ e) (omega arith)))

pub same_number : (name form : List ℕ) (fs : List Form) (ls : List FormLine) → find form fs ≡ some ls → eqb (number_of name fs) (number_of form fs) ≡ same name form
same_number name form fs ls e =
    agree (eqb (number_of name fs) (number_of form fs)) (same name form)
    (λ y. number_name name form fs ls e (eqb-true (number_of name fs) (number_of form fs) y))
    (λ y. eq-eqb (number_of name fs) (number_of form fs) (ap (λ x. number_of x fs) (same_eq name form y)))

-- a session that holds the form of a name open, by that form's number
pub holds_named : (name form : List ℕ) (fs : List Form) (st : P.Session) → ((ls : List FormLine) → open_lines st ≡ some ls → find form fs ≡ some ls)
    → is_at 3 6 (number_of name fs) (number_of name fs) (packed_session fs (number_of form fs) st).held ≡ (holds_form st && same name form)
unfolding holds_form open_lines is_some
holds_named name form fs P.idle held = held_is_holding fs (number_of name fs) (number_of form fs) P.idle
holds_named name form fs (P.collecting draft ls) held = held_is_holding fs (number_of name fs) (number_of form fs) (P.collecting draft ls)
holds_named name form fs P.spoiled held = held_is_holding fs (number_of name fs) (number_of form fs) P.spoiled
holds_named name form fs (P.opened ls) held = held_is_holding fs (number_of name fs) (number_of form fs) (P.opened ls) ∙ same_number name form fs ls (held ls refl)
holds_named name form fs (P.answering ls given) held = held_is_holding fs (number_of name fs) (number_of form fs) (P.answering ls given) ∙ same_number name form fs ls (held ls refl)
holds_named name form fs (P.ready ls given) held = held_is_holding fs (number_of name fs) (number_of form fs) (P.ready ls given) ∙ same_number name form fs ls (held ls refl)
holds_named name form fs (P.printing ls given k c i) held = held_is_holding fs (number_of name fs) (number_of form fs) (P.printing ls given k c i) ∙ same_number name form fs ls (held ls refl)

-- the star strikes every form, and a name its own
strikes_all : (b : Bool) (form : List ℕ) → b ≡ (b && strikes (some (delete star)) form)
unfolding strikes
strikes_all true form = rw (same_self star)
strikes_all false form = refl

strikes_one : (name form : List ℕ) → same name star ≡ false → strikes (some (delete name)) form ≡ same name form
unfolding strikes
strikes_one name form one = rw one

-- the sessions of a class by their numbers, each with a number for the form that it holds
module _ (c : Class) (n : ℕ → ℕ) where
  -- 17 asks whether another collects
  pub collects_beside : (t : ℕ) → beside_below 30 t (λ k. is_at 1 2 0 0 (packed_session c.forms (n k) (c.tablet k).session).held) ≡ another c t (λ x. collects x.session)
  collects_beside t =
      beside_alike 30 t _ _ (λ k l. collects_at c.forms (n k) (c.tablet k).session) ∙ sym (another_beside c t (λ x. collects x.session))

  -- 19 for the star whether another holds a form open
  pub others_hold : (t : ℕ) → ((k : ℕ) → k < 30 → holds_form (c.tablet k).session ≡ true → n k ≤ 7)
      → beside_below 30 t (λ k. is_at 3 6 0 7 (packed_session c.forms (n k) (c.tablet k).session).held) ≡ another c t (λ x. holds_form x.session && strikes (some (delete star)) x.form)
  others_hold t few =
      beside_alike 30 t _ _ (λ k l. any_holds_at c.forms (n k) (c.tablet k).session (few k l) ∙ strikes_all (holds_form (c.tablet k).session) (c.tablet k).form)
      ∙ sym (another_beside c t (λ x. holds_form x.session && strikes (some (delete star)) x.form))

  -- whose turn it is
  pub turn_printing : first_after (λ k. eqb (code_of (packed_session c.forms (n k) (c.tablet k).session).held.mode).tag 6) 30 c.last ≡ turn c
  unfolding turn thirty
  turn_printing = ap (λ test. first_after test 30 c.last) (λ i k. prints_at c.forms (n k) (c.tablet k).session i)

-- and 19 for a name whether another holds its form open
pub others_strike : (c : Class) (t : ℕ) (name : List ℕ) → same name star ≡ false → ((k : ℕ) → k < 30 → (ls : List FormLine) → open_lines (c.tablet k).session ≡ some ls → find (c.tablet k).form c.forms ≡ some ls)
    → beside_below 30 t (λ k. is_at 3 6 (number_of name c.forms) (number_of name c.forms) (packed_session c.forms (number_of (c.tablet k).form c.forms) (c.tablet k).session).held) ≡ another c t (λ x. holds_form x.session && strikes (some (delete name)) x.form)
others_strike c t name one held =
    beside_alike 30 t _ _ (λ k l.
    holds_named name (c.tablet k).form c.forms (c.tablet k).session (held k l)
    ∙ ap (λ b. holds_form (c.tablet k).session && b) (sym (strikes_one name (c.tablet k).form one)))
    ∙ sym (another_beside c t (λ x. holds_form x.session && strikes (some (delete name)) x.form))
