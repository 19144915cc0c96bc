-- A form leaves the store: the numbers of the forms behind it are one less, their texts begin so many bytes earlier, and a session that
-- holds one of them open follows.
use Prim.Native.Nat.{ℕ, suc, ◌+◌, ◌-◌, ◌≤◌, ◌<◌}
use mathlib.Core.Path.{◌≡◌, refl, sym, ◌∙◌, ap}
use mathlib.Core.Bool.{true, false}
use mathlib.Core.List.{List, [], ◌∷◌}
use mathlib.Core.Option.{none, some, some-ne-none, some-injective}
use native.Mathlib.Omega.{arith}
use lib.ListN.{length}
use lib.Dec.{ltb}
use borrow.Author.Tests.{ltb-true, ltb-false, le-ltb}
use Rattle.paper.specs.Byte.{when◌then◌else◌, same}
use Rattle.paper.specs.Command.{FormLine}
use Rattle.paper.specs.Form.{Form, is_some, text_of, find, without}
use Rattle.paper.specs.Bench as P
use Rattle.paper.specs.Class.{open_lines, holds_form}
use Rattle.paper.specs.State.{AllStored}
use Rattle.paper.proofs.Law.{if_true, if_false}
use Rattle.paper.proofs.Store.{same_sym, without_absent}
use Rattle.paper.proofs.Test.{either}
use Rattle.paper.proofs.Text.{same_eq}
use Rattle.session.specs.Memory.{drafts, drafting, place_of, holds, holding, packed_session, number_of}
use Rattle.session.specs.declared.state.Mode.{Mode}
use Rattle.session.specs.declared.state.Mode.TheVariants as M
use Rattle.session.specs.declared.state.Held.{Held}
use Rattle.seats.specs.Seats.{lowered, with_held}

-- the numbers of names, the places and the forms that are left, form by form
module _ (name : List ℕ) (f : Form) (fs : List Form) where
  pub number_here : same name f.name ≡ true → number_of name (f ∷ fs) ≡ 0
  unfolding number_of
  number_here e = if_true _ _ _ e

  pub number_later : same name f.name ≡ false → number_of name (f ∷ fs) ≡ suc (number_of name fs)
  unfolding number_of
  number_later e = if_false _ _ _ e

  pub find_here : same name f.name ≡ true → find name (f ∷ fs) ≡ some f.lines
  unfolding find
  find_here e = if_true _ _ _ e

  pub find_later : same name f.name ≡ false → find name (f ∷ fs) ≡ find name fs
  unfolding find
  find_later e = if_false _ _ _ e

  pub without_here : same name f.name ≡ true → without name (f ∷ fs) ≡ without name fs
  unfolding without
  without_here e = if_true _ _ _ e

  pub without_later : same name f.name ≡ false → without name (f ∷ fs) ≡ f ∷ without name fs
  unfolding without
  without_later e = if_false _ _ _ e

pub place_first : (f : Form) (fs : List Form) → place_of (f ∷ fs) 0 ≡ 0
unfolding place_of
place_first f fs = refl

pub place_later : (f : Form) (fs : List Form) (n : ℕ) → place_of (f ∷ fs) (suc n) ≡ length (text_of f.lines) + place_of fs n
unfolding place_of
place_later f fs n = refl

-- where a form that stays stands behind the leaving of another: before it as it was, behind it one less and so many bytes earlier
pub record Moved (name form : List ℕ) (fs : List Form) (size : ℕ) : Type 0 where
  pub down : number_of name fs < number_of form fs
      → (number_of form fs ≡ suc (number_of form (without name fs))) × (place_of fs (number_of form fs) ≡ size + place_of (without name fs) (number_of form (without name fs)))
  pub stay : number_of form fs ≤ number_of name fs
      → (number_of form (without name fs) ≡ number_of form fs) × (place_of (without name fs) (number_of form (without name fs)) ≡ place_of fs (number_of form fs))

pub moved : (width : ℕ) (name form : List ℕ) (fs : List Form) (gone : List FormLine) → AllStored width fs → find name fs ≡ some gone → same name form ≡ false
    → Moved name form fs (length (text_of gone))
unfolding find
moved width name form [] gone all e apart = absurd (some-ne-none _ (sym e))
moved width name form (f ∷ fs) gone all e apart =
    either (same name f.name)
    (λ y.
    let it : name ≡ f.name = same_eq name f.name y in
    let lines : f.lines ≡ gone = some-injective _ _ (sym (find_here name f fs y) ∙ e) in
    let rest : without name (f ∷ fs) ≡ fs = without_here name f fs y ∙ without_absent name fs (rw it all.1) in
    let other : number_of form (f ∷ fs) ≡ suc (number_of form fs) = number_later form f fs (rw (← it) (same_sym form name ∙ apart)) in
    let none' : number_of name (f ∷ fs) ≡ 0 = number_here name f fs y in
    record {
      down = λ l. rw (rest, other, ← lines) (refl, place_later f fs (number_of form fs));
      stay = λ l. absurd (omega arith);
    })
    (λ n.
    let rest : without name (f ∷ fs) ≡ f ∷ without name fs = without_later name f fs n in
    let mine : number_of name (f ∷ fs) ≡ suc (number_of name fs) = number_later name f fs n in
    let w = moved width name form fs gone all.3 (sym (find_later name f fs n) ∙ e) apart in
    either (same form f.name)
    (λ z.
    let here : number_of form (f ∷ fs) ≡ 0 = number_here form f fs z in
    let still : number_of form (f ∷ without name fs) ≡ 0 = number_here form f (without name fs) z in
    record {
      down = λ l. absurd (omega arith);
      stay = λ l. rw (rest, still, here) (refl, place_first f (without name fs) ∙ sym (place_first f fs));
    })
    (λ z.
    let here : number_of form (f ∷ fs) ≡ suc (number_of form fs) = number_later form f fs z in
    let still : number_of form (f ∷ without name fs) ≡ suc (number_of form (without name fs)) = number_later form f (without name fs) z in
    let place = place_later f fs (number_of form fs) in
    let left = place_later f (without name fs) (number_of form (without name fs)) in
    record {
      down = λ l. let d = w.down (omega arith) in rw (rest, still, here) (ap suc d.0, omega arith);
      stay = λ l. let d = w.stay (omega arith) in rw (rest, still, here) (ap suc d.0, omega arith);
    }))

-- the numbers of a session that holds it open follow
holds_lowered : (width : ℕ) (name form : List ℕ) (fs : List Form) (gone : List FormLine) (mode : Mode) (ls : List FormLine) (given : ℕ) → AllStored width fs → find name fs ≡ some gone → same name form ≡ false
    → holds mode (without name fs) (number_of form (without name fs)) ls given ≡ lowered (number_of name fs) (length (text_of gone)) (holds mode fs (number_of form fs) ls given)
unfolding holds lowered when◌then◌else◌
holds_lowered width name form fs gone mode ls given all e apart =
    let w = moved width name form fs gone all e apart in
    either (ltb (number_of name fs) (number_of form fs))
    (λ y.
    let d = w.down (ltb-true _ _ y) in
    let n : number_of form (without name fs) ≡ number_of form fs - 1 = omega arith in
    let p : place_of (without name fs) (number_of form (without name fs)) ≡ place_of fs (number_of form fs) - length (text_of gone) = omega arith in
    rw y (λ i. record { mode = mode; form = n i; start = p i; size = length (text_of ls); len = 0; drafted = 0; given = given }))
    (λ m.
    let d = w.stay (ltb-false _ _ m) in
    rw m (λ i. record { mode = mode; form = d.0 i; start = d.1 i; size = length (text_of ls); len = 0; drafted = 0; given = given }))

-- numbers without a form stay
pub lowered_none : (k size : ℕ) (h : Held) → h.form ≡ 0 → lowered k size h ≡ h
unfolding lowered
lowered_none k size h e = if_false _ _ _ (rw e (le-ltb k 0 (omega arith)))

-- a session that holds no form open has none
pub rests_lowered : (fs gs : List Form) (m n k size : ℕ) (st : P.Session) → open_lines st ≡ none
    → packed_session gs m st ≡ with_held (lowered k size (packed_session fs n st).held) (packed_session fs n st)
unfolding packed_session drafting drafts with_held open_lines
rests_lowered fs gs m n k size P.idle o = ap (λ h. with_held h (packed_session fs n P.idle)) (sym (lowered_none k size _ refl))
rests_lowered fs gs m n k size (P.collecting name ls) o = ap (λ h. with_held h (packed_session fs n (P.collecting name ls))) (sym (lowered_none k size _ refl))
rests_lowered fs gs m n k size P.spoiled o = ap (λ h. with_held h (packed_session fs n P.spoiled)) (sym (lowered_none k size _ refl))
rests_lowered fs gs m n k size (P.opened ls) o = absurd (some-ne-none _ o)
rests_lowered fs gs m n k size (P.answering ls given) o = absurd (some-ne-none _ o)
rests_lowered fs gs m n k size (P.ready ls given) o = absurd (some-ne-none _ o)
rests_lowered fs gs m n k size (P.printing ls given a b c) o = absurd (some-ne-none _ o)

-- its memory tells nothing of the forms
pub rests_alike : (fs gs : List Form) (m n : ℕ) (st : P.Session) → open_lines st ≡ none → packed_session gs m st ≡ packed_session fs n st
unfolding packed_session open_lines
rests_alike fs gs m n P.idle o = refl
rests_alike fs gs m n (P.collecting name ls) o = refl
rests_alike fs gs m n P.spoiled o = refl
rests_alike fs gs m n (P.opened ls) o = absurd (some-ne-none _ o)
rests_alike fs gs m n (P.answering ls given) o = absurd (some-ne-none _ o)
rests_alike fs gs m n (P.ready ls given) o = absurd (some-ne-none _ o)
rests_alike fs gs m n (P.printing ls given a b c) o = absurd (some-ne-none _ o)

-- and one that does follows the form
pub leaves_lowered : (width : ℕ) (name form : List ℕ) (fs : List Form) (gone : List FormLine) (st : P.Session) → AllStored width fs → find name fs ≡ some gone → (holds_form st ≡ true → same name form ≡ false)
    → packed_session (without name fs) (number_of form (without name fs)) st ≡ with_held (lowered (number_of name fs) (length (text_of gone)) (packed_session fs (number_of form fs) st).held) (packed_session fs (number_of form fs) st)
unfolding packed_session holding with_held holds_form open_lines is_some
leaves_lowered width name form fs gone P.idle all e apart =
    rests_lowered fs (without name fs) (number_of form (without name fs)) (number_of form fs) (number_of name fs) (length (text_of gone)) P.idle refl
leaves_lowered width name form fs gone (P.collecting draft ls) all e apart =
    rests_lowered fs (without name fs) (number_of form (without name fs)) (number_of form fs) (number_of name fs) (length (text_of gone)) (P.collecting draft ls) refl
leaves_lowered width name form fs gone P.spoiled all e apart =
    rests_lowered fs (without name fs) (number_of form (without name fs)) (number_of form fs) (number_of name fs) (length (text_of gone)) P.spoiled refl
leaves_lowered width name form fs gone (P.opened ls) all e apart =
    ap (λ h. with_held h (holding M.Opened fs (number_of form fs) ls [])) (holds_lowered width name form fs gone M.Opened ls _ all e (apart refl))
leaves_lowered width name form fs gone (P.answering ls given) all e apart =
    ap (λ h. with_held h (holding (M.Answering (length given)) fs (number_of form fs) ls given)) (holds_lowered width name form fs gone (M.Answering (length given)) ls _ all e (apart refl))
leaves_lowered width name form fs gone (P.ready ls given) all e apart =
    ap (λ h. with_held h (holding M.Ready fs (number_of form fs) ls given)) (holds_lowered width name form fs gone M.Ready ls _ all e (apart refl))
leaves_lowered width name form fs gone (P.printing ls given k c i) all e apart =
    ap (λ h. with_held h (holding (M.Printing k c i) fs (number_of form fs) ls given)) (holds_lowered width name form fs gone (M.Printing k c i) ls _ all e (apart refl))
