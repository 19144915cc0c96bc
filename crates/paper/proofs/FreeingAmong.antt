-- L12 among others: whatever they send between the three lines, and whenever the takes come, the tablet is Idle behind the third. The idea: of a tablet that sends nothing only takes change the
-- session, and these lead to Idle or leave it in Printing.
use Prim.Native.Nat.{ℕ, suc, ◌<◌}
use mathlib.Core.Path.{◌≡◌, refl, sym, ◌∙◌, ap}
use mathlib.Core.Bool.{true, not}
use mathlib.Core.List.{List, [], ◌∷◌}
use mathlib.Core.Option.{Option, none, some}
use lib.Dec.{eqb}
use borrow.Author.Tests.{eq-eqb, eqb-true}
use Rattle.paper.specs.Byte.{bytes, when◌then◌else◌}
use Rattle.paper.specs.Command.{FormLine}
use Rattle.paper.specs.Form.{Form, is_some}
use Rattle.paper.specs.Bench.{Session, idle, collecting, spoiled, opened, answering, ready, printing, Outcome, outcome, replied, after_refusal, after_set, taken, take_set}
use Rattle.paper.specs.Class.{Tablet, Class, desk, holds_form, open_lines, renamed, tablet_of, reply, denied, turn, hear_from, serve, take_next, Request, sends, fetches, reply_to, class_after, silent}
use Rattle.paper.specs.Freeing.{broken, three_among, at_idle}
use Rattle.paper.proofs.Law.{by_test, and_left, and_right}
use Rattle.paper.proofs.Test.{either}
use Rattle.paper.proofs.Apart.{seat_own, seat_other, leaves_others, calls_append}
use Rattle.paper.proofs.Silent.{not_own, line_elsewhere}
use Rattle.paper.proofs.Freeing.{behind_finish, first_leaves, second_leaves, third_leaves}

-- what holds of a tablet whatever others send, and of it behind each take
module _ (width t : ℕ) (P : Tablet → Type 0) (taken-stays : (room : ℕ) (c : Class) → P (c.tablet t) → P (tablet_of (take_set room (desk c t)).next.session (c.tablet t).form)) where
  take_stays : (room : ℕ) (c : Class) → P (c.tablet t) → P ((take_next room c).next.tablet t)
  unfolding take_next serve reply denied renamed
  take_stays room c p = by_turn (turn c)
    where
      by_turn : (o : Option ℕ) → P ((serve room c o).next.tablet t)
      by_turn none = p
      by_turn (some u) =
          either (eqb t u)
          (λ y. rw (← eqb-true t u y) (rw (seat_own t (tablet_of (take_set room (desk c t)).next.session (c.tablet t).form) c.tablet t (eq-eqb t t refl)) (taken-stays room c p)))
          (λ n. rw (seat_other u (tablet_of (take_set room (desk c u)).next.session (c.tablet u).form) c.tablet t n) p)

  calls_stay : (c : Class) (qs : List Request) → silent t qs ≡ true → P (c.tablet t) → P ((class_after width c qs).tablet t)
  unfolding class_after reply_to silent
  calls_stay c [] e p = p
  calls_stay c (sends u room s ∷ qs) e p =
      let other = not_own (eqb t u) (and_left _ _ e) in
      calls_stay (reply_to width c (sends u room s)).next qs (and_right (not (eqb t u)) _ e) (rw (leaves_others width t c (sends u room s) (line_elsewhere width t u room c s other)) p)
  calls_stay c (fetches room ∷ qs) e p = calls_stay (reply_to width c (fetches room)).next qs e (take_stays room c p)

-- a session that a function of the states leaves is left by it behind a take too, if Idle and Printing are
take_leaves : (f : Session → Session) → idle ≡ f idle → ((ls : List FormLine) (given : List (List ℕ)) (n c i : ℕ) → printing ls given n c i ≡ f (printing ls given n c i))
    → (room : ℕ) (fs : List Form) (st : Session) → st ≡ f st → (take_set room (record { forms = fs; session = st })).next.session ≡ f (take_set room (record { forms = fs; session = st })).next.session
unfolding take_set taken outcome replied after_set
take_leaves f p q room fs idle e = e
take_leaves f p q room fs (collecting name ls) e = e
take_leaves f p q room fs spoiled e = e
take_leaves f p q room fs (opened ls) e = e
take_leaves f p q room fs (answering ls given) e = e
take_leaves f p q room fs (ready ls given) e = e
take_leaves f p q room fs (printing ls given n c i) e =
    by_test (λ (o : Outcome). o.next.session ≡ f o.next.session) _ _ _ (λ y. by_test (λ st. st ≡ f st) (eqb (suc i) n) _ _ (λ z. p) (λ m. q ls given n c (suc i))) (λ m. e)

-- behind the first line there is no sound draft and no answer is asked for, and so it stays
first_again : (st : Session) → after_refusal st ≡ after_refusal (after_refusal st)
unfolding after_refusal
first_again idle = refl
first_again (collecting name ls) = refl
first_again spoiled = refl
first_again (opened ls) = refl
first_again (answering ls given) = refl
first_again (ready ls given) = refl
first_again (printing ls given n c i) = refl

-- behind the second there is no draft at all
second_again : (st : Session) → behind_finish st ≡ behind_finish (behind_finish st)
unfolding behind_finish
second_again idle = refl
second_again (collecting name ls) = refl
second_again spoiled = refl
second_again (opened ls) = refl
second_again (answering ls given) = refl
second_again (ready ls given) = refl
second_again (printing ls given n c i) = refl

-- and behind the third it is Idle
third_stays : (room : ℕ) (c : Class) (t : ℕ) → c.tablet t ≡ at_idle → tablet_of (take_set room (desk c t)).next.session (c.tablet t).form ≡ at_idle
unfolding take_set taken outcome desk at_idle tablet_of holds_form open_lines is_some when◌then◌else◌
third_stays room c t e = ap (λ (x : Tablet). tablet_of (take_set room (record { forms = c.forms; session = x.session })).next.session x.form) e

-- FREED AMONG OTHERS
module _ (width : ℕ) (c : Class) (t : ℕ) (l : t < 30) (w : List ℕ) (a b d : ℕ) (xs ys zs : List Request) (silent-first : silent t xs ≡ true) (silent-second : silent t ys ≡ true) (silent-third : silent t zs ≡ true) where
  abbrev one : Class
  one = class_after width (hear_from width a c t (broken w)).next xs

  abbrev two : Class
  two = class_after width (hear_from width b one t (bytes "FE")).next ys

  first : (one.tablet t).session ≡ after_refusal (one.tablet t).session
  unfolding tablet_of desk after_refusal
  first =
      let s = (first_leaves width c t l a w).session in
      calls_stay width t (λ x. x.session ≡ after_refusal x.session) (λ room d. take_leaves after_refusal refl (λ ls given n k i. refl) room d.forms (d.tablet t).session) _ xs silent-first
      (s ∙ first_again (c.tablet t).session ∙ ap after_refusal (sym s))

  second : (two.tablet t).session ≡ behind_finish (two.tablet t).session
  unfolding tablet_of desk behind_finish
  second =
      let s = (second_leaves width one t l b (one.tablet t).session first).session in
      calls_stay width t (λ x. x.session ≡ behind_finish x.session) (λ room d. take_leaves behind_finish refl (λ ls given n k i. refl) room d.forms (d.tablet t).session) _ ys silent-second
      (s ∙ second_again (one.tablet t).session ∙ ap behind_finish (sym s))

  third : (hear_from width d two t (bytes "N")).next.tablet t ≡ at_idle
  unfolding at_idle holds_form open_lines is_some
  third = let s = third_leaves width two t l d (two.tablet t).session second in λ j. record { session = s.session j; form = s.form refl j }

  pub frees_among : (class_after width c (three_among t w a b d xs ys zs)).tablet t ≡ at_idle
  unfolding three_among class_after reply_to
  frees_among =
      ap (λ (e : Class). e.tablet t) (calls_append width _ xs _ ∙ calls_append width _ ys _)
      ∙ calls_stay width t (λ x. x ≡ at_idle) (λ room e. third_stays room e t) _ zs silent-third third
