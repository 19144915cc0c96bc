-- Every class that calls lead to is sane: what holds of the bench of 01 holds of the store and of each session, the forms held
-- open are stored with their lines, and at most one tablet collects. One law for a step of any tablet; a line and a take are such.
use mathlib.Core.Path.{◌≡◌, refl, sym, ◌∙◌}
use mathlib.Core.Bool.{true, false, ◌&&◌, false≢true}
use mathlib.Core.List.{List, [], ◌∷◌}
use mathlib.Core.Option.{Option, none, some, some-ne-none}
use Prim.Native.Nat.{ℕ, ◌<◌}
use native.Mathlib.Omega.{arith}
use lib.Dec.{ltb, eqb}
use borrow.Author.Tests.{eqb-true, eq-eqb, ltb-true}
use Rattle.paper.specs.Byte.{when◌then◌else◌}
use Rattle.paper.specs.Command.{FormLine, Filing}
use Rattle.paper.specs.Refusal.{Refusal, Answer, accepted, refused}
use Rattle.paper.specs.Form.{Form, is_some, find}
use Rattle.paper.specs.Bench.{Session, idle, collecting, spoiled, opened, answering, ready, printing, begin, Outcome, outcome, refuse, after_refusal, hear, take_set}
use Rattle.paper.specs.State.{Sound, Sane}
use Rattle.paper.specs.Class.{Tablet, Class, thirty, begin_class, desk, collects, prints, open_lines, holds_form, starts, strikes, renamed, filing_of, barred, hear_unless, seat, tablet_of, Reply, reply, denied, hear_of, hear_from, turn, last_after, serve, take_next, Request, sends, fetches, reply_to, class_after, SaneClass}
use Rattle.paper.proofs.Law.{if_true, if_false, by_test}
use Rattle.paper.proofs.Test.{either, clash}
use Rattle.paper.proofs.Invariant.{begin_sane, hear_sane, take_sane}
use Rattle.paper.proofs.Others.{each_other, may_start, may_strike, barred_idle}
use Rattle.paper.proofs.Apart.{seat_own, seat_other}
use Rattle.paper.proofs.Turn.{Passing, turn_passing}
use Rattle.paper.proofs.Keeps.{Keeps, hear_keeps, take_keeps, forbidden_keeps}

-- only a draft depends on the store beside it
sound_by : (width : ℕ) (fs gs : List Form) (st : Session) → (collects st ≡ true → (h : List ℕ) → find h fs ≡ none → find h gs ≡ none) → Sound width fs st → Sound width gs st
unfolding collects
sound_by width fs gs idle k s = tt
sound_by width fs gs (collecting name ls) k s =
    record { named = s.named; free = k refl name s.free; inside = s.inside; limits = s.limits }
sound_by width fs gs spoiled k s = tt
sound_by width fs gs (opened ls) k s = s
sound_by width fs gs (answering ls given) k s = s
sound_by width fs gs (ready ls given) k s = s
sound_by width fs gs (printing ls given n c i) k s = s

-- the desk of each tablet is sane
pub desk_sane : (width : ℕ) (c : Class) (t : ℕ) → SaneClass width c → t < 30 → Sane width (desk c t)
unfolding desk
desk_sane width c t sane l = record { forms = sane.forms; session = sane.each t l }

-- so is a tablet's session with nothing stored
pub bare_sane : (width : ℕ) (st : Session) (fs : List Form) → Sound width fs st → Sane width (record { forms = []; session = st })
unfolding begin find
bare_sane width st fs s = record { forms = (begin_sane width).forms; session = sound_by width fs [] st (λ y h p. refl) s }

-- the name of a tablet that holds a form
tablet_named : (st : Session) (form : List ℕ) → holds_form st ≡ true → (tablet_of st form).form ≡ form
unfolding tablet_of
tablet_named st form h = if_true _ _ _ h

pub tablet_nameless : (st : Session) (form : List ℕ) → holds_form st ≡ false → (tablet_of st form).form ≡ []
unfolding tablet_of
tablet_nameless st form h = if_false _ _ _ h

tablet_session : (st : Session) (form : List ℕ) → (tablet_of st form).session ≡ st
unfolding tablet_of
tablet_session st form = refl

lines_held : (st : Session) (ls : List FormLine) → open_lines st ≡ some ls → holds_form st ≡ true
unfolding holds_form is_some
lines_held st ls e = rw e

module _ (width : ℕ) (c : Class) (t last : ℕ) (f : Option Filing) (o : Outcome) (sane : SaneClass width c) (l : t < 30) (low : last < 30) (good : Sane width o.next) (k : Keeps c.forms (c.tablet t).session f o)
    (safe : (j : ℕ) → j < 30 → eqb j t ≡ false → holds_form (c.tablet j).session ≡ true → strikes f (c.tablet j).form ≡ false)
    (first : starts c.forms f ≡ true → (j : ℕ) → j < 30 → eqb j t ≡ false → collects (c.tablet j).session ≡ false) where
  -- the tablet as it is left
  mine : Tablet
  mine = tablet_of o.next.session (renamed f (c.tablet t).form)

  -- a collector has no other beside it
  only : (j : ℕ) → j < 30 → eqb j t ≡ false → collects (c.tablet j).session ≡ true → collects (c.tablet t).session ≡ false
  only j m n y =
      either (collects (c.tablet t).session) (λ z. clash (eq-eqb j t (sane.one_collects j t m l y z)) n) (λ z. z)

  not_both : (j : ℕ) → j < 30 → eqb j t ≡ false → collects (c.tablet j).session ≡ true → collects o.next.session ≡ true → ⊥
  not_both j m n y z = clash y (first (k.began (only j m n y) z) j m n)

  each_sound : (j : ℕ) → j < 30 → Sound width o.next.forms (seat t mine c.tablet j).session
  unfolding mine tablet_of
  each_sound j m =
      either (eqb j t)
      (λ y. rw (seat_own t mine c.tablet j y) good.session)
      (λ n. rw (seat_other t mine c.tablet j n) (sound_by width c.forms o.next.forms (c.tablet j).session (λ y. k.no_more (only j m n y)) (sane.each j m)))

  each_held : (j : ℕ) → j < 30 → (ls : List FormLine) → open_lines (seat t mine c.tablet j).session ≡ some ls → find (seat t mine c.tablet j).form o.next.forms ≡ some ls
  unfolding mine
  each_held j m ls =
      either (eqb j t)
      (λ y.
      rw (seat_own t mine c.tablet j y, tablet_session o.next.session (renamed f (c.tablet t).form))
      (λ e. rw (tablet_named o.next.session (renamed f (c.tablet t).form) (lines_held _ ls e)) (k.own (c.tablet t).form ls (λ p. sane.held t l ls p) e)))
      (λ n.
      rw (seat_other t mine c.tablet j n)
      (λ e. k.stays _ ls (safe j m n (lines_held _ ls e)) (sane.held j m ls e)))

  each_nameless : (j : ℕ) → j < 30 → holds_form (seat t mine c.tablet j).session ≡ false → (seat t mine c.tablet j).form ≡ []
  unfolding mine
  each_nameless j m =
      either (eqb j t)
      (λ y. rw (seat_own t mine c.tablet j y) (λ e. tablet_nameless _ _ (rw tablet_session at e)))
      (λ n. rw (seat_other t mine c.tablet j n) (λ e. sane.nameless j m e))

  one_collector : (i j : ℕ) → i < 30 → j < 30 → collects (seat t mine c.tablet i).session ≡ true → collects (seat t mine c.tablet j).session ≡ true → i ≡ j
  unfolding mine tablet_of
  one_collector i j m n =
      either (eqb i t)
      (λ y.
      either (eqb j t)
      (λ z p q. eqb-true i t y ∙ sym (eqb-true j t z))
      (λ z. rw (seat_own t mine c.tablet i y, seat_other t mine c.tablet j z) (λ p q. absurd (not_both j n z q p))))
      (λ y.
      either (eqb j t)
      (λ z. rw (seat_other t mine c.tablet i y, seat_own t mine c.tablet j z) (λ p q. absurd (not_both i m y p q)))
      (λ z. rw (seat_other t mine c.tablet i y, seat_other t mine c.tablet j z) (λ p q. sane.one_collects i j m n p q)))

  -- a step keeps a class sane
  step_sane : SaneClass width (reply c t last f o).next
  unfolding reply mine
  step_sane = record {
    forms = good.forms;
    each = each_sound;
    held = each_held;
    nameless = each_nameless;
    one_collects = one_collector;
    last_below = low;
  }

-- a forbidden line finds its sender Idle, and leaves all as it was
barred_same : (c : Class) (t last : ℕ) (f : Option Filing) (r : Refusal) (fs : List Form) (st : Session) → st ≡ idle → (reply c t last f (refuse r fs st)).next ≡ (reply c t last none (outcome (refused r) fs idle)).next
unfolding reply refuse outcome after_refusal tablet_of holds_form open_lines is_some when◌then◌else◌
barred_same c t last f r fs st e = rw e

-- a line
pub line_sane : (width room : ℕ) (c : Class) (t : ℕ) (s : List ℕ) → SaneClass width c → SaneClass width (hear_from width room c t s).next
unfolding hear_from hear_of hear_unless denied thirty desk outcome strikes starts
line_sane width room c t s sane =
    by_test (λ (r : Reply). SaneClass width r.next) (ltb t 30) _ _ (λ y. by_bar (barred c t (filing_of width (c.tablet t).session s)) refl (ltb-true t 30 y)) (λ n. sane)
  where
    by_bar : (b : Option Refusal) → barred c t (filing_of width (c.tablet t).session s) ≡ b → t < 30 → SaneClass width (reply c t c.last (filing_of width (c.tablet t).session s) (hear_unless b width room (desk c t) s)).next
    by_bar none e l =
        let f = filing_of width (c.tablet t).session s in
        step_sane width c t _ f (hear width room (desk c t) s) sane l sane.last_below
        (hear_sane width room (desk c t) s (desk_sane width c t sane l))
        (hear_keeps width room c.forms (c.tablet t).session s)
        (λ j m n h. rw h at (each_other c t j (λ x. holds_form x.session && strikes f x.form) m n (may_strike c t f e)))
        (λ y j m n. each_other c t j (λ x. collects x.session) m n (may_start c t f e y))
    by_bar (some r) e l =
        let was = barred_idle width c t (c.tablet t).session s r e in
        rw (barred_same c t c.last (filing_of width (c.tablet t).session s) r c.forms (c.tablet t).session was)
        (step_sane width c t _ none (outcome (refused r) c.forms idle) sane l sane.last_below (record { forms = sane.forms; session = tt }) (forbidden_keeps c.forms _ _) (λ j m n h. refl) (λ y. absurd (false≢true y)))

-- the one last served
last_low : (a : Answer) (t last : ℕ) → t < 30 → last < 30 → last_after a t last < 30
unfolding last_after
last_low (accepted bytes) t last l m = l
last_low (refused r) t last l m = m

-- a take
pub taking_sane : (width room : ℕ) (c : Class) → SaneClass width c → SaneClass width (take_next room c).next
unfolding take_next serve denied desk strikes starts
taking_sane width room c sane = by_turn (turn c) (turn_passing c)
  where
    by_turn : (o : Option ℕ) → ((t : ℕ) → o ≡ some t → Passing (λ k. prints (c.tablet k).session) t) → SaneClass width (serve room c o).next
    by_turn none p = sane
    by_turn (some t) p =
        let prints' = p t refl in
        step_sane width c t _ none (take_set room (desk c t)) sane prints'.below
        (last_low (take_set room (desk c t)).answer t c.last prints'.below sane.last_below)
        (take_sane width room (desk c t) (desk_sane width c t sane prints'.below))
        (take_keeps width room c.forms (c.tablet t).session prints'.passes)
        (λ j m n h. refl)
        (λ y. absurd (false≢true y))

-- a class begins sane
pub begin_class_sane : (width : ℕ) → SaneClass width begin_class
unfolding begin_class collects open_lines begin
begin_class_sane width = record {
  forms = (begin_sane width).forms;
  each = λ t l. tt;
  held = λ t l ls e. absurd (some-ne-none ls (sym e));
  nameless = λ t l e. refl;
  one_collects = λ t u l m p q. absurd (false≢true p);
  last_below = omega arith;
}

-- SANE: whatever is sent and taken, it stays so
pub calls_sane : (width : ℕ) (c : Class) (qs : List Request) → SaneClass width c → SaneClass width (class_after width c qs)
unfolding class_after reply_to
calls_sane width c [] sane = sane
calls_sane width c (sends t room s ∷ qs) sane = calls_sane width (hear_from width room c t s).next qs (line_sane width room c t s sane)
calls_sane width c (fetches room ∷ qs) sane = calls_sane width (take_next room c).next qs (taking_sane width room c sane)
