-- A refused call to a class: nothing changes but the session of its own tablet, and that as on the bench of 01. And no tablet is
-- ever stuck: the line that leads home there leads home here, and leaves the others.
use mathlib.Core.Path.{◌≡◌, refl, sym, ap, ◌∙◌}
use mathlib.Core.Bool.{false}
use mathlib.Core.List.{List, []}
use mathlib.Core.Option.{Option, none, some}
use Prim.Native.Nat.{ℕ, ◌<◌}
use lib.Dec.{ltb, eqb}
use borrow.Author.Tests.{eqb-true, lt-ltb}
use Rattle.paper.specs.Byte.{when◌then◌else◌}
use Rattle.paper.specs.Command.{Filing}
use Rattle.paper.specs.Refusal.{Refusal, no_tablet, refused}
use Rattle.paper.specs.Bench.{Session, idle, collecting, spoiled, opened, answering, ready, printing, Bench, Outcome, outcome, refuse, hear, take_set}
use Rattle.paper.specs.Class.{Tablet, Class, thirty, desk, at_rest, prints, holds_form, filing_read, filing_of, barred, hear_unless, seat, tablet_of, renamed, reply, denied, hear_of, hear_from, turn, last_after, serve, take_next}
use Rattle.paper.proofs.Law.{if_true, if_false}
use Rattle.paper.proofs.Test.{either}
use Rattle.paper.proofs.Invariant.{left_by, hear_refused, take_refused}
use Rattle.paper.proofs.Cases.{ran}
use Rattle.paper.proofs.Home.{way_home, leads_home}
use Rattle.paper.proofs.Aside.{prints_holds}
use Rattle.paper.proofs.Others.{barred_none, barred_ends}
use Rattle.paper.proofs.Apart.{seat_own, seat_other, reply_session}
use Rattle.paper.proofs.Turn.{Passing, turn_passing}

-- what a refused line leaves of a class
pub record Untouched (c : Class) (t : ℕ) (r : Refusal) (next : Class) : Type 0 where
  pub forms : next.forms ≡ c.forms
  pub session : (next.tablet t).session ≡ left_by (c.tablet t).session r
  pub others : (k : ℕ) → eqb k t ≡ false → next.tablet k ≡ c.tablet k
  pub last : next.last ≡ c.last

-- from what it leaves of the desk
step_untouched : (c : Class) (t : ℕ) (f : Option Filing) (o : Outcome) (r : Refusal) → o.next ≡ record { forms = c.forms; session = left_by (c.tablet t).session r } → Untouched c t r (reply c t c.last f o).next
unfolding reply
step_untouched c t f o r e = record {
  forms = ap (λ (b : Bench). b.forms) e;
  session = reply_session c t c.last f o ∙ ap (λ (b : Bench). b.session) e;
  others = λ k n. seat_other t _ c.tablet k n;
  last = refl;
}

-- a refused line of one of the tablets
pub line_untouched : (width room : ℕ) (c : Class) (t : ℕ) (s : List ℕ) (r : Refusal) → t < 30 → (hear_from width room c t s).answer ≡ refused r → Untouched c t r (hear_from width room c t s).next
unfolding hear_from hear_of hear_unless thirty when◌then◌else◌ reply desk refuse outcome left_by
line_untouched width room c t s r l e =
    rw (lt-ltb t 30 l) (by_bar (barred c t f) refl (rw (lt-ltb t 30 l) at e))
  where
    f : Option Filing
    f = filing_of width (c.tablet t).session s

    by_bar : (b : Option Refusal) → barred c t f ≡ b → (hear_unless b width room (desk c t) s).answer ≡ refused r → Untouched c t r (reply c t c.last f (hear_unless b width room (desk c t) s)).next
    by_bar none e a = step_untouched c t f (hear width room (desk c t) s) r (hear_refused width room (desk c t) s r a)
    by_bar (some q) e a =
        let one : q ≡ r = cc in
        step_untouched c t f (refuse q c.forms (c.tablet t).session) r (rw (← one, barred_ends c t f q e))

-- 18 touches nothing
pub tablet_over : (width room : ℕ) (c : Class) (t : ℕ) (s : List ℕ) → ltb t 30 ≡ false → hear_from width room c t s ≡ denied no_tablet c
unfolding hear_from thirty
tablet_over width room c t s e = if_false _ _ _ e

-- a tablet in its own place
seat_back : (t : ℕ) (x : Tablet) (f : ℕ → Tablet) → x ≡ f t → seat t x f ≡ f
seat_back t x f e i k =
    either {A = seat t x f k ≡ f k} (eqb k t)
    (λ y. seat_own t x f k y ∙ e ∙ ap f (sym (eqb-true k t y)))
    (λ n. seat_other t x f k n) i

-- a refused take changes nothing, and so leaves the turn
pub take_untouched : (room : ℕ) (c : Class) (r : Refusal) → (take_next room c).answer ≡ refused r → (take_next room c).next ≡ c
unfolding take_next serve reply denied tablet_of renamed last_after desk
take_untouched room c r = by_turn (turn c) (turn_passing c)
  where
    by_turn : (o : Option ℕ) → ((t : ℕ) → o ≡ some t → Passing (λ k. prints (c.tablet k).session) t) → (serve room c o).answer ≡ refused r → (serve room c o).next ≡ c
    by_turn none p e = refl
    by_turn (some t) p e =
        let whole = take_refused room (desk c t) r e in
        let forms' : (take_set room (desk c t)).next.forms ≡ c.forms = ap (λ (b : Bench). b.forms) whole in
        let session' : (take_set room (desk c t)).next.session ≡ (c.tablet t).session = ap (λ (b : Bench). b.session) whole in
        let named = if_true (holds_form (c.tablet t).session) (c.tablet t).form [] (prints_holds (c.tablet t).session (p t refl).passes) in
        rw (forms', session', e, named, seat_back t (c.tablet t) c.tablet refl)

-- the line that leads home sends nothing to the store that others could forbid
home_files : (width : ℕ) (st : Session) → filing_of width st (way_home st) ≡ none
unfolding filing_of at_rest filing_read way_home ran
home_files width idle = refl
home_files width (collecting name ls) = refl
home_files width spoiled = refl
home_files width (opened ls) = refl
home_files width (answering ls given) = refl
home_files width (ready ls given) = refl
home_files width (printing ls given n c i) = refl

-- HOME: from every state a single line of its own leads a tablet to Idle
pub class_home : (width room : ℕ) (c : Class) (t : ℕ) → t < 30 → ((hear_from width room c t (way_home (c.tablet t).session)).next.tablet t).session ≡ idle
unfolding hear_from hear_of hear_unless thirty when◌then◌else◌ desk
class_home width room c t l =
    rw (lt-ltb t 30 l, home_files width (c.tablet t).session, barred_none c t)
    (reply_session c t c.last none _ ∙ leads_home width room (desk c t))
