-- L12: whatever a tablet is doing, the three lines leave it Idle, and all else as it was. A line with a control byte is refused in every state, which spoils a draft
-- and ends an answering; `FE` ends the spoiled draft and is 3 elsewhere; `N` goes home from where one then can be.
use Prim.Native.Nat.{ℕ, ◌<◌}
use mathlib.Core.Path.{◌≡◌, refl, sym, ◌∙◌, ap}
use mathlib.Core.Bool.{true, false}
use mathlib.Core.List.{List, [], ◌∷◌}
use mathlib.Core.Option.{Option, none, some}
use native.Mathlib.Omega.{arith}
use lib.Dec.{ltb, eqb}
use borrow.Author.Tests.{eq-eqb, eqb-true, ltb-true, ltb-false}
use Rattle.paper.specs.Byte.{bytes, when◌then◌else◌}
use Rattle.paper.specs.Line.{is_dropped, kept, long, control}
use Rattle.paper.specs.Command.{Filing, finish}
use Rattle.paper.specs.Refusal.{Answer, accepted, refused}
use Rattle.paper.specs.Read.{unread, read}
use Rattle.paper.specs.Form.{Form, is_some}
use Rattle.paper.specs.Bench.{Session, idle, collecting, spoiled, opened, answering, ready, printing, Outcome, outcome, done, refuse, after_refusal, obeyed, in_idle, in_collecting, in_spoiled, in_opened, in_answering, in_ready, in_printing, on_finish, filed, heard, hear}
use Rattle.paper.specs.Class.{Tablet, Class, thirty, begin_class, Reply, at_rest, prints, filing_read, filing_of, barred, reply, denied, hear_of, hear_from, turn, serve, take_next, Request, sends, fetches, reply_to, replies_to, class_after, holds_form, open_lines, collects}
use Rattle.paper.specs.Diary.{is_for}
use Rattle.paper.specs.Freeing.{broken, three_lines, why_broken, why_finish, freeing_answers, at_idle, Freed, AgreeBut}
use Rattle.paper.proofs.Law.{by_test, if_true, if_false}
use Rattle.paper.proofs.Text.{control_behind}
use Rattle.paper.proofs.Test.{either}
use Rattle.paper.proofs.Dropped.{kept_append}
use Rattle.paper.proofs.Cases.{ran}
use Rattle.paper.proofs.Apart.{seat_own, seat_other, reply_session, free_reply, leaves_others}
use Rattle.paper.proofs.Others.{barred_none, barred_finish}
use Rattle.paper.proofs.ClassSane.{tablet_nameless}
use Rattle.paper.proofs.Turn.{Passing, turn_passing}

-- 01H is kept
kept_one : kept (1 ∷ []) ≡ 1 ∷ []
unfolding kept is_dropped when◌then◌else◌
kept_one = refl

-- and is a control byte of the line
broken_control : (w : List ℕ) → control (kept (broken w)) ≡ true
unfolding broken
broken_control w = ap control (kept_append w (1 ∷ []) ∙ rw kept_one) ∙ control_behind (kept w) 1 [] refl

broken_read : (width : ℕ) (w : List ℕ) → read width (kept (broken w)) ≡ unread (why_broken w)
unfolding read why_broken
broken_read width w =
    either (long (kept (broken w)))
    (λ y. if_true _ _ _ y ∙ ap unread (sym (if_true _ _ _ y)))
    (λ n. if_false _ _ _ n ∙ if_true _ _ _ (broken_control w) ∙ ap unread (sym (if_false _ _ _ n)))

-- FIRST: in every state the first line is 1 or 2
pub broken_hears : (width room : ℕ) (fs : List Form) (st : Session) (w : List ℕ) → hear width room (record { forms = fs; session = st }) (broken w) ≡ refuse (why_broken w) fs st
unfolding hear heard obeyed in_answering why_broken
broken_hears width room fs idle w = ap (obeyed fs idle (in_idle room fs)) (broken_read width w)
broken_hears width room fs (collecting name ls) w = ap (obeyed fs (collecting name ls) (in_collecting fs name ls)) (broken_read width w)
broken_hears width room fs spoiled w = ap (obeyed fs spoiled (in_spoiled fs)) (broken_read width w)
broken_hears width room fs (opened ls) w = ap (obeyed fs (opened ls) (in_opened fs ls)) (broken_read width w)
broken_hears width room fs (answering ls given) w =
    either (long (kept (broken w)))
    (λ y. if_true _ _ _ y ∙ ap (λ r. refuse r fs (answering ls given)) (sym (if_true _ _ _ y)))
    (λ n. if_false _ _ _ n ∙ if_true _ _ _ (broken_control w) ∙ ap (λ r. refuse r fs (answering ls given)) (sym (if_false _ _ _ n)))
broken_hears width room fs (ready ls given) w = ap (obeyed fs (ready ls given) (in_ready fs ls given)) (broken_read width w)
broken_hears width room fs (printing ls given n c i) w = ap (obeyed fs (printing ls given n c i) (in_printing fs (printing ls given n c i))) (broken_read width w)

-- SECOND: where that leads, `FE` is 3 or 8 and leaves no draft
unfoldable pub behind_finish : Session → Session
behind_finish idle = idle
behind_finish (collecting name ls) = idle
behind_finish spoiled = idle
behind_finish (opened ls) = opened ls
behind_finish (answering ls given) = idle
behind_finish (ready ls given) = ready ls given
behind_finish (printing ls given n c i) = printing ls given n c i

pub finish_hears : (width room : ℕ) (fs : List Form) (st : Session) → hear width room (record { forms = fs; session = after_refusal st }) (bytes "FE") ≡ outcome (refused (why_finish st)) fs (behind_finish st)
unfolding hear heard obeyed after_refusal refuse outcome in_idle filed in_spoiled in_opened in_ready in_printing on_finish why_finish collects when◌then◌else◌ behind_finish ran
finish_hears width room fs idle = refl
finish_hears width room fs (collecting name ls) = refl
finish_hears width room fs spoiled = refl
finish_hears width room fs (opened ls) = refl
finish_hears width room fs (answering ls given) = refl
finish_hears width room fs (ready ls given) = refl
finish_hears width room fs (printing ls given n c i) = refl

-- THIRD: `N` is accepted, and leads home
pub new_hears : (width room : ℕ) (fs : List Form) (st : Session) → hear width room (record { forms = fs; session = behind_finish st }) (bytes "N") ≡ done fs idle
unfolding hear heard obeyed done outcome in_idle in_opened in_ready in_printing behind_finish ran
new_hears width room fs idle = refl
new_hears width room fs (collecting name ls) = refl
new_hears width room fs spoiled = refl
new_hears width room fs (opened ls) = refl
new_hears width room fs (answering ls given) = refl
new_hears width room fs (ready ls given) = refl
new_hears width room fs (printing ls given n c i) = refl

-- what agrees with what agrees with another
agree_then : (t : ℕ) (c d e : Class) → AgreeBut t c d → AgreeBut t d e → AgreeBut t c e
agree_then t c d e p q = record { forms = p.forms ∙ q.forms; others = λ k l n. p.others k l n ∙ q.others k l n; last = p.last ∙ q.last }

agree_back : (t : ℕ) (c d : Class) → AgreeBut t c d → AgreeBut t d c
agree_back t c d p = record { forms = sym p.forms; others = λ k l n. sym (p.others k l n); last = sym p.last }

-- a line that leaves its tablet in some state, and all else as it was
pub record Leaves (width : ℕ) (c : Class) (t : ℕ) (s : List ℕ) (room : ℕ) (answer : Answer) (next : Session) : Type 0 where
  pub answers : (hear_from width room c t s).answer ≡ answer
  pub session : ((hear_from width room c t s).next.tablet t).session ≡ next
  pub form : holds_form next ≡ false → ((hear_from width room c t s).next.tablet t).form ≡ []
  pub rest : AgreeBut t (hear_from width room c t s).next c

module _ (width : ℕ) (c : Class) (t : ℕ) (l : t < 30) where
  -- who holds no form has no name of one
  reply_nameless : (f : Option Filing) (o : Outcome) → holds_form o.next.session ≡ false → ((reply c t c.last f o).next.tablet t).form ≡ []
  unfolding reply
  reply_nameless f o n = ap (λ (x : Tablet). x.form) (seat_own t _ c.tablet t (eq-eqb t t refl)) ∙ tablet_nameless _ _ n

  reply_leaves : (s : List ℕ) (room : ℕ) (answer : Answer) (next : Session) → barred c t (filing_of width (c.tablet t).session s) ≡ none
      → hear width room (record { forms = c.forms; session = (c.tablet t).session }) s ≡ outcome answer c.forms next → Leaves width c t s room answer next
  unfolding reply outcome
  reply_leaves s room answer next free e =
      let f : Option Filing = filing_of width (c.tablet t).session s in
      let is : hear_from width room c t s ≡ reply c t c.last f (outcome answer c.forms next) = free_reply width c t l s room free ∙ ap (reply c t c.last f) e in
      record {
        answers = ap (λ (r : Reply). r.answer) is;
        session = ap (λ (r : Reply). (r.next.tablet t).session) is ∙ reply_session c t c.last f (outcome answer c.forms next);
        form = λ n. ap (λ (r : Reply). (r.next.tablet t).form) is ∙ reply_nameless f (outcome answer c.forms next) n;
        rest = record {
          forms = ap (λ (r : Reply). r.next.forms) is;
          others = λ k l n. ap (λ (r : Reply). r.next.tablet k) is ∙ seat_other t _ c.tablet k n;
          last = ap (λ (r : Reply). r.next.last) is;
        };
      }

  -- the first line
  broken_files : (w : List ℕ) → barred c t (filing_of width (c.tablet t).session (broken w)) ≡ none
  unfolding filing_of filing_read
  broken_files w =
      rw (broken_read width w)
      (by_test (λ o. barred c t o ≡ none) (at_rest (c.tablet t).session) none none (λ y. barred_none c t) (λ n. barred_none c t))

  pub first_leaves : (room : ℕ) (w : List ℕ) → Leaves width c t (broken w) room (refused (why_broken w)) (after_refusal (c.tablet t).session)
  unfolding refuse
  first_leaves room w = reply_leaves (broken w) room _ _ (broken_files w) (broken_hears width room c.forms (c.tablet t).session w)

  -- the second, where the first leads
  finish_files : (st : Session) → barred c t (filing_of width st (bytes "FE")) ≡ none
  unfolding filing_of filing_read ran
  finish_files st = by_test (λ o. barred c t o ≡ none) (at_rest st) (some finish) none (λ y. barred_finish c t) (λ n. barred_none c t)

  pub second_leaves : (room : ℕ) (st : Session) → (c.tablet t).session ≡ after_refusal st → Leaves width c t (bytes "FE") room (refused (why_finish st)) (behind_finish st)
  second_leaves room st e =
      reply_leaves (bytes "FE") room _ _ (finish_files (c.tablet t).session)
      (ap (λ x. hear width room (record { forms = c.forms; session = x }) (bytes "FE")) e ∙ finish_hears width room c.forms st)

  -- and the third
  new_files : (st : Session) → barred c t (filing_of width st (bytes "N")) ≡ none
  unfolding filing_of filing_read ran
  new_files st = by_test (λ o. barred c t o ≡ none) (at_rest st) none none (λ y. barred_none c t) (λ n. barred_none c t)

  pub third_leaves : (room : ℕ) (st : Session) → (c.tablet t).session ≡ behind_finish st → Leaves width c t (bytes "N") room (accepted []) idle
  unfolding done
  third_leaves room st e =
      reply_leaves (bytes "N") room _ _ (new_files (c.tablet t).session)
      (ap (λ x. hear width room (record { forms = c.forms; session = x }) (bytes "N")) e ∙ new_hears width room c.forms st)

-- FREED, with any room: none is needed
module _ (width : ℕ) (c : Class) (t : ℕ) (l : t < 30) (w : List ℕ) (a b d : ℕ) where
  abbrev st : Session
  st = (c.tablet t).session

  abbrev one : Class
  one = (hear_from width a c t (broken w)).next

  abbrev two : Class
  two = (hear_from width b one t (bytes "FE")).next

  first : Leaves width c t (broken w) a (refused (why_broken w)) (after_refusal st)
  first = first_leaves width c t l a w

  second : Leaves width one t (bytes "FE") b (refused (why_finish st)) (behind_finish st)
  second = second_leaves width one t l b st first.session

  third : Leaves width two t (bytes "N") d (accepted []) idle
  third = third_leaves width two t l d st second.session

  pub frees : Freed c t (class_after width c (three_lines t w a b d))
  unfolding class_after three_lines reply_to at_idle holds_form open_lines is_some
  frees =
      record {
        tablet = λ j. record { session = third.session j; form = third.form refl j };
        rest = agree_then t _ two c third.rest (agree_then t two one c second.rest first.rest);
      }

  pub frees_says : replies_to width c (three_lines t w a b d) ≡ freeing_answers st w
  unfolding replies_to three_lines reply_to freeing_answers
  frees_says = rw (first.answers, second.answers, third.answers)

-- a number over 29 is no tablet
beyond_other : (k u : ℕ) → ltb k 30 ≡ false → u < 30 → eqb k u ≡ false
beyond_other k u m l = either (eqb k u) (λ y. absurd (omega (arith, eqb-true k u y, ltb-false k 30 m, l))) (λ n. n)

-- no call is for it
beyond_whose : (width k : ℕ) (c : Class) (q : Request) → ltb k 30 ≡ false → is_for k (reply_to width c q).whose ≡ false
unfolding reply_to hear_from hear_of take_next serve reply denied is_for thirty when◌then◌else◌
beyond_whose width k c (sends u room s) m = either (ltb u 30) (λ y. rw y (beyond_other k u m (ltb-true u 30 y))) (λ n. rw n)
beyond_whose width k c (fetches room) m = by_turn (turn c) (turn_passing c)
  where
    by_turn : (o : Option ℕ) → ((u : ℕ) → o ≡ some u → Passing (λ j. prints (c.tablet j).session) u) → is_for k (serve room c o).whose ≡ false
    by_turn none p = refl
    by_turn (some u) p = beyond_other k u m (p u refl).below

beyond_stays : (width k : ℕ) (c : Class) (qs : List Request) → ltb k 30 ≡ false → (class_after width c qs).tablet k ≡ c.tablet k
unfolding class_after
beyond_stays width k c [] m = refl
beyond_stays width k c (q ∷ qs) m = beyond_stays width k (reply_to width c q).next qs m ∙ leaves_others width k c q (beyond_whose width k c q m)

-- a class that calls led to is what its thirty tablets are, its store and the one last served
class_one : (width t : ℕ) (c d : Class) (qs rs : List Request) → c ≡ class_after width begin_class qs → d ≡ class_after width begin_class rs → c.tablet t ≡ d.tablet t → AgreeBut t c d → c ≡ d
class_one width t c d qs rs p q e a =
    let beyond : (k : ℕ) → ltb k 30 ≡ false → c.tablet k ≡ d.tablet k = λ k m.
    ap (λ (x : Class). x.tablet k) p ∙ beyond_stays width k begin_class qs m ∙ sym (beyond_stays width k begin_class rs m) ∙ ap (λ (x : Class). x.tablet k) (sym q) in
    let each : (k : ℕ) → c.tablet k ≡ d.tablet k = λ k.
    either (eqb k t) (λ y. ap c.tablet (eqb-true k t y) ∙ e ∙ sym (ap d.tablet (eqb-true k t y)))
    (λ n. either (ltb k 30) (λ y. a.others k (ltb-true k 30 y) n) (λ m. beyond k m)) in
    λ j. record { forms = a.forms j; tablet = λ k. each k j; last = a.last j }

-- a tablet that is Idle was freed where it is
pub idle_freed : (c : Class) (t : ℕ) → c.tablet t ≡ at_idle → Freed c t c
idle_freed c t e = record { tablet = e; rest = record { forms = refl; others = λ k l n. refl; last = refl } }

-- ONE CLASS: classes that agree but for a tablet are one where it was freed in both
pub freed_same : (width t : ℕ) (c d next next' : Class) (qs rs : List Request) → next ≡ class_after width begin_class qs → next' ≡ class_after width begin_class rs
    → AgreeBut t c d → Freed c t next → Freed d t next' → next ≡ next'
freed_same width t c d next next' qs rs led led' agree p q =
    class_one width t next next' qs rs led led' (p.tablet ∙ sym q.tablet) (agree_then t next c next' p.rest (agree_then t c d next' agree (agree_back t next' d q.rest)))
