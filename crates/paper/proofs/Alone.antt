-- One tablet alone is the bench of 01: while every other tablet is Idle, its lines and the takes are answered as there, and leave
-- the same store and session.
use mathlib.Core.Path.{◌≡◌, refl, ap, ◌∙◌}
use mathlib.Core.Bool.{true, false, true≢false}
use mathlib.Core.List.{List, [], ◌∷◌, map}
use mathlib.Core.Option.{Option, none, some}
use Prim.Native.Nat.{ℕ, ◌<◌}
use lib.Dec.{eqb}
use borrow.Author.Tests.{eqb-true, lt-ltb}
use Rattle.paper.specs.Byte.{when◌then◌else◌}
use Rattle.paper.specs.Command.{Filing}
use Rattle.paper.specs.Refusal.{not_printing, refused}
use Rattle.paper.specs.Form.{Form, is_some}
use Rattle.paper.specs.Bench.{Session, idle, collecting, spoiled, opened, answering, ready, printing, Bench, Outcome, outcome, taken, take_set}
use Rattle.paper.specs.Calls.{Call, line, taking, called, answers_to, after_calls}
use Rattle.paper.specs.Class.{Tablet, Class, thirty, begin_class, desk, collects, prints, open_lines, holds_form, starts, filing_of, barred, hear_unless, Reply, reply, denied, hear_of, hear_from, turn, serve, take_next, reply_to, replies_to, class_after}
use Rattle.paper.specs.Diary.{request_of}
use Rattle.paper.proofs.Test.{either, clash}
use Rattle.paper.proofs.Others.{no_other, barred_free}
use Rattle.paper.proofs.Apart.{seat_other, reply_session}
use Rattle.paper.proofs.Turn.{turn_comes, first_none}

-- a tablet that has the class to itself
pub record Alone (t : ℕ) (c : Class) : Type 0 where
  pub within : t < 30
  pub rest : (k : ℕ) → eqb k t ≡ false → (c.tablet k).session ≡ idle

-- nothing is forbidden to it
alone_free : (t : ℕ) (c : Class) (f : Option Filing) → Alone t c → barred c t f ≡ none
unfolding collects holds_form open_lines is_some
alone_free t c f a =
    let nobody = no_other c t (λ x. collects x.session) (λ k n. rw (a.rest k n)) in
    barred_free c t f
    (either (starts c.forms f) (λ y. rw (y, nobody)) (λ n. rw n))
    (no_other c t _ (λ k n. rw (a.rest k n)))

-- the turn is its own, or nobody's
alone_turn : (t : ℕ) (c : Class) → Alone t c → prints (c.tablet t).session ≡ true → turn c ≡ some t
unfolding turn thirty prints
alone_turn t c a p =
    let come = turn_comes c t a.within p in
    come.first ∙ ap some (either (eqb come.who t) (eqb-true _ _) (λ n. clash come.passes (ap prints (a.rest come.who n))))

alone_nobody : (t : ℕ) (c : Class) → Alone t c → prints (c.tablet t).session ≡ false → turn c ≡ none
unfolding turn prints
alone_nobody t c a p =
    first_none _ thirty c.last
    (λ k l. either (eqb k t) (λ y. ap (λ u. prints (c.tablet u).session) (eqb-true k t y) ∙ p) (λ n. ap prints (a.rest k n)))

-- a take is 16 where nothing prints
taken_none : (room : ℕ) (fs : List Form) (st : Session) → prints st ≡ false → taken room fs st ≡ outcome (refused not_printing) fs st
unfolding taken prints
taken_none room fs idle p = refl
taken_none room fs (collecting name ls) p = refl
taken_none room fs spoiled p = refl
taken_none room fs (opened ls) p = refl
taken_none room fs (answering ls given) p = refl
taken_none room fs (ready ls given) p = refl
taken_none room fs (printing ls given n c i) p = absurd (true≢false p)

-- a reply that is the outcome at the desk, the tablet being alone as before
pub record AtDesk (t : ℕ) (o : Outcome) (r : Reply) : Type 0 where
  pub answer : r.answer ≡ o.answer
  pub next : desk r.next t ≡ o.next
  pub alone : Alone t r.next

-- a step of the tablet is such
step_at_desk : (t last : ℕ) (c : Class) (f : Option Filing) (o : Outcome) → Alone t c → AtDesk t o (reply c t last f o)
unfolding desk reply
step_at_desk t last c f o a = record {
  answer = refl;
  next = ap (λ st. let b : Bench = record { forms = o.next.forms; session = st } in b) (reply_session c t last f o);
  alone = record { within = a.within; rest = λ k n. ap (λ (x : Tablet). x.session) (seat_other t _ c.tablet k n) ∙ a.rest k n };
}

-- so is every call
pub call_at_desk : (width t : ℕ) (c : Class) (x : Call) → Alone t c → AtDesk t (called width (desk c t) x) (reply_to width c (request_of t x))
unfolding reply_to request_of called hear_from hear_of hear_unless thirty when◌then◌else◌ take_next serve denied take_set desk outcome
call_at_desk width t c (line room s) a =
    rw (lt-ltb t 30 a.within, alone_free t c (filing_of width (c.tablet t).session s) a) (step_at_desk t _ c _ _ a)
call_at_desk width t c (taking room) a =
    either (prints (c.tablet t).session)
    (λ y. rw (alone_turn t c a y) (step_at_desk t _ c _ _ a))
    (λ n. rw (alone_nobody t c a n, taken_none room c.forms (c.tablet t).session n) (record { answer = refl; next = refl; alone = a }))

-- ALONE: the answers, with all bytes, are those of the bench of 01
pub alone_answers : (width t : ℕ) (c : Class) (xs : List Call) → Alone t c → replies_to width c (map (request_of t) xs) ≡ answers_to width (desk c t) xs
unfolding replies_to answers_to
alone_answers width t c [] a = refl
alone_answers width t c (x ∷ xs) a =
    let d = call_at_desk width t c x a in
    let behind = alone_answers width t (reply_to width c (request_of t x)).next xs d.alone in
    rw d.answer (ap (λ ys. (called width (desk c t) x).answer ∷ ys) (rw d.next at behind))

-- and so are the store and the session that are left
pub alone_leaves : (width t : ℕ) (c : Class) (xs : List Call) → Alone t c → desk (class_after width c (map (request_of t) xs)) t ≡ after_calls width (desk c t) xs
unfolding class_after after_calls
alone_leaves width t c [] a = refl
alone_leaves width t c (x ∷ xs) a =
    let d = call_at_desk width t c x a in
    rw d.next at (alone_leaves width t (reply_to width c (request_of t x)).next xs d.alone)

-- a class begins so
pub begin_alone : (t : ℕ) → t < 30 → Alone t begin_class
unfolding begin_class
begin_alone t l = record { within = l; rest = λ k n. refl }
