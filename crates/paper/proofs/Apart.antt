-- What others send leaves a tablet as it was, and while a tablet holds a form open its own calls are answered as on the bench of
-- 01 with nothing stored: so its diary is told by the session it begins with and by its own calls.
use mathlib.Core.Path.{◌≡◌, refl, sym, ap, ◌∙◌}
use mathlib.Core.Bool.{true, false, false≢true}
use mathlib.Core.List.{List, [], ◌∷◌, ◌++◌, map}
use mathlib.Core.Option.{Option, none, some}
use Prim.Native.Nat.{ℕ, ◌<◌}
use lib.Dec.{ltb, eqb}
use borrow.Author.Tests.{eqb-true, eq-eqb, lt-ltb}
use Rattle.paper.specs.Byte.{when◌then◌else◌}
use Rattle.paper.specs.Line.{kept}
use Rattle.paper.specs.Command.{FormLine, Filing, file, recall}
use Rattle.paper.specs.Refusal.{accepted}
use Rattle.paper.specs.Read.{command, read}
use Rattle.paper.specs.Form.{asked, find}
use Rattle.paper.specs.Bench.{Session, idle, Outcome, outcome, done, opened_with, hear, take_set}
use Rattle.paper.specs.Calls.{Call, line, taking, called}
use Rattle.paper.specs.Class.{Tablet, Class, thirty, desk, at_rest, open_lines, holds_form, filing_read, barred, hear_unless, filing_of, tablet_of, renamed, seat, Reply, reply, denied, hear_of, hear_from, turn, serve, take_next, Request, sends, fetches, reply_to, class_after}
use Rattle.paper.specs.Diary.{call_of, Entry, is_for, diary, bare, led}
use Rattle.paper.proofs.Law.{if_true, if_false, by_test}
use Rattle.paper.proofs.Test.{either}
use Rattle.paper.proofs.Aside.{Aside, heard_aside, taken_aside, holds_awake}
use Rattle.paper.proofs.Others.{barred_none, barred_recall, busy_files}
use Rattle.paper.proofs.Store.{recall_opens}

-- what stands at the number that was changed
pub seat_own : {A : Type 0} (t : ℕ) (x : A) (f : ℕ → A) (k : ℕ) → eqb k t ≡ true → seat t x f k ≡ x
unfolding seat
seat_own t x f k e = if_true _ _ _ e

-- and at any other
pub seat_other : {A : Type 0} (t : ℕ) (x : A) (f : ℕ → A) (k : ℕ) → eqb k t ≡ false → seat t x f k ≡ f k
unfolding seat
seat_other t x f k e = if_false _ _ _ e

-- calls one behind the other
pub calls_append : (width : ℕ) (c : Class) (qs rs : List Request) → class_after width c (qs ++ rs) ≡ class_after width (class_after width c qs) rs
unfolding class_after
calls_append width c [] rs = refl
calls_append width c (q ∷ qs) rs = calls_append width (reply_to width c q).next qs rs

-- the answer of a reply, and the session of its tablet
pub reply_answer : (c : Class) (t last : ℕ) (f : Option Filing) (o : Outcome) → (reply c t last f o).answer ≡ o.answer
unfolding reply
reply_answer c t last f o = refl

pub reply_session : (c : Class) (t last : ℕ) (f : Option Filing) (o : Outcome) → ((reply c t last f o).next.tablet t).session ≡ o.next.session
unfolding reply tablet_of
reply_session c t last f o = ap (λ (x : Tablet). x.session) (seat_own t _ c.tablet t (eq-eqb t t refl))

-- and the name that it knows
pub reply_form : (c : Class) (t last : ℕ) (o : Outcome) → holds_form ((reply c t last none o).next.tablet t).session ≡ true → ((reply c t last none o).next.tablet t).form ≡ (c.tablet t).form
unfolding reply tablet_of renamed
reply_form c t last o h =
    let here = seat_own t (tablet_of o.next.session (c.tablet t).form) c.tablet t (eq-eqb t t refl) in
    ap (λ (x : Tablet). x.form) here ∙ if_true _ _ _ (sym (ap (λ (x : Tablet). holds_form x.session) here) ∙ h)

-- where nothing is forbidden the desk decides
pub free_reply : (width : ℕ) (c : Class) (t : ℕ) → t < 30 → (s : List ℕ) (room : ℕ) → barred c t (filing_of width (c.tablet t).session s) ≡ none
    → hear_from width room c t s ≡ reply c t c.last (filing_of width (c.tablet t).session s) (hear width room (record { forms = c.forms; session = (c.tablet t).session }) s)
unfolding hear_from hear_of hear_unless desk thirty when◌then◌else◌
free_reply width c t l s room e = rw (lt-ltb t 30 l, e) refl

-- a call that is not for a tablet leaves it
pub leaves_others : (width t : ℕ) (c : Class) (q : Request) → is_for t (reply_to width c q).whose ≡ false → (reply_to width c q).next.tablet t ≡ c.tablet t
unfolding reply_to hear_from hear_of take_next serve reply denied is_for when◌then◌else◌
leaves_others width t c (sends u room s) e =
    either (ltb u thirty) (λ y. rw y (seat_other u _ c.tablet t (rw y at e))) (λ n. rw n)
leaves_others width t c (fetches room) e = by_turn (turn c) e
  where
    by_turn : (o : Option ℕ) → is_for t (serve room c o).whose ≡ false → (serve room c o).next.tablet t ≡ c.tablet t
    by_turn none e = refl
    by_turn (some u) e = seat_other u _ c.tablet t e

-- a reply for a tablet is the answer of a bare bench, and leads its session as that does
pub record Bared (width t : ℕ) (st : Session) (x : Call) (r : Reply) : Type 0 where
  pub answer : r.answer ≡ (called width (bare st) x).answer
  pub session : (r.next.tablet t).session ≡ led width st x
  pub lines : (ls : List FormLine) → open_lines (r.next.tablet t).session ≡ some ls → open_lines st ≡ some ls

-- what a step gives that is the same beside any forms
bared : (width t last : ℕ) (c : Class) (st : Session) (x : Call) (f : Option Filing) (o : Outcome) (a : Aside st (λ fs. called width (record { forms = fs; session = st }) x)) → o ≡ outcome a.answer c.forms a.next → Bared width t st x (reply c t last f o)
unfolding bare led outcome
bared width t last c st x f o a e =
    let alone = a.is [] in
    record {
      answer = reply_answer c t last f o ∙ ap (λ (o : Outcome). o.answer) e ∙ sym (ap (λ (o : Outcome). o.answer) alone);
      session = reply_session c t last f o ∙ ap (λ (o : Outcome). o.next.session) e ∙ sym (ap (λ (o : Outcome). o.next.session) alone);
      lines = λ ls p. a.holds_on ls (sym (ap open_lines (reply_session c t last f o ∙ ap (λ (o : Outcome). o.next.session) e)) ∙ p);
    }

-- a call for a tablet that holds a form open
pub own_bared : (width t : ℕ) (c : Class) (q : Request) → holds_form (c.tablet t).session ≡ true → is_for t (reply_to width c q).whose ≡ true → Bared width t (c.tablet t).session (call_of q) (reply_to width c q)
unfolding reply_to hear_from hear_of hear_unless take_next serve reply denied is_for when◌then◌else◌ called call_of hear take_set desk
own_bared width t c (sends u room s) h e =
    either (ltb u thirty)
    (λ y.
    let me : t ≡ u = eqb-true t u (rw y at e) in
    let quiet = busy_files width (c.tablet t).session s (holds_awake (c.tablet t).session h) in
    let a = heard_aside width room (c.tablet t).session (kept s) h in
    rw (y, ← me, quiet, barred_none c t) (bared width t _ c (c.tablet t).session (line room s) none _ a (a.is c.forms)))
    (λ n. absurd (false≢true (rw n at e)))
own_bared width t c (fetches room) h e = by_turn (turn c) e
  where
    by_turn : (o : Option ℕ) → is_for t (serve room c o).whose ≡ true → Bared width t (c.tablet t).session (taking room) (serve room c o)
    by_turn none e = absurd (false≢true e)
    by_turn (some u) e =
        let a = taken_aside room (c.tablet t).session h in
        rw (← eqb-true t u e) (bared width t _ c (c.tablet t).session (taking room) none _ a (a.is c.forms))

-- entries of a session that holds a form open, each answered as on a bare bench: they are told by the session and the calls
abbrev pub Own : ℕ → Session → List Entry → Type 0
Own width st [] = Unit
Own width st (e ∷ es) =
    (holds_form st ≡ true)
    × (e.answer ≡ (called width (bare st) e.call).answer)
    × Own width (led width st e.call) es

-- APART: every diary is such, whatever is stored, whatever other tablets send, and whenever the takes come
pub apart : (width t : ℕ) (c : Class) (qs : List Request) → Own width (c.tablet t).session (diary width t c qs)
unfolding diary
apart width t c [] = tt
apart width t c (q ∷ qs) =
    let later = apart width t (reply_to width c q).next qs in
    by_test (Own width (c.tablet t).session) (holds_form (c.tablet t).session) _ []
    (λ h.
    by_test (Own width (c.tablet t).session) (is_for t (reply_to width c q).whose) _ _
    (λ y. let b = own_bared width t c q h y in (h, b.answer, rw b.session at later))
    (λ n. rw (leaves_others width t c q n) at later))
    (λ n. tt)

-- two such lists from one session with the same calls are the same
pub own_same : (width : ℕ) (st : Session) (es ds : List Entry) → Own width st es → Own width st ds → map (λ (e : Entry). e.call) es ≡ map (λ (e : Entry). e.call) ds → es ≡ ds
own_same width st [] [] p q e = refl
own_same width st [] (d ∷ ds) p q e = cc
own_same width st (x ∷ es) [] p q e = cc
own_same width st (x ∷ es) (d ∷ ds) p q e =
    let first : x.call ≡ d.call = cc in
    let others' : map (λ (e : Entry). e.call) es ≡ map (λ (e : Entry). e.call) ds = cc in
    let told : x.answer ≡ d.answer = p.1 ∙ ap (λ k. (called width (bare st) k).answer) first ∙ sym q.1 in
    let behind = own_same width (led width st x.call) es ds p.2 (rw (← first) at q.2) others' in
    λ i. record { call = first i; answer = told i } ∷ behind i

-- `FR` of a stored form by a tablet that is Idle
pub recalls : (width room : ℕ) (c : Class) (t : ℕ) (s name : List ℕ) (ls : List FormLine) → t < 30 → (c.tablet t).session ≡ idle → find name c.forms ≡ some ls → read width (kept s) ≡ command (file (recall name))
    → ((hear_from width room c t s).answer ≡ accepted []) × (((hear_from width room c t s).next.tablet t).session ≡ opened_with ls (asked ls))
unfolding hear_from hear_of hear_unless filing_of filing_read at_rest thirty when◌then◌else◌ desk done outcome
recalls width room c t s name ls l free found reads =
    let sent : filing_of width (c.tablet t).session s ≡ some (recall name) = rw (free, reads) in
    let step = recall_opens width room (desk c t) s name ls free found reads in
    rw (lt-ltb t 30 l, sent, barred_recall c t name)
    (reply_answer c t _ _ _ ∙ ap (λ (o : Outcome). o.answer) step, reply_session c t _ _ _ ∙ ap (λ (o : Outcome). o.next.session) step)
