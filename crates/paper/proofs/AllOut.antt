-- With enough takes every set is out: a tablet in Printing that sends nothing gets all its sets, in order, from thirty accepted
-- takes for each of them, whatever others send. The idea: the places to its next turn and thirty for each set behind it go down by
-- one with every accepted take.
use mathlib.Core.Path.{◌≡◌, refl, ap, ◌∙◌}
use mathlib.Core.Bool.{true, false, not}
use mathlib.Core.List.{List, [], ◌∷◌, ◌++◌}
use mathlib.Core.Option.{none, some}
use Prim.Native.Nat.{ℕ, zero, suc, ◌+◌, ◌-◌, ◌*◌, ◌≤◌, ◌<◌}
use native.Mathlib.Omega.{arith}
use lib.ListN.{length}
use lib.Dec.{leb, eqb}
use borrow.Author.Tests.{eqb-true, eq-eqb, ne_eqb, le-ltb}
use Rattle.paper.specs.Byte.{when◌then◌else◌}
use Rattle.paper.specs.Command.{FormLine}
use Rattle.paper.specs.Refusal.{Refusal, Answer, accepted, refused}
use Rattle.paper.specs.Form.{Form, is_some}
use Rattle.paper.specs.Set.{set_of}
use Rattle.paper.specs.Bench.{Session, idle, printing, Outcome, outcome, replied, after_set, taken, take_set}
use Rattle.paper.specs.Calls.{taking, sets_from}
use Rattle.paper.specs.Class.{Tablet, Class, thirty, desk, prints, open_lines, holds_form, reply, Reply, hear_from, turn, last_after, serve, take_next, Request, sends, fetches, reply_to, served_by, served_in, silent}
use Rattle.paper.specs.Diary.{call_of, is_for, diary, set_of_call, sets_in}
use Rattle.paper.proofs.Law.{if_true, if_false, by_test, and_left, and_right}
use Rattle.paper.proofs.Test.{either}
use Rattle.paper.proofs.Apart.{leaves_others, reply_session}
use Rattle.paper.proofs.Turn.{ahead, ahead_within, turn_comes, line_last}
use Rattle.paper.proofs.Silent.{not_own, line_elsewhere}

-- the sets of a diary, a call at a time
sets_other : (width t : ℕ) (c : Class) (q : Request) (qs : List Request) → holds_form (c.tablet t).session ≡ true → is_for t (reply_to width c q).whose ≡ false → sets_in (diary width t c (q ∷ qs)) ≡ sets_in (diary width t (reply_to width c q).next qs)
unfolding diary when◌then◌else◌
sets_other width t c q qs h n = rw (h, n)

sets_mine : (width t : ℕ) (c : Class) (q : Request) (qs : List Request) → holds_form (c.tablet t).session ≡ true → is_for t (reply_to width c q).whose ≡ true → sets_in (diary width t c (q ∷ qs)) ≡ set_of_call (call_of q) (reply_to width c q).answer ++ sets_in (diary width t (reply_to width c q).next qs)
unfolding diary when◌then◌else◌ sets_in
sets_mine width t c q qs h y = rw (h, y)

sets_over : (width t : ℕ) (c : Class) (qs : List Request) → holds_form (c.tablet t).session ≡ false → sets_in (diary width t c qs) ≡ []
unfolding diary sets_in when◌then◌else◌
sets_over width t c [] n = refl
sets_over width t c (q ∷ qs) n = rw n

-- who was served last is thirty places ahead of itself
ahead_self : (t : ℕ) → t < 30 → ahead t t ≡ 30
unfolding ahead
ahead_self t l = if_false _ _ _ (le-ltb t t (omega arith)) ∙ omega arith

-- what a take at the desk of one who prints does: refused it leaves the session; accepted it gives the set that is next
data Takes (ls : List FormLine) (given : List (List ℕ)) (n c i : ℕ) : Answer → Session → Type 0 where
  not_taken : (r : Refusal) → Takes ls given n c i (refused r) (printing ls given n c i)
  set_taken : Takes ls given n c i (accepted (set_of ls given c i)) (after_set ls given n c i)

desk_takes : (room : ℕ) (fs : List Form) (ls : List FormLine) (given : List (List ℕ)) (n c i : ℕ) → Takes ls given n c i (taken room fs (printing ls given n c i)).answer (taken room fs (printing ls given n c i)).next.session
unfolding taken replied outcome
desk_takes room fs ls given n c i =
    by_test (λ (o : Outcome). Takes ls given n c i o.answer o.next.session) (leb (length (set_of ls given c i)) room) _ _ (λ y. set_taken) (λ m. not_taken _)

-- a take for a tablet, as it is at that tablet's desk
record Took (room : ℕ) (c : Class) (u : ℕ) (r : Reply) : Type 0 where
  whose : r.whose ≡ some u
  answer : r.answer ≡ (taken room c.forms (c.tablet u).session).answer
  session : (r.next.tablet u).session ≡ (taken room c.forms (c.tablet u).session).next.session
  last : r.next.last ≡ last_after r.answer u c.last

at_reply : (c : Class) (u : ℕ) (o : Outcome) (room : ℕ) → o ≡ taken room c.forms (c.tablet u).session → Took room c u (reply c u (last_after o.answer u c.last) none o)
unfolding reply
at_reply c u o room e = record {
  whose = refl;
  answer = ap (λ (o : Outcome). o.answer) e;
  session = reply_session c u (last_after o.answer u c.last) none o ∙ ap (λ (o : Outcome). o.next.session) e;
  last = refl;
}

took : (room : ℕ) (c : Class) (u : ℕ) → turn c ≡ some u → Took room c u (take_next room c)
unfolding take_next serve take_set desk
took room c u e = rw e (at_reply c u (taken room c.forms (c.tablet u).session) room refl)

-- how many accepted takes are counted
count_refused : (width room : ℕ) (c : Class) (qs : List Request) (r : Refusal) → (take_next room c).answer ≡ refused r → length (served_in width c (fetches room ∷ qs)) ≡ length (served_in width (take_next room c).next qs)
unfolding served_in served_by reply_to
count_refused width room c qs r e = rw e

count_accepted : (width room : ℕ) (c : Class) (qs : List Request) (b : List ℕ) (u : ℕ) → (take_next room c).answer ≡ accepted b → (take_next room c).whose ≡ some u → length (served_in width c (fetches room ∷ qs)) ≡ suc (length (served_in width (take_next room c).next qs))
unfolding served_in served_by reply_to
count_accepted width room c qs b u e w = rw (e, w)

module _ (width t : ℕ) (ls : List FormLine) (given : List (List ℕ)) (n copies : ℕ) (l : t < 30) where
  -- so many sets are due, and there are takes enough for them
  abbrev Out : ℕ → ℕ → Class → List Request → Type 0
  Out i k c qs =
      (c.tablet t).session ≡ printing ls given n copies i
      → i + suc k ≡ n
      → silent t qs ≡ true
      → ahead c.last t + 30 * k ≤ length (served_in width c qs)
      → sets_in (diary width t c qs) ≡ sets_from ls given copies i (suc k)

  printing_held : (i : ℕ) (st : Session) → st ≡ printing ls given n copies i → (holds_form st ≡ true) × (prints st ≡ true)
  unfolding holds_form open_lines is_some prints
  printing_held i st e = rw e (refl, refl)

  -- its own take
  mine_out : (room : ℕ) (qs : List Request) (i k : ℕ) (c : Class) → ((i k : ℕ) (c : Class) → Out i k c qs) → Took room c t (take_next room c) → Out i k c (fetches room ∷ qs)
  unfolding silent call_of reply_to is_for last_after after_set set_of_call sets_from holds_form open_lines is_some
  mine_out room qs i k c later took' e m q far =
      let own : is_for t (take_next room c).whose ≡ true = ap (is_for t) took'.whose ∙ eq-eqb t t refl in
      sets_mine width t c (fetches room) qs (printing_held i _ e).0 own
      ∙ by_takes k m far _ _ (desk_takes room c.forms ls given n copies i) (rw e at took'.answer) (rw e at took'.session)
    where
      by_takes : (k : ℕ) → i + suc k ≡ n → ahead c.last t + 30 * k ≤ length (served_in width c (fetches room ∷ qs)) → (a : Answer) (st : Session) → Takes ls given n copies i a st → (take_next room c).answer ≡ a → ((take_next room c).next.tablet t).session ≡ st → set_of_call (taking room) (take_next room c).answer ++ sets_in (diary width t (take_next room c).next qs) ≡ sets_from ls given copies i (suc k)
      by_takes k m far a st (not_taken r) p s =
          let stays : (take_next room c).next.last ≡ c.last = rw p at took'.last in
          let count = count_refused width room c qs r p in
          rw p (later i k (take_next room c).next s m q (rw stays (omega arith)))
      by_takes zero m far a st set_taken p s =
          let home : ((take_next room c).next.tablet t).session ≡ idle = s ∙ if_true _ _ _ (eq-eqb (suc i) n (omega arith)) in
          let nothing : sets_in (diary width t (take_next room c).next qs) ≡ [] = sets_over width t (take_next room c).next qs (rw home) in
          rw (p, nothing)
      by_takes (suc k) m far a st set_taken p s =
          let on : ((take_next room c).next.tablet t).session ≡ printing ls given n copies (suc i) = s ∙ if_false _ _ _ (ne_eqb (suc i) n (omega arith)) in
          let mine : (take_next room c).next.last ≡ t = rw p at took'.last in
          let count = count_accepted width room c qs _ t p took'.whose in
          let near = ahead_within c.last t l in
          rw p (ap (λ sets. set_of ls given copies i ∷ sets) (later (suc i) k (take_next room c).next on (omega arith) q (rw (mine, ahead_self t l) (omega arith))))

  -- a take of another
  other_out : (room : ℕ) (qs : List Request) (i k : ℕ) (c : Class) (u : ℕ) → ((i k : ℕ) (c : Class) → Out i k c qs) → Took room c u (take_next room c) → eqb t u ≡ false → ahead u t < ahead c.last t → Out i k c (fetches room ∷ qs)
  unfolding silent reply_to is_for last_after
  other_out room qs i k c u later took' other near e m q far =
      let elsewhere : is_for t (take_next room c).whose ≡ false = ap (is_for t) took'.whose ∙ other in
      let same' : ((take_next room c).next.tablet t).session ≡ printing ls given n copies i = ap (λ (x : Tablet). x.session) (leaves_others width t c (fetches room) elsewhere) ∙ e in
      sets_other width t c (fetches room) qs (printing_held i _ e).0 elsewhere
      ∙ later i k (take_next room c).next same' m q (enough_left (take_next room c).answer refl)
    where
      enough_left : (a : Answer) → (take_next room c).answer ≡ a → ahead (take_next room c).next.last t + 30 * k ≤ length (served_in width (take_next room c).next qs)
      enough_left (refused r) p =
          let stays : (take_next room c).next.last ≡ c.last = rw p at took'.last in
          let count = count_refused width room c qs r p in
          rw stays (omega arith)
      enough_left (accepted b) p =
          let moved : (take_next room c).next.last ≡ u = rw p at took'.last in
          let count = count_accepted width room c qs b u p took'.whose in
          rw moved (omega arith)

  -- whoever's turn it is
  take_out : (room : ℕ) (qs : List Request) (i k : ℕ) (c : Class) → ((i k : ℕ) (c : Class) → Out i k c qs) → Out i k c (fetches room ∷ qs)
  unfolding turn thirty
  take_out room qs i k c later e =
      let come = turn_comes c t l (printing_held i _ e).1 in
      let took' = took room c come.who come.first in
      either (eqb t come.who)
      (λ y. mine_out room qs i k c later (rw (← eqb-true t come.who y) at took') e)
      (λ m. other_out room qs i k c come.who later took' m (come.nearer m) e)

  all_out : (qs : List Request) (i k : ℕ) (c : Class) → Out i k c qs
  unfolding silent served_in served_by reply_to
  all_out [] i k c e m q far = absurd (let near = ahead_within c.last t l in omega arith)
  all_out (sends u room s ∷ qs) i k c e m q far =
      let other = not_own (eqb t u) (and_left _ _ q) in
      let elsewhere = line_elsewhere width t u room c s other in
      let same' : ((hear_from width room c u s).next.tablet t).session ≡ printing ls given n copies i = ap (λ (x : Tablet). x.session) (leaves_others width t c (sends u room s) elsewhere) ∙ e in
      sets_other width t c (sends u room s) qs (printing_held i _ e).0 elsewhere
      ∙ all_out qs i k (hear_from width room c u s).next same' m (and_right (not (eqb t u)) _ q) (rw (line_last width room c u s) far)
  all_out (fetches room ∷ qs) i k c e m q far = take_out room qs i k c (all_out qs) e m q far

-- ALL OUT: thirty accepted takes for each set that is due give them all
pub every_set : (width t : ℕ) (c : Class) (ls : List FormLine) (given : List (List ℕ)) (n copies i : ℕ) (qs : List Request) → t < 30 → i < n → (c.tablet t).session ≡ printing ls given n copies i → silent t qs ≡ true → 30 * (n - i) ≤ length (served_in width c qs) → sets_in (diary width t c qs) ≡ sets_from ls given copies i (n - i)
every_set width t c ls given n copies i qs l m e q many =
    let near = ahead_within c.last t l in
    let due : n - i ≡ suc (n - suc i) = omega arith in
    rw due (all_out width t ls given n copies l qs i (n - suc i) c e (omega arith) q (omega arith))
