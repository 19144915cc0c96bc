-- A form held open is stored under its name, with the lines that the tablet opened, as long as it is held: a tablet changes neither
-- the lines nor the name while it holds them, and the store of a sane class has them.
use mathlib.Core.Path.{◌≡◌, refl, sym, ap, ◌∙◌}
use mathlib.Core.Bool.{true, false≢true}
use mathlib.Core.List.{List, [], ◌∷◌}
use mathlib.Core.Option.{Option, none, some}
use Prim.Native.Nat.{ℕ, ◌<◌}
use lib.Dec.{ltb}
use borrow.Author.Tests.{eqb-true}
use Rattle.paper.specs.Byte.{when◌then◌else◌}
use Rattle.paper.specs.Command.{FormLine}
use Rattle.paper.specs.Form.{is_some, find}
use Rattle.paper.specs.Bench.{Session, take_set}
use Rattle.paper.specs.Class.{Tablet, Class, thirty, begin_class, desk, open_lines, holds_form, barred, hear_unless, last_after, reply, denied, hear_of, hear_from, turn, serve, take_next, Request, sends, fetches, reply_to, class_after, keeps_holding, SaneClass}
use Rattle.paper.specs.Diary.{is_for}
use Rattle.paper.proofs.Law.{and_left, and_right}
use Rattle.paper.proofs.Test.{either}
use Rattle.paper.proofs.Aside.{holds_awake}
use Rattle.paper.proofs.Others.{busy_files}
use Rattle.paper.proofs.Apart.{leaves_others, reply_form, own_bared}
use Rattle.paper.proofs.ClassSane.{begin_class_sane, calls_sane}

-- what is held is some lines
lines_of : (st : Session) (o : Option (List FormLine)) → open_lines st ≡ o → is_some o ≡ true → (ls : List FormLine) × (open_lines st ≡ some ls)
unfolding is_some
lines_of st none e h = absurd (false≢true h)
lines_of st (some ls) e h = (ls, e)

-- a call for a tablet that holds a form on leaves its name
form_kept : (width t : ℕ) (c : Class) (q : Request) → holds_form (c.tablet t).session ≡ true → is_for t (reply_to width c q).whose ≡ true → holds_form ((reply_to width c q).next.tablet t).session ≡ true → ((reply_to width c q).next.tablet t).form ≡ (c.tablet t).form
unfolding reply_to hear_from hear_of take_next serve denied is_for when◌then◌else◌ reply
form_kept width t c (sends u room s) h e k =
    either (ltb u thirty)
    (λ y.
    let me : t ≡ u = eqb-true t u (rw y at e) in
    let quiet = busy_files width (c.tablet t).session s (holds_awake (c.tablet t).session h) in
    rw (y, ← me, quiet) (reply_form c t c.last (hear_unless (barred c t none) width room (desk c t) s) (rw (y, ← me, quiet) at k)))
    (λ n. absurd (false≢true (rw n at e)))
form_kept width t c (fetches room) h e k = by_turn (turn c) e k
  where
    by_turn : (o : Option ℕ) → is_for t (serve room c o).whose ≡ true → holds_form ((serve room c o).next.tablet t).session ≡ true → ((serve room c o).next.tablet t).form ≡ (c.tablet t).form
    by_turn none e k = absurd (false≢true e)
    by_turn (some u) e k =
        let me = eqb-true t u e in
        rw (← me) (reply_form c t (last_after (take_set room (desk c t)).answer t c.last) (take_set room (desk c t)) (rw (← me) at k))

-- the same form is held
pub record SameForm (c d : Class) (t : ℕ) : Type 0 where
  pub lines : open_lines (d.tablet t).session ≡ open_lines (c.tablet t).session
  pub form : (d.tablet t).form ≡ (c.tablet t).form

call_same : (width t : ℕ) (c : Class) (q : Request) → holds_form (c.tablet t).session ≡ true → holds_form ((reply_to width c q).next.tablet t).session ≡ true → SameForm c (reply_to width c q).next t
unfolding holds_form
call_same width t c q h k =
    either (is_for t (reply_to width c q).whose)
    (λ y.
    let (ls, now) = lines_of ((reply_to width c q).next.tablet t).session _ refl k in
    record { lines = now ∙ sym ((own_bared width t c q h y).lines ls now); form = form_kept width t c q h y k })
    (λ n.
    let left = leaves_others width t c q n in
    record { lines = ap (λ (x : Tablet). open_lines x.session) left; form = ap (λ (x : Tablet). x.form) left })

still_held : (width t : ℕ) (c : Class) (qs : List Request) → keeps_holding width t c qs ≡ true → holds_form (c.tablet t).session ≡ true
unfolding keeps_holding
still_held width t c [] h = h
still_held width t c (q ∷ qs) h = and_left _ _ h

-- while it is held, whoever calls
pub held_same : (width t : ℕ) (c : Class) (qs : List Request) → keeps_holding width t c qs ≡ true → SameForm c (class_after width c qs) t
unfolding keeps_holding class_after
held_same width t c [] h = record { lines = refl; form = refl }
held_same width t c (q ∷ qs) h =
    let first = and_left _ _ h in
    let more = and_right (holds_form (c.tablet t).session) _ h in
    let later = held_same width t (reply_to width c q).next qs more in
    let here = call_same width t c q first (still_held width t (reply_to width c q).next qs more) in
    record { lines = later.lines ∙ here.lines; form = later.form ∙ here.form }

-- HELD OPEN: the form stays stored under the name, with the lines that were opened
pub held_stored : (width t : ℕ) (c : Class) (qs : List Request) (ls : List FormLine) → SaneClass width c → t < 30 → open_lines (c.tablet t).session ≡ some ls → keeps_holding width t c qs ≡ true → find (c.tablet t).form (class_after width c qs).forms ≡ some ls
held_stored width t c qs ls sane l e h =
    let same' = held_same width t c qs h in
    rw same'.form at ((calls_sane width c qs sane).held t l ls (same'.lines ∙ e))

-- of every class that calls lead to from the start
pub led_class_sane : (width : ℕ) (qs : List Request) → SaneClass width (class_after width begin_class qs)
led_class_sane width qs = calls_sane width begin_class qs (begin_class_sane width)
