-- 'Thirty tablets, thirty sessions': the bench of a class, one store with a session for each tablet. A line or a take does to
-- the store and to one session what it does on the bench of 01; this chapter says whose session that is, and adds what the
-- other tablets forbid.
--
-- Others may change a tablet's answers to `FS` (10 and 17), `FE` (11), `FK` (19), `FI` (the names) and `FR` (12, or other lines
-- under the name), with what follows from these, and the turn of its takes. From an accepted `FR` to the last set they change
-- none of its other answers and none of its sets.
use Rattle.std.specs.Prelude.{ℕ, zero, suc, Bool, true, false, not, ◌&&◌, ◌||◌, List, [], ◌∷◌, ltb, eqb, ◌<◌, ◌≡◌}
use Rattle.paper.specs.Byte.{Option, none, some, when◌then◌else◌, same}
use Rattle.paper.specs.Line.{kept}
use Rattle.paper.specs.Command.{FormLine, Filing, start, finish, inform, recall, delete, empty, new, keep, file, ask, print, star}
use Rattle.paper.specs.Refusal.{Refusal, not_printing, others_collect, no_tablet, held_open, Answer, accepted, refused}
use Rattle.paper.specs.Read.{Reading, command, unread, read}
use Rattle.paper.specs.Form.{Form, is_some, find}
use Rattle.paper.specs.Bench.{Session, idle, collecting, spoiled, opened, answering, ready, printing, Bench, Outcome, refuse, hear, take_set}
use Rattle.paper.specs.State.{Stored, Sound}

-- a tablet: a session of its own, and the name of the form that it holds open, which is empty while it holds none
pub record Tablet : Type 0 where
  pub session : Session
  pub form : List ℕ

-- the store, the tablets by their numbers, and the number of the one last served
pub record Class : Type 0 where
  pub forms : List Form
  pub tablet : ℕ → Tablet
  pub last : ℕ

-- so many tablets are there, numbered from 0
unfoldable pub thirty : ℕ
thirty = 30

-- a class begins with every tablet Idle and nothing stored; as if 29 had been served, so that the turn goes on to 0
unfoldable pub begin_class : Class
begin_class = record { forms = []; tablet = λ k. record { session = idle; form = [] }; last = 29 }

-- the bench of 01 that a tablet has before it
unfoldable pub desk : Class → ℕ → Bench
desk c t = record { forms = c.forms; session = (c.tablet t).session }

-- Idle
unfoldable pub at_rest : Session → Bool
at_rest idle = true
at_rest (collecting name ls) = false
at_rest spoiled = false
at_rest (opened ls) = false
at_rest (answering ls answers) = false
at_rest (ready ls answers) = false
at_rest (printing ls answers n c i) = false

-- Collecting, a sound form or a spoiled one
unfoldable pub collects : Session → Bool
collects idle = false
collects (collecting name ls) = true
collects spoiled = true
collects (opened ls) = false
collects (answering ls answers) = false
collects (ready ls answers) = false
collects (printing ls answers n c i) = false

-- Printing
unfoldable pub prints : Session → Bool
prints idle = false
prints (collecting name ls) = false
prints spoiled = false
prints (opened ls) = false
prints (answering ls answers) = false
prints (ready ls answers) = false
prints (printing ls answers n c i) = true

-- the lines of the form held open, in Open, Answering, Ready and Printing
unfoldable pub open_lines : Session → Option (List FormLine)
open_lines idle = none
open_lines (collecting name ls) = none
open_lines spoiled = none
open_lines (opened ls) = some ls
open_lines (answering ls answers) = some ls
open_lines (ready ls answers) = some ls
open_lines (printing ls answers n c i) = some ls

-- there is a form held open
unfoldable pub holds_form : Session → Bool
holds_form st = is_some (open_lines st)

-- a tablet below a number, other than one tablet, passes a test
unfoldable pub another_below : ℕ → Class → ℕ → (Tablet → Bool) → Bool
another_below zero c t test = false
another_below (suc k) c t test = (not (eqb k t) && test (c.tablet k)) || another_below k c t test

-- one of the other tablets does
unfoldable pub another : Class → ℕ → (Tablet → Bool) → Bool
another = another_below thirty

-- the line to the store that was read
unfoldable pub filing_read : Reading → Option Filing
filing_read (command empty) = none
filing_read (command new) = none
filing_read (command (keep line)) = none
filing_read (command (file filing)) = some filing
filing_read (command ask) = none
filing_read (command (print n c)) = none
filing_read (unread r) = none

-- a line to the store is the others' to forbid in Idle only: in other states it is 3, an answer, or the sender's own `FE`
unfoldable pub filing_of : ℕ → Session → List ℕ → Option Filing
filing_of width st s = when at_rest st then filing_read (read width (kept s)) else none

-- it is `FS` of a name that is free
unfoldable pub starts : List Form → Option Filing → Bool
starts forms none = false
starts forms (some (start name)) = not (is_some (find name forms))
starts forms (some finish) = false
starts forms (some inform) = false
starts forms (some (recall name)) = false
starts forms (some (delete name)) = false

-- it is an `FK` that means the form of this name; the star means every form
unfoldable pub strikes : Option Filing → List ℕ → Bool
strikes none form = false
strikes (some (start name)) form = false
strikes (some finish) form = false
strikes (some inform) form = false
strikes (some (recall name)) form = false
strikes (some (delete name)) form = same name star || same name form

-- the name behind an `FR`; else the name stays
unfoldable pub renamed : Option Filing → List ℕ → List ℕ
renamed none form = form
renamed (some (start name)) form = form
renamed (some finish) form = form
renamed (some inform) form = form
renamed (some (recall name)) form = name
renamed (some (delete name)) form = form

-- what the others forbid: 17 to start while one of them collects, 19 to delete what one of them holds open
unfoldable pub barred : Class → ℕ → Option Filing → Option Refusal
barred c t f =
    when starts c.forms f && another c t (λ x. collects x.session) then
    some others_collect
    else
    when another c t (λ x. holds_form x.session && strikes f x.form) then some held_open else none

-- a line on a bench of 01, unless it is forbidden
unfoldable pub hear_unless : Option Refusal → (width room : ℕ) → Bench → List ℕ → Outcome
hear_unless none width room b s = hear width room b s
hear_unless (some r) width room b s = refuse r b.forms b.session

-- what a call to the class gives: the answer, the tablet that the call was for, and the class that it leaves
pub record Reply : Type 0 where
  pub answer : Answer
  pub whose : Option ℕ
  pub next : Class

-- what stands at one number changed, at every other as it was
unfoldable pub seat : {A : Type 0} → ℕ → A → (ℕ → A) → ℕ → A
seat t x f k = when eqb k t then x else f k

-- a tablet in such a state knows the form that it holds
unfoldable pub tablet_of : Session → List ℕ → Tablet
tablet_of st form = record { session = st; form = when holds_form st then form else [] }

-- the class after a call of one tablet has left its desk so
unfoldable pub reply : Class → (t last : ℕ) → Option Filing → Outcome → Reply
reply c t last f o =
    record {
      answer = o.answer;
      whose = some t;
      next = record {
        forms = o.next.forms;
        tablet = seat t (tablet_of o.next.session (renamed f (c.tablet t).form)) c.tablet;
        last = last;
      };
    }

-- refused, and for no tablet
unfoldable pub denied : Refusal → Class → Reply
denied r c = record { answer = refused r; whose = none; next = c }

-- a line that a tablet sends
unfoldable pub hear_of : (width room : ℕ) → Class → ℕ → List ℕ → Option Filing → Reply
hear_of width room c t s f = reply c t c.last f (hear_unless (barred c t f) width room (desk c t) s)

-- a line with the number of its tablet; over 29 it is 18 before all else
unfoldable pub hear_from : (width room : ℕ) → Class → ℕ → List ℕ → Reply
hear_from width room c t s =
    when ltb t thirty then hear_of width room c t s (filing_of width (c.tablet t).session s) else denied no_tablet c

-- the number after another, from 29 on to 0
unfoldable pub onward : ℕ → ℕ
onward k = when ltb k 29 then suc k else 0

-- the first number after another that passes a test, of so many
unfoldable pub first_after : (ℕ → Bool) → (count k : ℕ) → Option ℕ
first_after test zero k = none
first_after test (suc count) k =
    elim (test (onward k)) [ true ↦ some (onward k) | false ↦ first_after test count (onward k) ]

-- whose turn it is: the first in Printing after the one last served, who is asked last
unfoldable pub turn : Class → Option ℕ
turn c = first_after (λ k. prints (c.tablet k).session) thirty c.last

-- how many numbers below another pass a test
unfoldable pub count_below : ℕ → (ℕ → Bool) → ℕ
count_below zero test = 0
count_below (suc k) test = when test k then suc (count_below k test) else count_below k test

-- how many tablets are in Printing
unfoldable pub printers : Class → ℕ
printers c = count_below thirty (λ k. prints (c.tablet k).session)

-- only an accepted take moves the turn
unfoldable pub last_after : Answer → (t last : ℕ) → ℕ
last_after (accepted bytes) t last = t
last_after (refused r) t last = last

-- a take on the desk of the tablet whose turn it is; 16 where it is nobody's
unfoldable pub serve : (room : ℕ) → Class → Option ℕ → Reply
serve room c none = denied not_printing c
serve room c (some t) =
    let o : Outcome = take_set room (desk c t) in
    reply c t (last_after o.answer t c.last) none o

-- a take by the printer, which names no tablet
unfoldable pub take_next : (room : ℕ) → Class → Reply
take_next room c = serve room c (turn c)

-- the calls to a class, each with the room in the lent buffer
pub data Request : Type 0 where
  sends : (t room : ℕ) (s : List ℕ) → Request
  fetches : (room : ℕ) → Request

-- what a call gives
unfoldable pub reply_to : ℕ → Class → Request → Reply
reply_to width c (sends t room s) = hear_from width room c t s
reply_to width c (fetches room) = take_next room c

-- the answers to calls one after the other
unfoldable pub replies_to : ℕ → Class → List Request → List Answer
replies_to width c [] = []
replies_to width c (q ∷ qs) = (reply_to width c q).answer ∷ replies_to width (reply_to width c q).next qs

-- the class that they leave
unfoldable pub class_after : ℕ → Class → List Request → Class
class_after width c [] = c
class_after width c (q ∷ qs) = class_after width (reply_to width c q).next qs

-- the tablet of an accepted take, before those of later ones
unfoldable pub served_by : Request → Answer → Option ℕ → List ℕ → List ℕ
served_by (sends t room s) answer whose later = later
served_by (fetches room) (accepted bytes) none later = later
served_by (fetches room) (accepted bytes) (some t) later = t ∷ later
served_by (fetches room) (refused r) whose later = later

-- the tablets that the accepted takes among some calls serve, in order
unfoldable pub served_in : ℕ → Class → List Request → List ℕ
served_in width c [] = []
served_in width c (q ∷ qs) =
    let r : Reply = reply_to width c q in
    served_by q r.answer r.whose (served_in width r.next qs)

-- the place of a tablet's next set among accepted takes, counted from 1; where it is not among them, the one behind the last
unfoldable pub wait : ℕ → List ℕ → ℕ
wait t [] = 1
wait t (u ∷ us) = when eqb t u then 1 else suc (wait t us)

-- a tablet is in Printing at every one of some calls
unfoldable pub keeps_printing : (width t : ℕ) → Class → List Request → Bool
keeps_printing width t c [] = true
keeps_printing width t c (q ∷ qs) =
    prints (c.tablet t).session && keeps_printing width t (reply_to width c q).next qs

-- a tablet sends none of them
unfoldable pub silent : ℕ → List Request → Bool
silent t [] = true
silent t (sends u room s ∷ qs) = not (eqb t u) && silent t qs
silent t (fetches room ∷ qs) = silent t qs

-- a tablet holds a form open at every one of some calls, and after them
unfoldable pub keeps_holding : (width t : ℕ) → Class → List Request → Bool
keeps_holding width t c [] = holds_form (c.tablet t).session
keeps_holding width t c (q ∷ qs) =
    holds_form (c.tablet t).session && keeps_holding width t (reply_to width c q).next qs

-- what holds of every class that calls lead to: of the store and of each session beside it what holds on the bench of 01; a form
-- that is held open is stored under its name with the lines that were opened, and who holds none has no name; there is at most one collector;
-- and the one last served is one of thirty
pub record SaneClass (width : ℕ) (c : Class) : Type 0 where
  pub forms : Stored width c.forms
  pub each : (t : ℕ) → t < 30 → Sound width c.forms (c.tablet t).session
  pub held : (t : ℕ) → t < 30 → (ls : List FormLine) → open_lines (c.tablet t).session ≡ some ls → find (c.tablet t).form c.forms ≡ some ls
  pub nameless : (t : ℕ) → t < 30 → holds_form (c.tablet t).session ≡ false → (c.tablet t).form ≡ []
  pub one_collects : (t u : ℕ) → t < 30 → u < 30 → collects (c.tablet t).session ≡ true → collects (c.tablet u).session ≡ true → t ≡ u
  pub last_below : c.last < 30
