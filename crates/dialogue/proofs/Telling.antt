-- A call of the class and its record: the answer's bytes stand behind its first line, with the tablet's sets that are left behind the call.
use Prim.Native.Nat.{ℕ, ◌+◌, ◌-◌, ◌≤◌}
use mathlib.Core.Path.{◌≡◌, refl, sym, ◌∙◌, ap}
use mathlib.Core.Bool.{true, false}
use mathlib.Core.List.{List, ◌++◌, append_assoc}
use mathlib.Core.Option.{Option, none, some}
use native.Mathlib.Omega.{arith}
use lib.ListN.{length, take, drop, length-append, length-drop}
use lib.Seq.{take_at, length-take-le}
use lib.Dec.{ltb, leb}
use borrow.Author.Tests.{lt-ltb}
use Rattle.std.specs.Prelude as Std
use Rattle.std.specs.Prelude.{Result, Ok, Err}
use Rattle.paper.specs.Byte.{when◌then◌else◌}
use Rattle.paper.specs.Refusal as R
use Rattle.paper.specs.Bench as P
use Rattle.paper.specs.State.{Sound}
use Rattle.paper.specs.Command.{Filing}
use Rattle.paper.specs.Form.{Form}
use Rattle.paper.specs.Set.{set_of}
use Rattle.paper.specs.Program.{enough, out_of, to_take}
use Rattle.paper.specs.Class.{Class, thirty, Reply, reply, denied, desk, hear_of, hear_from, turn, prints, serve, take_next, SaneClass, filing_of, reply_to}
use Rattle.paper.specs.ClassProgram.{reply_for, ok_head, no_head, record_of}
use Rattle.paper.proofs.Law.{if_true, if_false}
use Rattle.paper.proofs.Test.{either}
use Rattle.paper.proofs.SetOf.{set_room}
use Rattle.paper.proofs.Turn.{Passing, turn_passing}
use Rattle.command.specs.View.{width, refusal_of}
use Rattle.command.specs.Answer.{Reports, Meets}
use Rattle.command.specs.declared.Refusal.{Refusal}
use Rattle.command.specs.declared.Refusal.TheVariants as W
use Rattle.text.specs.Place.{from}
use Rattle.text.specs.Write.{Writes}
use Rattle.text.proofs.Written.{writes_then}
use Rattle.seats.specs.Seats.{seat_of}
use Rattle.call.specs.Call.{Memory}
use Rattle.talk.specs.Asked.{said_call, start_of, room_in, AsksLine}
use Rattle.talk.specs.declared.asked.Asked.{Asked}
use Rattle.talk.specs.declared.asked.Asked.TheVariants as Q
use Rattle.flow.proofs.Cutting.{rest_part}
use Rattle.tablets.specs.Calls.{Reached, HearsLine, TakesSet, left_of, SetsLeft}
use Rattle.tablets.proofs.Leading.{hears_on, takes_on, reached_sane, reached_counts}
use Rattle.dialogue.specs.Emit.{record_for, line_reply}
use Rattle.dialogue.specs.Tell.{size_of, Shows, record_by, PutsRecord, Tells}

-- the record of an accepted answer: its first line, and its bytes
pub puts_ok : (tablet left : ℕ) (answer : Result ℕ Refusal) (reply out : List ℕ) (at len : ℕ) (mid : List ℕ) (next : ℕ) (new : List ℕ) (end : ℕ) → answer ≡ Ok len
    → Writes out at (ok_head tablet left len) mid next → Writes mid next (take len reply) new end → PutsRecord tablet left answer reply out at new end
unfolding Reports record_by out_of
puts_ok tablet left answer reply out at len mid next new end e u v = record { puts = puts }
  where
    puts : (p : R.Answer) → Shows p answer reply → Writes out at (record_by p tablet left) new end
    puts (R.accepted bytes) s =
        let same : len ≡ length bytes = let told = s.reports in rw e at told in
        let first : Writes out at (ok_head tablet left (length bytes)) mid next = rw same at u in
        let more : Writes mid next (take (length bytes) reply) new end = rw same at v in
        let front = s.front in
        let second : Writes mid next bytes new end = rw front at more in
        writes_then out at _ mid next bytes new end first second
    puts (R.refused r) s = absurd (let told = s.reports in rw e at told)

-- of a refused one: its first line is all
pub puts_no : (tablet left : ℕ) (answer : Result ℕ Refusal) (reply out : List ℕ) (at : ℕ) (new : List ℕ) (end : ℕ) (why : Refusal) → answer ≡ Err why
    → Writes out at (no_head (refusal_of why)) new end → PutsRecord tablet left answer reply out at new end
unfolding Reports record_by
puts_no tablet left answer reply out at new end why e w = record { puts = puts }
  where
    puts : (p : R.Answer) → Shows p answer reply → Writes out at (record_by p tablet left) new end
    puts (R.accepted bytes) s = absurd (let told = s.reports in rw e at told)
    puts (R.refused r) s = let same : refusal_of why ≡ r = let told = s.reports in rw e at told in rw same at w

-- an accepted answer says how many bytes it has
pub says_size : (answer : Result ℕ Refusal) (len : ℕ) → answer ≡ Ok len → size_of answer ≡ len
unfolding size_of
says_size answer len e = rw e

-- as many as the paper's
reports_size : (p : R.Answer) (answer : Result ℕ Refusal) → Reports answer p → size_of answer ≡ length (out_of p)
unfolding Reports size_of out_of
reports_size (R.accepted bytes) (Ok len) h = h
reports_size (R.accepted bytes) (Err why) h = absurd h
reports_size (R.refused r) (Ok len) h = absurd h
reports_size (R.refused r) (Err why) h = refl

-- they lie in the lent buffer
pub meets_size : (p : R.Answer) (old new : List ℕ) (answer : Result ℕ Refusal) → Meets p old new answer → length new ≡ length old → size_of answer ≤ length old
unfolding R.lent out_of
meets_size (R.accepted bytes) old new answer m e =
    let size : length new ≡ length bytes + length (drop (length bytes) old) = ap length m.buffer ∙ length-append bytes (drop (length bytes) old) in
    omega (arith, reports_size (R.accepted bytes) answer m.reports)
meets_size (R.refused r) old new answer m e = omega (arith, reports_size (R.refused r) answer m.reports)

-- at its front, whatever stands behind it
pub meets_shows : (p : R.Answer) (old new rest : List ℕ) (answer : Result ℕ Refusal) → Meets p old new answer → Shows p answer (new ++ rest)
unfolding R.lent out_of
meets_shows (R.accepted bytes) old new rest answer m =
    record { reports = m.reports; front = rw (m.buffer, append_assoc bytes) (take_at bytes _ (length bytes) refl) }
meets_shows (R.refused r) old new rest answer m = record { reports = m.reports; front = refl }

-- a buffer of which the front was lent is as long as before
pub lent_length : (k : ℕ) (old new : List ℕ) → length new ≡ length (take k old) → k ≤ length old → 10291 ≤ length old → 10291 ≤ length (new ++ drop k old)
lent_length k old new e h few = rw (length-append new (drop k old), e, length-take-le k old h, length-drop k old) (omega arith)

-- the record of a call of a tablet
record_same : (a : R.Answer) (t left : ℕ) (c : Class) → left ≡ to_take (c.tablet t).session → record_by a t left ≡ record_of a (some t) c
unfolding record_by record_of
record_same (R.accepted bytes) t left c e = rw e
record_same (R.refused r) t left c e = refl

-- with what is left to it behind the call
record_reply : (c : Class) (t last : ℕ) (f : Option Filing) (o : P.Outcome) (left : ℕ) → ltb t thirty ≡ true → left ≡ left_of (reply c t last f o).next t
    → record_by (reply c t last f o).answer t left ≡ record_for (reply c t last f o)
unfolding reply record_for left_of
record_reply c t last f o left y e = record_same o.answer t left _ (e ∙ if_true _ _ _ y)

-- of one that is refused, and for no tablet
record_denied : (r : R.Refusal) (c : Class) (t left : ℕ) → record_by (denied r c).answer t left ≡ record_for (denied r c)
unfolding denied record_by record_for record_of
record_denied r c t left = refl

-- a line of one of the thirty
hears_own : (room : ℕ) (c : Class) (t : ℕ) (s : List ℕ) → ltb t thirty ≡ true → hear_from width room c t s ≡ hear_of width room c t s (filing_of width (c.tablet t).session s)
unfolding hear_from
hears_own room c t s y = if_true _ _ _ y

-- and of none
hears_none : (room : ℕ) (c : Class) (t : ℕ) (s : List ℕ) → ltb t thirty ≡ false → hear_from width room c t s ≡ denied R.no_tablet c
unfolding hear_from
hears_none room c t s n = if_false _ _ _ n

-- its record
record_hears : (room : ℕ) (c : Class) (t : ℕ) (s : List ℕ) (left : ℕ) → left ≡ left_of (hear_from width room c t s).next t
    → record_by (hear_from width room c t s).answer t left ≡ record_for (hear_from width room c t s)
unfolding hear_of
record_hears room c t s left e =
    either (ltb t thirty)
    (λ y. let own = hears_own room c t s y in rw own (record_reply c t _ _ _ left y (rw own at e)))
    (λ n. rw (hears_none room c t s n) (record_denied R.no_tablet c t left))

-- of a take that serves a tablet
record_taken : (room : ℕ) (c : Class) (t left : ℕ) → ltb t thirty ≡ true → left ≡ left_of (serve room c (some t)).next (seat_of (serve room c (some t)).whose)
    → record_by (serve room c (some t)).answer (seat_of (serve room c (some t)).whose) left ≡ record_for (serve room c (some t))
unfolding serve seat_of reply
record_taken room c t left y e = record_reply c t _ _ _ left y e

-- and that of a take
record_serves : (room : ℕ) (c : Class) (o : Option ℕ) (left : ℕ) → ((t : ℕ) → o ≡ some t → ltb t thirty ≡ true) → left ≡ left_of (serve room c o).next (seat_of (serve room c o).whose)
    → record_by (serve room c o).answer (seat_of (serve room c o).whose) left ≡ record_for (serve room c o)
unfolding serve
record_serves room c none left h e = record_denied R.not_printing c _ left
record_serves room c (some t) left h e = record_taken room c t left (h t refl) e

record_takes : (room : ℕ) (c : Class) (left : ℕ) → left ≡ left_of (take_next room c).next (seat_of (take_next room c).whose)
    → record_by (take_next room c).answer (seat_of (take_next room c).whose) left ≡ record_for (take_next room c)
unfolding take_next thirty
record_takes room c left e = record_serves room c (turn c) left (λ t h. lt-ltb t 30 (turn_passing c t h).below) e

-- a set in a state of which all holds that holds in such a class
set_short : (room : ℕ) (forms : List Form) (st : P.Session) → Sound width forms st → length (out_of (P.taken room forms st).answer) ≤ 10291
unfolding P.taken P.replied P.outcome P.refuse out_of when◌then◌else◌
set_short room forms P.idle h = omega arith
set_short room forms (P.collecting name ls) h = omega arith
set_short room forms P.spoiled h = omega arith
set_short room forms (P.opened ls) h = omega arith
set_short room forms (P.answering ls given) h = omega arith
set_short room forms (P.ready ls given) h = omega arith
set_short room forms (P.printing ls given n c i) h = either (leb (length (set_of ls given c i)) room) (λ y. rw y (set_room width ls given n c i h.0 h.1 h.2 (omega arith))) (λ m. rw m (omega arith))

-- no set has more than 10,291 bytes, whatever room there is
take_short : (room : ℕ) (c : Class) → SaneClass width c → length (out_of (take_next room c).answer) ≤ 10291
unfolding take_next serve denied reply desk P.take_set out_of
take_short room c sane = by_turn (turn c) (turn_passing c)
  where
    by_turn : (o : Option ℕ) → ((t : ℕ) → o ≡ some t → Passing (λ k. prints (c.tablet k).session) t) → length (out_of (serve room c o).answer) ≤ 10291
    by_turn none p = omega arith
    by_turn (some t) p = set_short room c.forms (c.tablet t).session (sane.each t (p t refl).below)

-- a line was heard, and its record put
pub tells_hears : (self : Memory) (t : ℕ) (s old : List ℕ) (next : Memory) (new : List ℕ) (answer : Result ℕ Refusal) → HearsLine self t s old next new answer → length old ≡ 10291
    → (left : ℕ) → SetsLeft next.held t left → (rest out : List ℕ) (at : ℕ) (more : List ℕ) (end : ℕ) → PutsRecord t left answer (new ++ rest) out at more end
    → Tells self (λ c. hear_from width enough c t s) out at next more end
unfolding hears_on reached_counts enough
tells_hears self t s old next new answer h size left tells rest out at more end puts =
    record {
      leaves = λ k. record { reached = hears_on self k next t (length old) s (h.leaves k); is = ap (λ room. (hear_from width room k.class t s).next) size };
      puts = λ k.
          let c = k.class in
          let left_is : left ≡ left_of (hear_from width (length old) c t s).next t = tells.is (reached_counts next (hears_on self k next t (length old) s (h.leaves k))) in
          let same : record_by (hear_from width (length old) c t s).answer t left ≡ record_for (hear_from width 10291 c t s) =
          record_hears (length old) c t s left left_is ∙ ap (λ room. record_for (hear_from width room c t s)) size in
          rw same at (puts.puts (hear_from width (length old) c t s).answer (meets_shows _ old new rest answer (h.meets k)));
    }

-- a set was taken, and its record put
pub tells_takes : (self : Memory) (room : ℕ) (old : List ℕ) (next : Memory) (new : List ℕ) (served : ℕ) (answer : Result ℕ Refusal) → TakesSet self old next new served answer → length old ≡ room
    → (left : ℕ) → SetsLeft next.held served left → (rest out : List ℕ) (at : ℕ) (more : List ℕ) (end : ℕ) → PutsRecord served left answer (new ++ rest) out at more end
    → Tells self (λ c. take_next room c) out at next more end
unfolding takes_on reached_counts
tells_takes self room old next new served answer h size left tells rest out at more end puts =
    record {
      leaves = λ k. record { reached = takes_on self k next (length old) (h.leaves k); is = ap (λ n. (take_next n k.class).next) size };
      puts = λ k.
          let c = k.class in
          let whose = h.whose k in
          let left_is : left ≡ left_of (take_next (length old) c).next served = tells.is (reached_counts next (takes_on self k next (length old) (h.leaves k))) in
          let left-own : left ≡ left_of (take_next (length old) c).next (seat_of (take_next (length old) c).whose) = left_is ∙ ap (left_of (take_next (length old) c).next) whose in
          let same : record_by (take_next (length old) c).answer served left ≡ record_for (take_next room c) =
          ap (λ n. record_by (take_next (length old) c).answer n left) whose ∙ record_takes (length old) c left left-own ∙ ap (λ n. record_for (take_next n c)) size in
          rw same at (puts.puts (take_next (length old) c).answer (meets_shows _ old new rest answer (h.meets k)));
    }

-- its bytes are few
pub takes_size : (self : Memory) (old : List ℕ) (next : Memory) (new : List ℕ) (served : ℕ) (answer : Result ℕ Refusal) → Reached self → TakesSet self old next new served answer → size_of answer ≤ 10291
takes_size self old next new served answer k h =
    omega (arith, reports_size _ answer (h.meets k).reports, take_short (length old) k.class (reached_sane self k))

-- and so are those of a reply
pub hears_size : (self : Memory) (t : ℕ) (s old : List ℕ) (next : Memory) (new : List ℕ) (answer : Result ℕ Refusal) → Reached self → HearsLine self t s old next new answer → length new ≡ length old → length old ≡ 10291
    → size_of answer ≤ 10291
hears_size self t s old next new answer k h e size = omega (arith, meets_size _ old new answer (h.meets k) e)

-- an input line that a tablet sends
module _ (s : List ℕ) (asked : Std.Option Asked) (a : AsksLine s asked) where
  asks_line : (tablet start : ℕ) → asked ≡ Std.Some (Q.Line tablet start) → (c : Class) → line_reply c s ≡ hear_from width enough c tablet (from s start)
  unfolding line_reply reply_for reply_to said_call
  asks_line tablet start e c = ap (reply_for width c) (sym a.says ∙ ap (said_call s) e)

  -- a take
  asks_take : (room : ℕ) → asked ≡ Std.Some (Q.Take room) → (c : Class) → line_reply c s ≡ take_next room c
  unfolding line_reply reply_for reply_to said_call
  asks_take room e c = ap (reply_for width c) (sym a.says ∙ ap (said_call s) e)

  -- neither
  asks_none : asked ≡ Std.None → (c : Class) → line_reply c s ≡ denied R.no_tablet c
  unfolding line_reply reply_for said_call
  asks_none e c = ap (reply_for width c) (sym a.says ∙ ap (said_call s) e)

-- its bytes start in the line, and a take names no more room than 5 digits can
pub starts_inside : (s : List ℕ) (asked : Std.Option Asked) → AsksLine s asked → (tablet start : ℕ) → asked ≡ Std.Some (Q.Line tablet start) → start ≤ length s
unfolding start_of
starts_inside s asked a tablet start e = let inside = a.inside in rw e at inside

pub room_small : (s : List ℕ) (asked : Std.Option Asked) → AsksLine s asked → (room : ℕ) → asked ≡ Std.Some (Q.Take room) → room ≤ 99999
unfolding room_in
room_small s asked a room e = let small = a.small in rw e at small

-- calls that lead to the same
tells_same : (self : Memory) (f g : Class → Reply) (out : List ℕ) (at : ℕ) (next : Memory) (new : List ℕ) (end : ℕ) → ((c : Class) → g c ≡ f c) → Tells self f out at next new end → Tells self g out at next new end
tells_same self f g out at next new end e t =
    record { leaves = λ k. rw (e k.class) (t.leaves k); puts = λ k. rw (e k.class) (t.puts k) }

module _ (self : Memory) (s : List ℕ) (asked : Std.Option Asked) (a : AsksLine s asked) (out : List ℕ) (at : ℕ) (next : Memory) (new : List ℕ) (end : ℕ) where
  pub tells_line : (tablet start : ℕ) → asked ≡ Std.Some (Q.Line tablet start) → Tells self (λ c. hear_from width enough c tablet (take (length s - start) (drop start s))) out at next new end
      → Tells self (λ c. line_reply c s) out at next new end
  unfolding from
  tells_line tablet start e t = tells_same self _ _ out at next new end (asks_line s asked a tablet start e) (rw (rest_part s start) at t)

  pub tells_take : (room : ℕ) → asked ≡ Std.Some (Q.Take room) → Tells self (λ c. take_next room c) out at next new end → Tells self (λ c. line_reply c s) out at next new end
  tells_take room e t = tells_same self _ _ out at next new end (asks_take s asked a room e) t

-- what asks nothing is none
pub no_call : (asked : Std.Option Asked) → ((q : Asked) → asked ≡ Std.Some q → ⊥) → asked ≡ Std.None
no_call Std.None h = refl
no_call (Std.Some q) h = absurd (h q refl)

-- a line that names no tablet leaves all as it was
pub tells_none : (self : Memory) (s : List ℕ) (asked : Std.Option Asked) → AsksLine s asked → (out : List ℕ) (at : ℕ) (new : List ℕ) (end : ℕ) → asked ≡ Std.None → Writes out at (no_head (refusal_of W.NoTablet)) new end
    → Tells self (λ c. line_reply c s) out at self new end
unfolding denied record_for record_of refusal_of
tells_none self s asked a out at new end e w =
    record {
      leaves = λ k. record { reached = k; is = sym (ap (λ r. r.next) (asks_none s asked a e k.class)) };
      puts = λ k. rw (asks_none s asked a e k.class) w;
    }
