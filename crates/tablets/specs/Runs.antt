-- Calls that were made of the code, one after the other: what went into each of them, what came out, and that each is as
-- promised. And what the calls told of each tablet, as the paper's diary has it.
use Rattle.std.specs.Prelude.{ℕ, ◌*◌, ◌≡◌, Bool, true, ◌&&◌, List, [], ◌∷◌, length, take, get_or, ltb, eqb, Result, Ok, Err}
use Rattle.paper.specs.Byte.{when◌then◌else◌}
use Rattle.paper.specs.Line.{kept}
use Rattle.paper.specs.Command.{file, recall}
use Rattle.paper.specs.Read.{command, read}
use Rattle.paper.specs.Refusal as R
use Rattle.paper.specs.Calls.{Call}
use Rattle.paper.specs.Class.{Request, sends, fetches}
use Rattle.paper.specs.Diary.{call_of, Entry, lines_in, sets_in}
use Rattle.command.specs.View.{width, refusal_of}
use Rattle.command.specs.Answer.{Meets}
use Rattle.command.specs.declared.Refusal.{Refusal}
use Rattle.call.specs.Call.{Memory}
use Rattle.tablets.specs.Calls.{HearsLine, TakesSet}

-- what was called: `hear` with the number of a tablet and its line, or `take`
pub data Kind : Type 0 where
  hears : (t : ℕ) (s : List ℕ) → Kind
  takes : Kind

-- a call that was made: what was called, the lent buffer before and after it, the memory that it left, the tablet whose call it
-- was, and its answer. Of a line that is the sender, of a take the one that the call told, 30 for none
pub record Made : Type 0 where
  pub what : Kind
  pub old : List ℕ
  pub new : List ℕ
  pub next : Memory
  pub whose : ℕ
  pub answer : Result ℕ Refusal

-- what the code promises of a call of each kind: the promise that its contract names
abbrev pub PromisedBy : (self : Memory) → Kind → (old : List ℕ) → (next : Memory) → (new : List ℕ) → (whose : ℕ) → Result ℕ Refusal → Type 0
PromisedBy self (hears t s) old next new whose r = (whose ≡ t) × HearsLine self t s old next new r
PromisedBy self takes old next new whose r = TakesSet self old next new whose r

-- a call that was made is as promised
abbrev pub Promised : (self : Memory) → Made → Type 0
Promised self m = PromisedBy self m.what m.old m.next m.new m.whose m.answer

-- calls as promised, each of them over the memory that the one before it left
abbrev pub Chain : (self : Memory) → List Made → Type 0
Chain self [] = Unit
Chain self (m ∷ ms) = Promised self m × Chain m.next ms

-- the memory that they leave
unfoldable pub after : Memory → List Made → Memory
after self [] = self
after self (m ∷ ms) = after m.next ms

-- the paper's call, with so much room
unfoldable pub request_for : ℕ → Kind → Request
request_for room (hears t s) = sends t room s
request_for room takes = fetches room

-- the room in the buffer that was lent to a call
abbrev pub room_of : Made → ℕ
room_of m = length m.old

-- a call that was made, as the paper has it
unfoldable pub on_paper : Made → Request
on_paper m = request_for (room_of m) m.what

-- and as the bench of 01 has it
unfoldable pub on_bench : Made → Call
on_bench m = call_of (on_paper m)

-- the answers of calls, and their buffers, are those of the paper, one by one
abbrev pub Report : List R.Answer → List Made → Type 0
Report [] [] = Unit
Report [] (m ∷ ms) = ⊥
Report (a ∷ answers) [] = ⊥
Report (a ∷ answers) (m ∷ ms) = Meets a m.old m.new m.answer × Report answers ms

-- what a call told in the paper's words: the bytes that an answer counts at the front of the buffer, or the refusal
unfoldable pub told_by : Result ℕ Refusal → List ℕ → R.Answer
told_by (Ok len) buffer = R.accepted (take len buffer)
told_by (Err why) buffer = R.refused (refusal_of why)

unfoldable pub told : Made → R.Answer
told m = told_by m.answer m.new

-- the tablet that an accepted take told, before those of later ones
unfoldable pub served_on : Kind → Result ℕ Refusal → (whose : ℕ) → List ℕ → List ℕ
served_on (hears t s) r whose later = later
served_on takes (Ok len) whose later = whose ∷ later
served_on takes (Err why) whose later = later

-- the tablets that the accepted takes among some calls told, in order
unfoldable pub served : List Made → List ℕ
served [] = []
served (m ∷ ms) = served_on m.what m.answer m.whose (served ms)

-- the lines among some calls are all of one tablet
unfoldable pub sent_by : ℕ → Kind → Bool
sent_by t (hears u s) = eqb u t
sent_by t takes = true

unfoldable pub only : ℕ → List Made → Bool
only t [] = true
only t (m ∷ ms) = sent_by t m.what && only t ms

-- the number in memory of the state that a tablet is in, in the order of 01: Idle 0, Collecting 1 and with a spoiled form 2,
-- Open 3, Answering 4, Ready 5, Printing 6
unfoldable pub state_in : Memory → ℕ → ℕ
state_in self t = get_or self.held (t * 10) 0

-- it prints
unfoldable pub prints_in : Memory → ℕ → Bool
prints_in self t = eqb (state_in self t) 6

-- it holds a form open
unfoldable pub holds_in : Memory → ℕ → Bool
holds_in self t = ltb 2 (state_in self t)

-- a tablet prints at every one of some calls
unfoldable pub prints_through : ℕ → Memory → List Made → Bool
prints_through t self [] = true
prints_through t self (m ∷ ms) = prints_in self t && prints_through t m.next ms

-- it holds a form open at every one of them, and after them
unfoldable pub holds_through : ℕ → Memory → List Made → Bool
holds_through t self [] = holds_in self t
holds_through t self (m ∷ ms) = holds_in self t && holds_through t m.next ms

-- a call with what it told
unfoldable pub entry_of : Made → Entry
entry_of m = record { call = on_bench m; answer = told m }

-- a tablet's diary of some calls, as the code told it: its lines and the takes that told it, until it holds no form open any more.
-- In it `answers_in` are what its lines were told
unfoldable pub diary_of : ℕ → Memory → List Made → List Entry
diary_of t self [] = []
diary_of t self (m ∷ ms) =
    let later : List Entry = diary_of t m.next ms in
    when holds_in self t then (when eqb t m.whose then (entry_of m ∷ later) else later) else []

-- its lines among them, without what is dropped of them
abbrev pub lines_for : ℕ → Memory → List Made → List (List ℕ)
lines_for t self ms = lines_in (diary_of t self ms)

-- the bytes that accepted takes wrote for it, one set after the other
abbrev pub sets_for : ℕ → Memory → List Made → List (List ℕ)
sets_for t self ms = sets_in (diary_of t self ms)

-- the call is a tablet's line that recalls a form, in any spelling
pub record Recalls (t : ℕ) (name : List ℕ) (m : Made) : Type 0 where
  pub line : List ℕ
  pub sent : m.what ≡ hears t line
  pub reads : read width (kept line) ≡ command (file (recall name))
