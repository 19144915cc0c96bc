-- What a step promises: the paper's answer, the memory of the paper's next state, and the lent buffer.
use Rattle.std.specs.Prelude.{ℕ, ◌≤◌, ◌<◌, ◌≡◌, true, ◌||◌, List, [], length, leb, ltb, eqb, Result, Ok, Err}
use Rattle.paper.specs.Byte.{when◌then◌else◌, same}
use Rattle.paper.specs.Command as C
use Rattle.paper.specs.Command.{Command, FormLine, keep, is_name, star}
use Rattle.paper.specs.Form.{Form}
use Rattle.paper.specs.Read.{Reading, command, unread, read}
use Rattle.paper.specs.Refusal as R
use Rattle.paper.specs.Bench as P
use Rattle.paper.specs.Set.{set_of}
use Rattle.paper.specs.State.{Sane}
use Rattle.command.specs.View.{width, view_of, text_in, Holds}
use Rattle.command.specs.Answer.{Meets}
use Rattle.command.specs.declared.Refusal.{Refusal}
use Rattle.command.specs.declared.Refusal.TheVariants as W
use Rattle.command.specs.declared.Command as L
use Rattle.text.specs.Write.{padded}
use Rattle.text.specs.declared.read.Span.{Span}
use Rattle.store.specs.Packed.{Store}
use Rattle.set.specs.Taking.{Taking}
use Rattle.session.specs.Memory.{Session, Shelf, drafting, packed_session, packed_shelf, Opens, after_command, named}
use Rattle.session.specs.declared.name.Name.{Name}
use Rattle.session.specs.declared.state.Mode.{Mode}
use Rattle.session.specs.declared.state.Mode.TheVariants as M

-- a session and a shelf are the memory of a bench of which all holds that holds of those that calls lead to
pub record At (session : Session) (shelf : Shelf) : Type 0 where
  pub forms : List Form
  pub state : P.Session
  pub number : ℕ
  pub sane : Sane width (record { forms = forms; session = state })
  pub opens : Opens forms number state
  pub here : session ≡ packed_session forms number state
  pub there : shelf ≡ packed_shelf forms

-- a session beside some shelf
pub record Kept (session : Session) : Type 0 where
  pub shelf : Shelf
  pub at : At session shelf

-- a session beside a store, whatever its plans
pub record Beside (session : Session) (store : Store) : Type 0 where
  pub plans : List ℕ
  pub at : At session (record { store = store; plans = plans })

-- a session beside plans, whatever their store
pub record Planned (session : Session) (plans : List ℕ) : Type 0 where
  pub store : Store
  pub at : At session (record { store = store; plans = plans })

-- used bytes at the front of memory, and 0 behind them
pub record Fills (size : ℕ) (memory : List ℕ) (used : ℕ) : Type 0 where
  pub bytes : List ℕ
  pub is : memory ≡ padded size bytes
  pub counts : used ≡ length bytes
  pub room : length bytes ≤ size

-- the memory of a session by its used bytes
pub record Used (session : Session) : Type 0 where
  pub name : Fills 16 session.name session.held.len
  pub text : Fills 1024 session.text session.held.drafted
  pub answers : Fills 1700 session.answers session.held.given
  pub values : length session.values ≡ 104

-- a step gives what the paper says, with form n held open behind it
pub record Does (o : P.Outcome) (n : ℕ) (old new : List ℕ) (answer : Result ℕ Refusal) (next : Session) (more : Shelf) : Type 0 where
  pub meets : Meets o.answer old new answer
  pub session : next ≡ packed_session o.next.forms n o.next.session
  pub shelf : more ≡ packed_shelf o.next.forms

-- a command in each state; in Answering no line is read as one
unfoldable pub obey : ℕ → List Form → P.Session → Command → P.Outcome
obey room fs P.idle c = P.in_idle room fs c
obey room fs (P.collecting name ls) c = P.in_collecting fs name ls c
obey room fs P.spoiled c = P.in_spoiled fs c
obey room fs (P.opened ls) c = P.in_opened fs ls c
obey room fs (P.answering ls given) c = P.in_printing fs (P.answering ls given) c
obey room fs (P.ready ls given) c = P.in_ready fs ls given c
obey room fs (P.printing ls given n k i) c = P.in_printing fs (P.printing ls given n k i) c

-- a command is obeyed
pub record Obeys (session : Session) (shelf : Shelf) (c : Command) (old new : List ℕ) (answer : Result ℕ Refusal) (next : Session) (more : Shelf) : Type 0 where
  pub obeys : (a : At session shelf)
      → Does (obey (length old) a.forms a.state c) (after_command a.number a.forms a.state c) old new answer next more

-- a command is obeyed, and neither the shelf nor a buffer is touched
pub record Heeds (session : Session) (shelf : Shelf) (c : Command) (answer : Result ℕ Refusal) (next : Session) : Type 0 where
  pub heeds : (b : List ℕ) → Obeys session shelf c b b answer next shelf

-- the same beside every shelf
pub record Minds (session : Session) (c : Command) (answer : Result ℕ Refusal) (next : Session) : Type 0 where
  pub minds : (shelf : Shelf) → Heeds session shelf c answer next

-- beside every shelf with this store
pub record Consults (session : Session) (store : Store) (c : Command) (answer : Result ℕ Refusal) (next : Session) : Type 0 where
  pub consults : (plans : List ℕ) → Heeds session (record { store = store; plans = plans }) c answer next

-- and beside every shelf with these plans
pub record Follows (session : Session) (plans : List ℕ) (c : Command) (answer : Result ℕ Refusal) (next : Session) : Type 0 where
  pub follows : (store : Store) → Heeds session (record { store = store; plans = plans }) c answer next

-- `FI` is obeyed beside every shelf with this store
pub record Informs (session : Session) (store : Store) (old new : List ℕ) (answer : Result ℕ Refusal) (next : Session) : Type 0 where
  pub informs : (plans : List ℕ) → Obeys session (record { store = store; plans = plans }) (C.file C.inform) old new answer next (record { store = store; plans = plans })

-- a command is obeyed without a word for the lent buffer
pub record Files (session : Session) (shelf : Shelf) (c : Command) (answer : Result ℕ Refusal) (next : Session) (more : Shelf) : Type 0 where
  pub files : (b : List ℕ) → Obeys session shelf c b b answer next more

-- a line is refused: its number, and what it leaves of a session
pub record Refuses (why : Refusal) (session : Session) (answer : Result ℕ Refusal) (next : Session) : Type 0 where
  pub says : answer ≡ Err why
  pub leaves : (fs : List Form) (n : ℕ) (st : P.Session) → session ≡ packed_session fs n st → next ≡ packed_session fs n (P.after_refusal st)

-- the form that is held open behind a line
unfoldable pub after_reading : ℕ → List Form → P.Session → Reading → ℕ
after_reading n fs st (command c) = after_command n fs st c
after_reading n fs st (unread r) = n

-- in Answering no line is a command, and `FR` opens nothing but in Idle
unfoldable pub after_line : ℕ → List Form → P.Session → List ℕ → ℕ
after_line n fs st s = after_reading n fs st (read width s)

-- a line is heard
pub record Hears (session : Session) (shelf : Shelf) (s old new : List ℕ) (answer : Result ℕ Refusal) (next : Session) (more : Shelf) : Type 0 where
  pub hears : (a : At session shelf)
      → Does (P.heard width (length old) a.forms a.state s) (after_line a.number a.forms a.state s) old new answer next more

-- a line is heard beside every shelf with these plans, and no buffer is touched
pub record Answers (session : Session) (plans s : List ℕ) (answer : Result ℕ Refusal) (next : Session) : Type 0 where
  pub answers : (store : Store) (b : List ℕ)
      → Hears session (record { store = store; plans = plans }) s b b answer next (record { store = store; plans = plans })

-- a set is taken beside every shelf with these texts and plans
pub record Takes (session : Session) (all plans old new : List ℕ) (answer : Result ℕ Refusal) (next : Session) : Type 0 where
  pub takes : (shelf : Shelf) → shelf.store.text ≡ all → shelf.plans ≡ plans → (a : At session shelf)
      → Does (P.taken (length old) a.forms a.state) a.number old new answer next shelf

-- a session beside some shelf with these texts and plans
pub record Showing (session : Session) (all plans : List ℕ) : Type 0 where
  pub shelf : Shelf
  pub texts : shelf.store.text ≡ all
  pub planned : shelf.plans ≡ plans
  pub at : At session shelf

-- bytes for a lent buffer: refusal 15 where they have no room in it
unfoldable pub handed : ℕ → List ℕ → R.Answer
handed room bytes = when leb (length bytes) room then R.accepted bytes else R.refused R.too_short

-- a set is handed on
pub record Gives (text answers plan values : List ℕ) (copies i : ℕ) (old new : List ℕ) (r : Result ℕ Refusal) : Type 0 where
  pub gives : (t : Taking text answers plan values copies i)
      → Meets (handed (length old) (set_of t.form.filled.lines t.form.filled.given copies i)) old new r

-- a session that has so many sets out
pub record Onward (session : Session) (sets copies out : ℕ) : Type 0 where
  pub kept : Kept session
  pub is : session.held.mode ≡ M.Printing sets copies out
  pub few : out < 65535

-- and that has one more, or is done with the last
pub record Advances (session : Session) (sets copies out : ℕ) (next : Session) : Type 0 where
  pub advances : (fs : List Form) (n : ℕ) (ls : List FormLine) (given : List (List ℕ)) → session ≡ packed_session fs n (P.printing ls given sets copies out)
      → next ≡ packed_session fs n (P.after_set ls given sets copies out)

-- the state of a form that asks for so much
unfoldable pub opens_by : ℕ → Mode
opens_by asked = when eqb asked 0 then M.Ready else M.Opened

-- the state behind k answers of so many
unfoldable pub waits_by : ℕ → ℕ → Mode
waits_by k asked = when eqb k asked then M.Ready else M.Answering k

-- why an answer of so many bytes is refused that does not fit
unfoldable pub unfit_of : ℕ → Refusal
unfit_of n = when ltb 256 n then W.TooLong else W.Unfit

-- in Answering a line is no command
abbrev pub NotAnswering : Mode → Type 0
NotAnswering mode = (k : ℕ) → mode ≡ M.Answering k → ⊥

-- a form's name stands in a line
pub record Named (s : List ℕ) (string : Span) : Type 0 where
  pub holds : Holds s string
  pub named : is_name (text_in s string) ≡ true

-- and so does a name or the star
pub record Starred (s : List ℕ) (string : Span) : Type 0 where
  pub holds : Holds s string
  pub named : (is_name (text_in s string) || same (text_in s string) star) ≡ true

-- a name or the star in sixteen bytes
pub record Deletes (name : Name) : Type 0 where
  pub text : List ℕ
  pub is : name ≡ named text
  pub range : (is_name text || same text star) ≡ true

-- a shelf of forms that may be stored
pub record Stocks (shelf : Shelf) : Type 0 where
  pub session : Session
  pub at : At session shelf

-- the forms of a name, or all of them, leave
pub record Removes (shelf : Shelf) (name : Name) (less : Shelf) : Type 0 where
  pub removes : (session : Session) (a : At session shelf) (text : List ℕ) → name ≡ named text → less ≡ packed_shelf (P.deleted text a.forms)

-- a record that was read is a line for a form
pub record Keeps (s : List ℕ) (c : L.Command) : Type 0 where
  pub line : FormLine
  pub is : view_of s c ≡ command (keep line)

-- a session that collects a form
pub record Collects (session : Session) : Type 0 where
  pub lines : ℕ
  pub is : session.held.mode ≡ M.Collecting lines

-- a draft beside a shelf
pub record Drafted (session : Session) (shelf : Shelf) : Type 0 where
  pub at : At session shelf
  pub collects : Collects session

-- what `FE` gives, once nothing is left in the session
pub record Shelves (session : Session) (shelf : Shelf) (answer : Result ℕ Refusal) (more : Shelf) : Type 0 where
  pub shelves : (next : Session) → next ≡ drafting M.Idle [] [] → Files session shelf (C.file C.finish) answer next more
