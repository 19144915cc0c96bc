-- The states by what leads to them and out of them: every state is reached, and none is stuck.
use Prim.Native.Nat.{ℕ}
use Prim.Native.String.{String, ◌++◌}
use mathlib.Core.Path.{◌≡◌, refl}
use mathlib.Core.List.{List, [], ◌∷◌, map}
use mathlib.Core.Option.{Option, none, some}
use Rattle.paper.specs.Byte.{bytes, when◌then◌else◌, any}
use Rattle.paper.specs.Line.{kept, cut, control, long}
use Rattle.paper.specs.Command.{FormLine, new, file, finish}
use Rattle.paper.specs.Read.{command, read}
use Rattle.paper.specs.Write.{normal}
use Rattle.paper.specs.Form.{Form, unsound_at, has_room}
use Rattle.paper.specs.Bench.{Session, idle, collecting, spoiled, opened, answering, ready, printing, Bench, begin, outcome, done, after_refusal, refuse, on_finish, checked, in_collecting, in_spoiled, in_opened, in_ready, in_printing, in_idle, in_answering, obeyed, heard, hear, take_set}
use Rattle.paper.specs.Program.{enough}
use Rattle.paper.specs.Calls.{line, called, after_calls}
use Rattle.paper.proofs.Test.{either}
use Rattle.paper.proofs.Cases.{narrow, ran}

-- the name of a state, as 01 has it
unfoldable pub name_of : Session → String
name_of idle = "Idle"
name_of (collecting name ls) = "Collecting"
name_of spoiled = "Collecting, spoiled"
name_of (opened ls) = "Open"
name_of (answering ls given) = "Answering"
name_of (ready ls given) = "Ready"
name_of (printing ls given n c i) = "Printing"

-- the bench that the lines of an input lead to from the start, no set being taken
unfoldable pub heard_all : String → Bench
unfolding ran called after_calls
heard_all s = after_calls narrow begin (map (line enough) (cut (kept (bytes s))))

-- its state
abbrev pub LeadsTo : String → String → Type 0
LeadsTo s name = name_of (heard_all s).session ≡ name

-- a form with a counter is stored, and one that asks for nothing
unfoldable pub stores : String
stores = "FS\"X\"\nQ1,0\nZT\nC0,1,N,+1,\"\"\nC1,1,N,+1,\"\"\nFE\nFS\"Y\"\nQ1,0\nZT\nFE\n"

-- an arrow of the picture: after some lines one state, and after one line more another
abbrev pub Arrow : (before said from to : String) → Type 0
Arrow before said from to = LeadsTo before from × LeadsTo (before ++ said ++ "\n") to

-- and one of a take
abbrev pub Taken : (before from to : String) → Type 0
Taken before from to = LeadsTo before from × (name_of (take_set enough (heard_all before)).next.session ≡ to)

-- every state is reached, and leads on as the picture shows
pub arrows :
    Arrow "" "FS\"X\"" "Idle" "Collecting"
    × Arrow "FS\"X\"\n" "Q1,0" "Collecting" "Collecting"
    × Arrow "FS\"X\"\n" "N" "Collecting" "Collecting, spoiled"
    × Arrow "FS\"X\"\n" "FE" "Collecting" "Idle"
    × Arrow "FS\"X\"\nN\n" "Q1,0" "Collecting, spoiled" "Collecting, spoiled"
    × Arrow "FS\"X\"\nN\n" "FE" "Collecting, spoiled" "Idle"
    × Arrow stores "FR\"X\"" "Idle" "Open"
    × Arrow stores "FR\"Y\"" "Idle" "Ready"
    × Arrow (stores ++ "FR\"X\"\n") "?" "Open" "Answering"
    × Arrow (stores ++ "FR\"X\"\n") "N" "Open" "Idle"
    × Arrow (stores ++ "FR\"X\"\n?\n") "7" "Answering" "Answering"
    × Arrow (stores ++ "FR\"X\"\n?\n7\n") "7" "Answering" "Ready"
    × Arrow (stores ++ "FR\"X\"\n?\n") "x" "Answering" "Idle"
    × Arrow (stores ++ "FR\"Y\"\n") "P2" "Ready" "Printing"
    × Arrow (stores ++ "FR\"Y\"\n") "N" "Ready" "Idle"
    × Arrow (stores ++ "FR\"Y\"\nP2\n") "N" "Printing" "Idle"
    × Taken (stores ++ "FR\"Y\"\nP2\n") "Printing" "Printing"
    × Taken (stores ++ "FR\"Y\"\nP1\n") "Printing" "Idle"
unfolding ran name_of heard_all stores
arrows = (
  (refl, refl),
  (refl, refl),
  (refl, refl),
  (refl, refl),
  (refl, refl),
  (refl, refl),
  (refl, refl),
  (refl, refl),
  (refl, refl),
  (refl, refl),
  (refl, refl),
  (refl, refl),
  (refl, refl),
  (refl, refl),
  (refl, refl),
  (refl, refl),
  (refl, refl),
  (refl, refl),
)

-- a line that leads home from each state; in Answering every line is an answer, and one with a byte below 20H fits nothing
unfoldable pub way_home : Session → List ℕ
way_home idle = normal new
way_home (collecting name ls) = normal (file finish)
way_home spoiled = normal (file finish)
way_home (opened ls) = normal new
way_home (answering ls given) = 1 ∷ []
way_home (ready ls given) = normal new
way_home (printing ls given n c i) = normal new

-- `N` and `FE` read on a label of any width
read_new : (width : ℕ) → read width (normal new) ≡ command new
unfolding ran
read_new width = refl

read_finish : (width : ℕ) → read width (normal (file finish)) ≡ command (file finish)
unfolding ran
read_finish width = refl

-- `FE` ends every form
finish_home : (forms : List Form) (name : List ℕ) (ls : List FormLine) (o : Option ℕ) → (checked forms name ls o).next.session ≡ idle
unfolding checked outcome done when◌then◌else◌
finish_home forms name ls (some n) = refl
finish_home forms name ls none = either (has_room forms ls) (λ y. rw y) (λ n. rw n)

-- nothing of them is dropped
home_whole : (st : Session) → kept (way_home st) ≡ way_home st
unfolding ran way_home
home_whole idle = refl
home_whole (collecting name ls) = refl
home_whole spoiled = refl
home_whole (opened ls) = refl
home_whole (answering ls given) = refl
home_whole (ready ls given) = refl
home_whole (printing ls given n c i) = refl

-- no state is stuck: from every one a single line leads to Idle
pub leads_home : (width room : ℕ) (b : Bench) → (hear width room b (way_home b.session)).next.session ≡ idle
unfolding hear heard obeyed way_home in_idle in_collecting in_spoiled in_opened in_ready in_printing in_answering on_finish outcome done refuse after_refusal long control any when◌then◌else◌
leads_home width room b = rw (home_whole b.session) (from b.session)
  where
    from : (st : Session) → (heard width room b.forms st (way_home st)).next.session ≡ idle
    from idle = rw (read_new width)
    from (collecting name ls) = rw (read_finish width) (finish_home b.forms name ls (unsound_at ls))
    from spoiled = rw (read_finish width)
    from (opened ls) = rw (read_new width)
    from (answering ls given) = refl
    from (ready ls given) = rw (read_new width)
    from (printing ls given n c i) = rw (read_new width)
