-- What a tablet of a class sends and gets while it holds a form open, and how an order stands in it.
use Rattle.std.specs.Prelude.{ℕ, zero, suc, ◌-◌, ◌≤◌, Bool, true, false, List, [], ◌∷◌, ◌++◌, map, eqb, ◌≡◌}
use Rattle.paper.specs.Byte.{Option, none, some, when◌then◌else◌}
use Rattle.paper.specs.Line.{kept}
use Rattle.paper.specs.Command.{Define, FormLine, Command, ask, print}
use Rattle.paper.specs.Refusal.{Answer, accepted, refused}
use Rattle.paper.specs.Read.{command, read}
use Rattle.paper.specs.Form.{asked}
use Rattle.paper.specs.Bench.{Session, idle, collecting, spoiled, opened, answering, ready, printing, Bench, Outcome, heard}
use Rattle.paper.specs.Program.{enough}
use Rattle.paper.specs.Calls.{Call, line, taking, called, sets_from}
use Rattle.paper.specs.Class.{Class, Reply, Request, sends, fetches, reply_to, prints, holds_form}

-- a call as the bench of 01 knows it
unfoldable pub call_of : Request → Call
call_of (sends t room s) = line room s
call_of (fetches room) = taking room

-- such a call made by a tablet
unfoldable pub request_of : ℕ → Call → Request
request_of t (line room s) = sends t room s
request_of t (taking room) = fetches room

-- a call and its answer
pub record Entry : Type 0 where
  pub call : Call
  pub answer : Answer

-- a reply is for this tablet
unfoldable pub is_for : ℕ → Option ℕ → Bool
is_for t none = false
is_for t (some u) = eqb t u

-- a tablet's diary of some calls: its lines and the takes that come to it, until it holds no form open any more
unfoldable pub diary : (width t : ℕ) → Class → List Request → List Entry
diary width t c [] = []
diary width t c (q ∷ qs) =
    let r : Reply = reply_to width c q in
    let later : List Entry = diary width t r.next qs in
    when holds_form (c.tablet t).session then
    (when is_for t r.whose then (record { call = call_of q; answer = r.answer } ∷ later) else later)
    else []

-- its lines, without what is dropped of them
unfoldable pub lines_in : List Entry → List (List ℕ)
lines_in [] = []
lines_in (e ∷ es) = elim e.call [ line room s ↦ kept s ∷ lines_in es | taking room ↦ lines_in es ]

-- the answers to them
unfoldable pub answers_in : List Entry → List Answer
answers_in [] = []
answers_in (e ∷ es) = elim e.call [ line room s ↦ e.answer ∷ answers_in es | taking room ↦ answers_in es ]

-- the set of a call
unfoldable pub set_of_call : Call → Answer → List (List ℕ)
set_of_call (line room s) answer = []
set_of_call (taking room) (accepted bytes) = bytes ∷ []
set_of_call (taking room) (refused r) = []

-- the sets that it gets
unfoldable pub sets_in : List Entry → List (List ℕ)
sets_in [] = []
sets_in (e ∷ es) = set_of_call e.call e.answer ++ sets_in es

-- a bench of 01 with nothing stored
unfoldable pub bare : Session → Bench
bare st = record { forms = []; session = st }

-- the state after a call on it; a session that holds a form open does not look at what is stored
unfoldable pub led : ℕ → Session → Call → Session
led width st x = (called width (bare st) x).next.session

-- what a session that holds a form open answers to lines, no set being taken
unfoldable pub answers_alone : ℕ → Session → List (List ℕ) → List Answer
answers_alone width st [] = []
answers_alone width st (s ∷ ss) =
    let o : Outcome = heard width 0 [] st s in
    o.answer ∷ answers_alone width o.next.session ss

-- the sets still to be taken from a session
unfoldable pub sets_due : Session → List (List ℕ)
sets_due idle = []
sets_due (collecting name ls) = []
sets_due spoiled = []
sets_due (opened ls) = []
sets_due (answering ls answers) = []
sets_due (ready ls answers) = []
sets_due (printing ls answers n c i) = sets_from ls answers c i (n - i)

-- the sets that lines order: those up to `P` lead to them, and later ones add none
unfoldable pub ordered : ℕ → Session → List (List ℕ) → List (List ℕ)
ordered width st [] = sets_due st
ordered width st (s ∷ ss) = when prints st then sets_due st else ordered width (heard width 0 [] st s).next.session ss

-- what an order needs of a tablet: a command in any spelling, an answer, a take with room for every set
pub data Need : Type 0 where
  command_of : Command → Need
  answer_of : List ℕ → Need
  set_needed : Need

-- a call meets a need, whatever of its line is dropped
abbrev pub Meets : ℕ → Need → Call → Type 0
Meets width (command_of c) (line room s) = read width (kept s) ≡ command c
Meets width (command_of c) (taking room) = ⊥
Meets width (answer_of a) (line room s) = kept s ≡ a
Meets width (answer_of a) (taking room) = ⊥
Meets width set_needed (line room s) = ⊥
Meets width set_needed (taking room) = enough ≤ room

-- a diary does what is needed, in order; beside it there may be any call that leaves the session as it was: an empty line, a
-- line refused where a refusal changes nothing, a take with too short a buffer
pub data Does (width : ℕ) : Session → List Need → List Entry → Type 0 where
  ends : {st : Session} → Does width st [] []
  aside : {st : Session} {ns : List Need} {es : List Entry} (e : Entry) → led width st e.call ≡ st → Does width st ns es → Does width st ns (e ∷ es)
  meets : {st : Session} {n : Need} {ns : List Need} {es : List Entry} (e : Entry) → Meets width n e.call → Does width (led width st e.call) ns es → Does width st (n ∷ ns) (e ∷ es)

-- an answer accepts
unfoldable pub accepts : Answer → Bool
accepts (accepted bytes) = true
accepts (refused r) = false

-- every call that met a need was accepted
abbrev pub AllAccepted : {width : ℕ} {st : Session} {ns : List Need} {es : List Entry} → Does width st ns es → Type 0
AllAccepted ends = Unit
AllAccepted (aside e p more) = AllAccepted more
AllAccepted (meets e p more) = (accepts e.answer ≡ true) × AllAccepted more

-- so many takes
unfoldable pub sets_needed : ℕ → List Need
sets_needed zero = []
sets_needed (suc n) = set_needed ∷ sets_needed n

-- `?` where the form has definitions
unfoldable pub ask_needed : List Define → List Need
ask_needed [] = []
ask_needed (d ∷ ds) = command_of ask ∷ []

-- an order after its `FR`
unfoldable pub needs : List FormLine → List (List ℕ) → (n c : ℕ) → List Need
needs ls given n c = ask_needed (asked ls) ++ (map answer_of given ++ (command_of (print n c) ∷ sets_needed n))
