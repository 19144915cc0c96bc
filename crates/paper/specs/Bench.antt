-- 'The states': what every line does in every state, and every take.
use Rattle.std.specs.Prelude.{ℕ, suc, ◌-◌, List, [], ◌∷◌, ◌++◌, length, drop, leb, eqb}
use Rattle.paper.specs.Byte.{Option, none, some, when◌then◌else◌, same}
use Rattle.paper.specs.Line.{kept, long, control}
use Rattle.paper.specs.Command.{Define, FormLine, Filing, start, finish, inform, recall, delete, Command, empty, new, keep, file, ask, print, star}
use Rattle.paper.specs.Refusal.{Refusal, too_long, control_byte, not_now, overfull, is_spoiled, unsound, name_taken, no_room, absent, unfit, overrun, too_short, not_printing, Answer, accepted, refused}
use Rattle.paper.specs.Read.{Reading, command, unread, read}
use Rattle.paper.specs.Form.{Form, within_limits, asked, is_some, unsound_at, find, without, has_room, stored, listing}
use Rattle.paper.specs.Set.{fits, all_hold, set_of}

-- the states; a spoiled form is a state of its own, and printing counts the sets that are out
pub data Session : Type 0 where
  idle : Session
  collecting : (name : List ℕ) (lines : List FormLine) → Session
  spoiled : Session
  opened : (lines : List FormLine) → Session
  answering : (lines : List FormLine) (answers : List (List ℕ)) → Session
  ready : (lines : List FormLine) (answers : List (List ℕ)) → Session
  printing : (lines : List FormLine) (answers : List (List ℕ)) (sets copies out : ℕ) → Session

-- a bench: the stored forms, and a session apart from them
pub record Bench : Type 0 where
  pub forms : List Form
  pub session : Session

-- a bench starts Idle with an empty store
unfoldable pub begin : Bench
begin = record { forms = []; session = idle }

-- what a call gives: its answer, and the bench that it leaves
pub record Outcome : Type 0 where
  pub answer : Answer
  pub next : Bench

-- an answer, and the store and the session that it leaves
unfoldable pub outcome : Answer → List Form → Session → Outcome
outcome answer forms session = record { answer = answer; next = record { forms = forms; session = session } }

-- accepted with nothing to write
unfoldable pub done : List Form → Session → Outcome
done = outcome (accepted [])

-- accepted with bytes to write, where the lent buffer has the room; refused by 15 otherwise, the state staying
unfoldable pub replied : (room : ℕ) → List ℕ → List Form → (stay go : Session) → Outcome
replied room bytes forms stay go =
    when leb (length bytes) room then outcome (accepted bytes) forms go else outcome (refused too_short) forms stay

-- what a refused line leaves: in Collecting the form is spoiled, in Answering the bench is Idle, else the state stays
unfoldable pub after_refusal : Session → Session
after_refusal idle = idle
after_refusal (collecting name ls) = spoiled
after_refusal spoiled = spoiled
after_refusal (opened ls) = opened ls
after_refusal (answering ls answers) = idle
after_refusal (ready ls answers) = ready ls answers
after_refusal (printing ls answers n c i) = printing ls answers n c i

-- a refused line
unfoldable pub refuse : Refusal → List Form → Session → Outcome
refuse r forms session = outcome (refused r) forms (after_refusal session)

-- `FR` opens a form; one with no C or V line is Ready at once
unfoldable pub opened_with : List FormLine → List Define → Session
opened_with ls [] = ready ls []
opened_with ls (d ∷ ds) = opened ls

-- `FR` of an absent name is 12
unfoldable pub recalled : List Form → Option (List FormLine) → Outcome
recalled forms none = refuse absent forms idle
recalled forms (some ls) = done forms (opened_with ls (asked ls))

-- `FK` of an absent name is accepted and deletes nothing; the star deletes every form
unfoldable pub deleted : List ℕ → List Form → List Form
deleted name forms = when same name star then [] else without name forms

-- the lines to the store in Idle
unfoldable pub filed : ℕ → List Form → Filing → Outcome
filed room forms (start name) =
    when is_some (find name forms) then refuse name_taken forms idle else done forms (collecting name [])
filed room forms finish = refuse not_now forms idle
filed room forms inform = replied room (listing forms) forms idle idle
filed room forms (recall name) = recalled forms (find name forms)
filed room forms (delete name) = done (deleted name forms) idle

-- Idle
unfoldable pub in_idle : ℕ → List Form → Command → Outcome
in_idle room forms empty = done forms idle
in_idle room forms new = done forms idle
in_idle room forms (keep line) = refuse not_now forms idle
in_idle room forms (file filing) = filed room forms filing
in_idle room forms ask = refuse not_now forms idle
in_idle room forms (print n c) = refuse not_now forms idle

-- `FE` checks and stores; 9 and 11 go to Idle with nothing stored
unfoldable pub checked : List Form → List ℕ → List FormLine → Option ℕ → Outcome
checked forms name ls (some n) = outcome (refused (unsound n)) forms idle
checked forms name ls none =
    when has_room forms ls then done (stored forms name ls) idle else outcome (refused no_room) forms idle

-- a line that is kept, unless the form would exceed its limits
unfoldable pub collected : List Form → List ℕ → List FormLine → FormLine → Outcome
collected forms name ls line =
    when within_limits (ls ++ (line ∷ [])) then
    done forms (collecting name (ls ++ (line ∷ [])))
    else refuse overfull forms (collecting name ls)

-- `FE` does one thing, the other lines to the store another
unfoldable pub on_finish : Filing → Outcome → Outcome → Outcome
on_finish (start name) yes' no' = no'
on_finish finish yes' no' = yes'
on_finish inform yes' no' = no'
on_finish (recall name) yes' no' = no'
on_finish (delete name) yes' no' = no'

-- Collecting
unfoldable pub in_collecting : List Form → List ℕ → List FormLine → Command → Outcome
in_collecting forms name ls empty = done forms (collecting name ls)
in_collecting forms name ls new = refuse not_now forms (collecting name ls)
in_collecting forms name ls (keep line) = collected forms name ls line
in_collecting forms name ls (file filing) =
    on_finish filing (checked forms name ls (unsound_at ls)) (refuse not_now forms (collecting name ls))
in_collecting forms name ls ask = refuse not_now forms (collecting name ls)
in_collecting forms name ls (print n c) = refuse not_now forms (collecting name ls)

-- Collecting a spoiled form: lines that could be kept are dropped, others are 3; `FE` is 8 and goes to Idle
unfoldable pub in_spoiled : List Form → Command → Outcome
in_spoiled forms empty = done forms spoiled
in_spoiled forms new = refuse not_now forms spoiled
in_spoiled forms (keep line) = done forms spoiled
in_spoiled forms (file filing) = on_finish filing (outcome (refused is_spoiled) forms idle) (refuse not_now forms spoiled)
in_spoiled forms ask = refuse not_now forms spoiled
in_spoiled forms (print n c) = refuse not_now forms spoiled

-- Open
unfoldable pub in_opened : List Form → List FormLine → Command → Outcome
in_opened forms ls empty = done forms (opened ls)
in_opened forms ls new = done forms idle
in_opened forms ls (keep line) = refuse not_now forms (opened ls)
in_opened forms ls (file filing) = refuse not_now forms (opened ls)
in_opened forms ls ask = done forms (answering ls [])
in_opened forms ls (print n c) = refuse not_now forms (opened ls)

-- Ready
unfoldable pub in_ready : List Form → List FormLine → List (List ℕ) → Command → Outcome
in_ready forms ls answers empty = done forms (ready ls answers)
in_ready forms ls answers new = done forms idle
in_ready forms ls answers (keep line) = refuse not_now forms (ready ls answers)
in_ready forms ls answers (file filing) = refuse not_now forms (ready ls answers)
in_ready forms ls answers ask = refuse not_now forms (ready ls answers)
in_ready forms ls answers (print n c) =
    when all_hold (n - 1) (asked ls) answers then done forms (printing ls answers n c 0) else refuse overrun forms (ready ls answers)

-- Printing
unfoldable pub in_printing : List Form → Session → Command → Outcome
in_printing forms session empty = done forms session
in_printing forms session new = done forms idle
in_printing forms session (keep line) = refuse not_now forms session
in_printing forms session (file filing) = refuse not_now forms session
in_printing forms session ask = refuse not_now forms session
in_printing forms session (print n c) = refuse not_now forms session

-- Answering: after the last answer Ready, else the next
unfoldable pub answered_of : List FormLine → List (List ℕ) → List Define → Session
answered_of ls answers [] = ready ls answers
answered_of ls answers (d ∷ ds) = answering ls answers

-- the line is the answer to the first definition that is left
unfoldable pub answered : List Form → List FormLine → List (List ℕ) → List ℕ → List Define → Outcome
answered forms ls answers s [] = done forms (ready ls answers)
answered forms ls answers s (d ∷ ds) =
    when fits d s then
    done forms (answered_of ls (answers ++ (s ∷ [])) ds)
    else refuse unfit forms (answering ls answers)

-- in Answering only 1, 2 and 13 apply
unfoldable pub in_answering : List Form → List FormLine → List (List ℕ) → List ℕ → Outcome
in_answering forms ls answers s =
    when long s then
    refuse too_long forms (answering ls answers)
    else
    when control s then
    refuse control_byte forms (answering ls answers)
    else answered forms ls answers s (drop (length answers) (asked ls))

-- a line that reads is obeyed, and one that does not is refused
unfoldable pub obeyed : List Form → Session → (Command → Outcome) → Reading → Outcome
obeyed forms session obey (command c) = obey c
obeyed forms session obey (unread r) = refuse r forms session

-- a line in each state
unfoldable pub heard : (width room : ℕ) → List Form → Session → List ℕ → Outcome
heard width room forms idle s = obeyed forms idle (in_idle room forms) (read width s)
heard width room forms (collecting name ls) s =
    obeyed forms (collecting name ls) (in_collecting forms name ls) (read width s)
heard width room forms spoiled s = obeyed forms spoiled (in_spoiled forms) (read width s)
heard width room forms (opened ls) s = obeyed forms (opened ls) (in_opened forms ls) (read width s)
heard width room forms (answering ls answers) s = in_answering forms ls answers s
heard width room forms (ready ls answers) s = obeyed forms (ready ls answers) (in_ready forms ls answers) (read width s)
heard width room forms (printing ls answers n c i) s =
    obeyed forms (printing ls answers n c i) (in_printing forms (printing ls answers n c i)) (read width s)

-- a line to a bench, with so much room in the lent reply buffer; CR and 1AH are dropped wherever they stand in it
unfoldable pub hear : (width room : ℕ) → Bench → List ℕ → Outcome
hear width room b s = heard width room b.forms b.session (kept s)

-- after the last set Idle, else the next
unfoldable pub after_set : List FormLine → List (List ℕ) → (n c i : ℕ) → Session
after_set ls answers n c i = when eqb (suc i) n then idle else printing ls answers n c (suc i)

-- a take in each state
unfoldable pub taken : (room : ℕ) → List Form → Session → Outcome
taken room forms idle = outcome (refused not_printing) forms idle
taken room forms (collecting name ls) = outcome (refused not_printing) forms (collecting name ls)
taken room forms spoiled = outcome (refused not_printing) forms spoiled
taken room forms (opened ls) = outcome (refused not_printing) forms (opened ls)
taken room forms (answering ls answers) = outcome (refused not_printing) forms (answering ls answers)
taken room forms (ready ls answers) = outcome (refused not_printing) forms (ready ls answers)
taken room forms (printing ls answers n c i) =
    replied room (set_of ls answers c i) forms (printing ls answers n c i) (after_set ls answers n c i)

-- a take of one set, with so much room in the lent set buffer
unfoldable pub take_set : (room : ℕ) → Bench → Outcome
take_set room b = taken room b.forms b.session
