-- What memory holds is a function of the paper's state and of the number of the form that a session holds open: behind the used bytes
-- all is 0.
use Rattle.std.specs.Prelude.{ℕ, zero, suc, ◌+◌, ◌≡◌, List, [], ◌∷◌, ◌++◌, length, replicate}
use Rattle.paper.specs.Byte.{when◌then◌else◌, same}
use Rattle.paper.specs.Command as C
use Rattle.paper.specs.Command.{FormLine}
use Rattle.paper.specs.Form.{Form, text_of, asked}
use Rattle.paper.specs.Bench as P
use Rattle.text.specs.Write.{padded}
use Rattle.form.specs.Plan.{plan_of}
use Rattle.store.specs.Packed.{Store, Entry, entry, packed}
use Rattle.store.specs.Lent.{store_of}
use Rattle.store.specs.declared.Filed.{Filed}
use Rattle.set.specs.Answers.{answers_text, values_in}
use Rattle.session.specs.declared.name.Name.{Name}
use Rattle.session.specs.declared.state.Mode.{Mode}
use Rattle.session.specs.declared.state.Mode.TheVariants as M
use Rattle.session.specs.declared.state.Held.{Held}
use Rattle.session.specs.declared.state.Session.{Session as Lent}

-- a session in memory: its numbers; the draft's name and text; the answers and what they are worth
pub record Session : Type 0 where
  pub held : Held
  pub name : List ℕ
  pub text : List ℕ
  pub answers : List ℕ
  pub values : List ℕ

-- the session that the numbers and the slices are
abbrev pub session_of : Held → (name text answers values : List ℕ) → Session
session_of held name text answers values = record { held = held; name = name; text = text; answers = answers; values = values }

-- the session that lent slices are
abbrev pub lent : Lent → Session
lent l = session_of l.held l.name.now l.text.now l.answers.now l.values.now

-- the slices are the same
pub record SameLoan (l m : Lent) : Type 0 where
  pub name : l.name.ghost_name ≡ m.name.ghost_name
  pub text : l.text.ghost_name ≡ m.text.ghost_name
  pub answers : l.answers.ghost_name ≡ m.answers.ghost_name
  pub values : l.values.ghost_name ≡ m.values.ghost_name

-- a name of at most sixteen bytes
unfoldable pub named : List ℕ → Name
named name = record { bytes = padded 16 name; len = length name }

-- the numbers of a session that holds a draft, and no form open
unfoldable pub drafts : Mode → (len drafted : ℕ) → Held
drafts mode len drafted = record { mode = mode; form = 0; start = 0; size = 0; len = len; drafted = drafted; given = 0 }

-- such a session
unfoldable pub drafting : Mode → (name text : List ℕ) → Session
drafting mode name text =
    record {
      held = drafts mode (length name) (length text);
      name = padded 16 name;
      text = padded 1024 text;
      answers = padded 1700 [];
      values = replicate 104 0;
    }

-- where the text of a form begins in the store: behind those of the forms before it
unfoldable pub place_of : List Form → ℕ → ℕ
place_of [] n = 0
place_of (f ∷ fs) zero = 0
place_of (f ∷ fs) (suc n) = length (text_of f.lines) + place_of fs n

-- the numbers of a session that holds form n open, with so many bytes of answers
unfoldable pub holds : Mode → List Form → ℕ → List FormLine → ℕ → Held
holds mode fs n ls given =
    record { mode = mode; form = n; start = place_of fs n; size = length (text_of ls); len = 0; drafted = 0; given = given }

-- such a session, with answers to the form's first definitions
unfoldable pub holding : Mode → List Form → ℕ → List FormLine → List (List ℕ) → Session
holding mode fs n ls given =
    record {
      held = holds mode fs n ls (length (answers_text given));
      name = padded 16 [];
      text = padded 1024 [];
      answers = padded 1700 (answers_text given);
      values = values_in (asked ls) given;
    }

-- the memory of each of the paper's states
unfoldable pub packed_session : List Form → ℕ → P.Session → Session
packed_session fs n P.idle = drafting M.Idle [] []
packed_session fs n (P.collecting name ls) = drafting (M.Collecting (length ls)) name (text_of ls)
packed_session fs n P.spoiled = drafting M.Spoiled [] []
packed_session fs n (P.opened ls) = holding M.Opened fs n ls []
packed_session fs n (P.answering ls given) = holding (M.Answering (length given)) fs n ls given
packed_session fs n (P.ready ls given) = holding M.Ready fs n ls given
packed_session fs n (P.printing ls given k c i) = holding (M.Printing k c i) fs n ls given

-- the stored forms in memory: the store, and beside it the plan of each
pub record Shelf : Type 0 where
  pub store : Store
  pub plans : List ℕ

-- the shelf that the numbers and the slices are
abbrev pub shelf_of : Filed → (all names texts lens plans : List ℕ) → Shelf
shelf_of filed all names texts lens plans = record { store = store_of filed all names texts lens; plans = plans }

-- the forms as the store holds them
unfoldable pub entries_of : List Form → List Entry
entries_of [] = []
entries_of (f ∷ fs) = entry f.name (text_of f.lines) ∷ entries_of fs

-- their plans, one behind the other
unfoldable pub plans_of : List Form → List ℕ
plans_of [] = []
plans_of (f ∷ fs) = plan_of f.lines ++ plans_of fs

-- the shelf of some forms; a plan has 232 numbers
unfoldable pub packed_shelf : List Form → Shelf
packed_shelf fs = record { store = packed (entries_of fs); plans = padded 1856 (plans_of fs) }

-- form n has these lines
abbrev pub Lies : List Form → ℕ → List FormLine → Type 0
Lies [] n ls = ⊥
Lies (f ∷ fs) zero ls = f.lines ≡ ls
Lies (f ∷ fs) (suc n) ls = Lies fs n ls

-- where a session holds lines open, they are those of form n
abbrev pub Opens : List Form → ℕ → P.Session → Type 0
Opens fs n P.idle = Unit
Opens fs n (P.collecting name ls) = Unit
Opens fs n P.spoiled = Unit
Opens fs n (P.opened ls) = Lies fs n ls
Opens fs n (P.answering ls given) = Lies fs n ls
Opens fs n (P.ready ls given) = Lies fs n ls
Opens fs n (P.printing ls given k c i) = Lies fs n ls

-- the number of the form of a name, or how many there are
unfoldable pub number_of : List ℕ → List Form → ℕ
number_of name [] = 0
number_of name (f ∷ fs) = when same name f.name then 0 else suc (number_of name fs)

-- one number in Idle, and another in every other state
unfoldable pub if_idle : P.Session → ℕ → ℕ → ℕ
if_idle P.idle a b = a
if_idle (P.collecting name ls) a b = b
if_idle P.spoiled a b = b
if_idle (P.opened ls) a b = b
if_idle (P.answering ls given) a b = b
if_idle (P.ready ls given) a b = b
if_idle (P.printing ls given k c i) a b = b

-- the form that is held open behind a command: in Idle the one that `FR` names, and else the same. Where none is held the number is not
-- looked at
unfoldable pub after_filing : ℕ → List Form → P.Session → C.Filing → ℕ
after_filing n fs st (C.start name) = n
after_filing n fs st C.finish = n
after_filing n fs st C.inform = n
after_filing n fs st (C.recall name) = if_idle st (number_of name fs) n
after_filing n fs st (C.delete name) = n

unfoldable pub after_command : ℕ → List Form → P.Session → C.Command → ℕ
after_command n fs st C.empty = n
after_command n fs st C.new = n
after_command n fs st (C.keep line) = n
after_command n fs st (C.file filing) = after_filing n fs st filing
after_command n fs st C.ask = n
after_command n fs st (C.print k c) = n
