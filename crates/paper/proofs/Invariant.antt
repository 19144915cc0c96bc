-- Every bench that lines and takes lead to is sane, and a refused call leaves the store as it was. The idea: one law for
-- each function of the states says both, over the command, which is in range because it was read.
use mathlib.Core.Path.{◌≡◌, refl, ap}
use mathlib.Core.Bool.{Bool, true, false}
use mathlib.Core.List.{List, [], ◌∷◌, ◌++◌}
use mathlib.Core.Option.{Option, none, some}
use Prim.Native.Nat.{ℕ, suc, ◌+◌, ◌-◌, ◌≤◌}
use native.Mathlib.Omega.{arith}
use native.Mathlib.Nat.{le_trans}
use lib.Dec.{leb, ltb, eqb}
use lib.ListN.{length, take, drop, length-append, length-drop}
use lib.Seq.{take_all}
use borrow.Author.Tests.{leb-true, ltb-true, eqb-false}
use Rattle.paper.specs.Byte.{when◌then◌else◌, same}
use Rattle.paper.specs.Line.{kept, long, control}
use Rattle.paper.specs.Command.{Define, FormLine, Filing, start, finish, inform, recall, delete, Command, empty, new, keep, file, ask, print, filing_ranges, ranges, in_range, is_name, star}
use Rattle.paper.specs.Refusal.{Refusal, too_long, control_byte, not_now, unknown, malformed, out_of_range, overfull, is_spoiled, unsound, name_taken, no_room, absent, unfit, overrun, too_short, not_printing, others_collect, no_tablet, held_open, accepted, refused}
use Rattle.paper.specs.Read.{Shape, shaped, strange, broken, shape, Reading, command, unread, judged, read}
use Rattle.paper.specs.Write.{lines_text}
use Rattle.paper.specs.Form.{Form, text_of, within_limits, asked, is_some, unsound_at, find, used, has_room, stored}
use Rattle.paper.specs.Set.{fits, all_hold}
use Rattle.paper.specs.Bench.{Session, idle, collecting, spoiled, opened, answering, ready, printing, Bench, begin, Outcome, outcome, done, replied, after_refusal, refuse, opened_with, recalled, deleted, filed, in_idle, checked, collected, on_finish, in_collecting, in_spoiled, in_opened, in_ready, in_printing, answered_of, answered, in_answering, obeyed, heard, hear, after_set, taken, take_set}
use Rattle.paper.specs.State.{Led, begun, hearing, taking, all_in, Storable, fitting, Stored, Draft, Sound, Sane}
use Rattle.paper.proofs.Law.{by_test, and_left, and_right, and_both}
use Rattle.paper.proofs.Test.{clash, held}
use Rattle.paper.proofs.Store.{used_without, length_without, find_storable, stored_without, stored_behind, stored_with}

-- lines in range, and one more
in_more : (width : ℕ) (ls : List FormLine) (l : FormLine) → all_in width ls ≡ true → in_range width (keep l) ≡ true → all_in width (ls ++ (l ∷ [])) ≡ true
unfolding all_in
in_more width [] l e h = and_both _ _ h refl
in_more width (k ∷ ls) l e h =
    let first = in_range width (keep k) in
    and_both first _ (and_left first _ e) (in_more width ls l (and_right first _ e) h)

-- answers that fit the first definitions, and one more that fits the next
pub fitting_more : (ds : List Define) (given : List (List ℕ)) (d : Define) (rest : List Define) (a : List ℕ) → drop (length given) ds ≡ d ∷ rest → fitting (take (length given) ds) given ≡ true → fits d a ≡ true → (fitting (take (length (given ++ (a ∷ []))) ds) (given ++ (a ∷ [])) ≡ true) × (length ds ≡ length (given ++ (a ∷ [])) + length rest)
unfolding fitting
fitting_more [] [] d rest a e f h = (cc, cc)
fitting_more [] (x ∷ xs) d rest a e f h = (f, cc)
fitting_more (k ∷ ds) [] d rest a e f h =
    let one : k ≡ d = cc in
    let others : ds ≡ rest = cc in
    (and_both (fits k a) true (rw one h) refl, rw others (omega arith))
fitting_more (k ∷ ds) (x ∷ xs) d rest a e f h =
    let more = fitting_more ds xs d rest a e (and_right (fits k x) _ f) h in
    let count = more.1 in
    (and_both _ _ (and_left (fits k x) _ f) more.0, omega arith)

-- the bytes of forms and one more
used_more : (fs : List Form) (name : List ℕ) (ls : List FormLine) → used (stored fs name ls) ≡ used fs + length (text_of ls)
unfolding used stored
used_more [] name ls = omega arith
used_more (f ∷ fs) name ls = let rest = used_more fs name ls in omega arith

-- the ranges of `P`
pub print_in : (width n c : ℕ) → in_range width (print n c) ≡ true → (1 ≤ n) × (n ≤ 65535) × (1 ≤ c) × (c ≤ 65535)
unfolding in_range ranges
print_in width n c e =
    let each = held _ e in
    (leb-true _ _ each.0.0, leb-true _ _ each.0.1.0, leb-true _ _ each.1.0.0, leb-true _ _ each.1.0.1.0)

-- the ranges of `FS`
start_in : (width : ℕ) (name : List ℕ) → in_range width (file (start name)) ≡ true → is_name name ≡ true
unfolding in_range ranges filing_ranges
start_in width name e = (held ((is_name name ∷ []) ∷ []) e).0.0

-- what is not there is none
pub not_some : {A : Type 0} (o : Option A) → is_some o ≡ false → o ≡ none
unfolding is_some
not_some none e = refl
not_some (some a) e = clash refl e

-- a draft begins with no lines
draft_begins : (width : ℕ) (fs : List Form) (name : List ℕ) → is_name name ≡ true → find name fs ≡ none → Draft width fs name []
unfolding all_in within_limits text_of lines_text
draft_begins width fs name named free = record { named = named; free = free; inside = refl; limits = refl }

-- a store with one form more
stores : (width : ℕ) (fs : List Form) (name : List ℕ) (ls : List FormLine) → Stored width fs → Draft width fs name ls → unsound_at ls ≡ none → has_room fs ls ≡ true → Stored width (stored fs name ls)
unfolding has_room
stores width fs name ls kept draft sound roomy =
    let place = ltb-true (length fs) 8 (and_left _ _ roomy) in
    let bytes = leb-true (length (text_of ls)) (4096 - used fs) (and_right (ltb (length fs) 8) _ roomy) in
    let full = kept.room in
    let form : Storable width ls = record { inside = draft.inside; limits = draft.limits; sound = sound } in
    record {
      each = stored_with width fs name ls kept.each draft.named draft.free form;
      few = rw (stored_behind fs name ls, length-append) (omega arith);
      room = rw (used_more fs name ls) (omega arith);
    }

-- a store with fewer forms
deletes : (width : ℕ) (fs : List Form) (name : List ℕ) → Stored width fs → Stored width (deleted name fs)
unfolding deleted used
deletes width fs name kept =
    by_test (Stored width) (same name star) _ _
    (λ y. record { each = tt; few = omega arith; room = omega arith })
    (λ n. record {
      each = stored_without width name fs kept.each;
      few = le_trans (length_without name fs) kept.few;
      room = le_trans (used_without name fs) kept.room;
    })

-- a refusal that ends a form: 8, 9 and 11
unfoldable pub ends_form : Refusal → Bool
ends_form too_long = false
ends_form control_byte = false
ends_form not_now = false
ends_form unknown = false
ends_form malformed = false
ends_form out_of_range = false
ends_form overfull = false
ends_form is_spoiled = true
ends_form (unsound line) = true
ends_form name_taken = false
ends_form no_room = true
ends_form absent = false
ends_form unfit = false
ends_form overrun = false
ends_form too_short = false
ends_form not_printing = false
ends_form others_collect = false
ends_form no_tablet = false
ends_form held_open = false

-- what a refused line leaves of a session
unfoldable pub left_by : Session → Refusal → Session
left_by session r = when ends_form r then idle else after_refusal session

-- what reading a line tells: a command is in range, and a refusal ends no form
abbrev Told : ℕ → Reading → Type 0
Told width (command c) = in_range width c ≡ true
Told width (unread r) = ends_form r ≡ false

-- so it is with a shape
judged_told : (width : ℕ) (sh : Shape) → Told width (judged width sh)
unfolding judged ends_form
judged_told width (shaped c) = by_test (Told width) (in_range width c) _ _ (λ y. y) (λ n. refl)
judged_told width strange = refl
judged_told width broken = refl

-- and with a line
read_told : (width : ℕ) (s : List ℕ) → Told width (read width s)
unfolding read ends_form
read_told width s =
    by_test (Told width) (long s) _ _
    (λ y. refl)
    (λ n. by_test (Told width) (control s) _ _ (λ y. refl) (λ n. judged_told width (shape s)))

-- what a call gives to a bench of some forms and some session: a sane bench of a sane one, and if it refuses the same
-- forms beside the session that this refusal leaves
record Good (width : ℕ) (fs : List Form) (old : Session) (left : Refusal → Session) (o : Outcome) : Type 0 where
  sane : Stored width fs → Sound width fs old → Sane width o.next
  firm : (r : Refusal) → o.answer ≡ refused r → o.next ≡ record { forms = fs; session = left r }

-- what a line gives
abbrev Line : ℕ → List Form → Session → Outcome → Type 0
Line width fs old o = Good width fs old (left_by old) o

module _ (width room : ℕ) (fs : List Form) where
  -- accepted, beside another store
  changes : {old : Session} {left : Refusal → Session} (bytes : List ℕ) (gs : List Form) (next : Session) → (Stored width fs → Sound width fs old → Stored width gs) → (Stored width fs → Sound width fs old → Sound width gs next) → Good width fs old left (outcome (accepted bytes) gs next)
  unfolding outcome
  changes bytes gs next forms' session' =
      record { sane = λ k g. record { forms = forms' k g; session = session' k g }; firm = λ r e. cc }

  -- accepted, with the same store
  accepts : {old : Session} {left : Refusal → Session} (bytes : List ℕ) (next : Session) → (Stored width fs → Sound width fs old → Sound width fs next) → Good width fs old left (outcome (accepted bytes) fs next)
  accepts bytes next session' = changes bytes fs next (λ k g. k) session'

  -- refused
  refuses : {old : Session} {left : Refusal → Session} (r : Refusal) (next : Session) → left r ≡ next → (Sound width fs old → Sound width fs next) → Good width fs old left (outcome (refused r) fs next)
  unfolding outcome
  refuses r next is session' =
      record { sane = λ k g. record { forms = k; session = session' g }; firm = λ p e. let one : r ≡ p = cc in rw (← is, one) }

  -- accepted with bytes that fit the room, else refused with the state as it was
  replies : {old : Session} {left : Refusal → Session} (bytes : List ℕ) (next : Session) → left too_short ≡ old → (Stored width fs → Sound width fs old → Sound width fs next) → Good width fs old left (replied room bytes fs old next)
  unfolding replied
  replies {old} {left} bytes next stays session' =
      by_test (Good width fs old left) (leb (length bytes) room) _ _ (λ y. accepts _ _ session') (λ n. refuses _ _ stays (λ g. g))

  -- less is asked of a session after a refusal
  after_sound : (old : Session) → Sound width fs old → Sound width fs (after_refusal old)
  unfolding after_refusal
  after_sound idle g = g
  after_sound (collecting name ls) g = tt
  after_sound spoiled g = g
  after_sound (opened ls) g = g
  after_sound (answering ls answers) g = tt
  after_sound (ready ls answers) g = g
  after_sound (printing ls answers n c i) g = g

  -- a refused line that ends no form
  turns : (r : Refusal) (old : Session) → ends_form r ≡ false → Line width fs old (refuse r fs old)
  unfolding refuse left_by when◌then◌else◌
  turns r old e = refuses r (after_refusal old) (rw e) (after_sound old)

  -- a line that this state refuses
  not_now_sound : (old : Session) → Line width fs old (refuse not_now fs old)
  unfolding ends_form
  not_now_sound old = turns not_now old refl

  -- a form that may be held is opened soundly
  opens : (ls : List FormLine) (ds : List Define) → asked ls ≡ ds → Storable width ls → Sound width fs (opened_with ls ds)
  unfolding opened_with fitting
  opens ls [] e good = (good, rw e)
  opens ls (d ∷ ds) e good = (good, rw e (omega arith))

  -- `FR`
  recalls : (name : List ℕ) (o : Option (List FormLine)) → find name fs ≡ o → Line width fs idle (recalled fs o)
  unfolding recalled done ends_form
  recalls name none e = turns absent idle refl
  recalls name (some ls) e =
      accepts _ _ (λ k g. opens ls (asked ls) refl (find_storable width name fs ls k.each e))

  -- `FE`
  checks : (name : List ℕ) (ls : List FormLine) (o : Option ℕ) → unsound_at ls ≡ o → Line width fs (collecting name ls) (checked fs name ls o)
  unfolding checked done left_by ends_form when◌then◌else◌
  checks name ls (some n) e = refuses _ _ refl (λ g. tt)
  checks name ls none e =
      by_test (Line width fs (collecting name ls)) (has_room fs ls) _ _
      (λ y. changes _ _ _ (λ k g. stores width fs name ls k g e y) (λ k g. tt))
      (λ n. refuses _ _ refl (λ g. tt))

  -- the lines to the store, in Idle
  files : (f : Filing) → in_range width (file f) ≡ true → Line width fs idle (filed room fs f)
  unfolding filed done left_by ends_form after_refusal when◌then◌else◌
  files (start name) e =
      by_test (Line width fs idle) (is_some (find name fs)) _ _
      (λ y. turns name_taken idle refl)
      (λ n. accepts _ _ (λ k g. draft_begins width fs name (start_in width name e) (not_some (find name fs) n)))
  files finish e = not_now_sound idle
  files inform e = replies _ _ refl (λ k g. g)
  files (recall name) e = recalls name (find name fs) refl
  files (delete name) e = changes _ _ _ (λ k g. deletes width fs name k) (λ k g. g)

  -- Idle
  idle_good : (c : Command) → in_range width c ≡ true → Line width fs idle (in_idle room fs c)
  unfolding in_idle done
  idle_good empty e = accepts _ _ (λ k g. g)
  idle_good new e = accepts _ _ (λ k g. g)
  idle_good (keep line) e = not_now_sound idle
  idle_good (file f) e = files f e
  idle_good ask e = not_now_sound idle
  idle_good (print n c) e = not_now_sound idle

  -- `FE` or another line to the store
  finishes : {old : Session} (f : Filing) (a b : Outcome) → Line width fs old a → Line width fs old b → Line width fs old (on_finish f a b)
  unfolding on_finish
  finishes (start name) a b yes' no' = no'
  finishes finish a b yes' no' = yes'
  finishes inform a b yes' no' = no'
  finishes (recall name) a b yes' no' = no'
  finishes (delete name) a b yes' no' = no'

  -- a line that a form may hold, in Collecting
  collects : (name : List ℕ) (ls : List FormLine) (l : FormLine) → in_range width (keep l) ≡ true → Line width fs (collecting name ls) (collected fs name ls l)
  unfolding collected done ends_form
  collects name ls l e =
      by_test (Line width fs (collecting name ls)) (within_limits (ls ++ (l ∷ []))) _ _
      (λ y. accepts _ _ (λ k g. record { named = g.named; free = g.free; inside = in_more width ls l g.inside e; limits = y }))
      (λ n. turns overfull (collecting name ls) refl)

  -- Collecting
  collecting_good : (name : List ℕ) (ls : List FormLine) (c : Command) → in_range width c ≡ true → Line width fs (collecting name ls) (in_collecting fs name ls c)
  unfolding in_collecting done
  collecting_good name ls empty e = accepts _ _ (λ k g. g)
  collecting_good name ls new e = not_now_sound (collecting name ls)
  collecting_good name ls (keep line) e = collects name ls line e
  collecting_good name ls (file f) e = finishes f _ _ (checks name ls (unsound_at ls) refl) (not_now_sound (collecting name ls))
  collecting_good name ls ask e = not_now_sound (collecting name ls)
  collecting_good name ls (print n c) e = not_now_sound (collecting name ls)

  -- Collecting a spoiled form
  spoiled_good : (c : Command) → Line width fs spoiled (in_spoiled fs c)
  unfolding in_spoiled done left_by ends_form when◌then◌else◌
  spoiled_good empty = accepts _ _ (λ k g. g)
  spoiled_good new = not_now_sound spoiled
  spoiled_good (keep line) = accepts _ _ (λ k g. g)
  spoiled_good (file f) = finishes f _ _ (refuses _ _ refl (λ g. tt)) (not_now_sound spoiled)
  spoiled_good ask = not_now_sound spoiled
  spoiled_good (print n c) = not_now_sound spoiled

  -- Open
  opened_good : (ls : List FormLine) (c : Command) → Line width fs (opened ls) (in_opened fs ls c)
  unfolding in_opened done fitting
  opened_good ls empty = accepts _ _ (λ k g. g)
  opened_good ls new = accepts _ _ (λ k g. tt)
  opened_good ls (keep line) = not_now_sound (opened ls)
  opened_good ls (file f) = not_now_sound (opened ls)
  opened_good ls ask = accepts _ _ (λ k g. (g.0, g.1, refl))
  opened_good ls (print n c) = not_now_sound (opened ls)

  -- `P`, in Ready
  prints : (ls : List FormLine) (answers : List (List ℕ)) (n c : ℕ) → in_range width (print n c) ≡ true → Line width fs (ready ls answers) (in_ready fs ls answers (print n c))
  unfolding in_ready done ends_form
  prints ls answers n c e =
      let counts = print_in width n c e in
      by_test (Line width fs (ready ls answers)) (all_hold (n - 1) (asked ls) answers) _ _
      (λ y. accepts _ _ (λ k g. (g.0, g.1, record { holding = y; counted = counts.1; some_copies = counts.2; copied = counts.3; left = counts.0 })))
      (λ n. turns overrun (ready ls answers) refl)

  -- Ready
  ready_good : (ls : List FormLine) (answers : List (List ℕ)) (c : Command) → in_range width c ≡ true → Line width fs (ready ls answers) (in_ready fs ls answers c)
  unfolding in_ready done
  ready_good ls answers empty e = accepts _ _ (λ k g. g)
  ready_good ls answers new e = accepts _ _ (λ k g. tt)
  ready_good ls answers (keep line) e = not_now_sound (ready ls answers)
  ready_good ls answers (file f) e = not_now_sound (ready ls answers)
  ready_good ls answers ask e = not_now_sound (ready ls answers)
  ready_good ls answers (print n c) e = prints ls answers n c e

  -- Printing
  printing_good : (old : Session) (c : Command) → Line width fs old (in_printing fs old c)
  unfolding in_printing done
  printing_good old empty = accepts _ _ (λ k g. g)
  printing_good old new = accepts _ _ (λ k g. tt)
  printing_good old (keep line) = not_now_sound old
  printing_good old (file f) = not_now_sound old
  printing_good old ask = not_now_sound old
  printing_good old (print n c) = not_now_sound old

  -- answers that fit, with these definitions left
  answers_sound : (ls : List FormLine) (given : List (List ℕ)) (ds : List Define) → Storable width ls → fitting (take (length given) (asked ls)) given ≡ true → length (asked ls) ≡ length given + length ds → Sound width fs (answered_of ls given ds)
  unfolding answered_of
  answers_sound ls given [] form fit count = (form, rw (take_all (length given) (asked ls) (omega arith)) at fit)
  answers_sound ls given (d ∷ ds) form fit count = (form, omega arith, fit)

  -- an answer to the first definition that is left
  answered_good : (ls : List FormLine) (answers : List (List ℕ)) (s : List ℕ) (ds : List Define) → drop (length answers) (asked ls) ≡ ds → Line width fs (answering ls answers) (answered fs ls answers s ds)
  unfolding answered done ends_form
  answered_good ls answers s [] e =
      accepts _ _ (λ k g. absurd (let count = length-drop (length answers) (asked ls) in let none' = ap length e in let few = g.1 in omega arith))
  answered_good ls answers s (d ∷ ds) e =
      by_test (Line width fs (answering ls answers)) (fits d s) _ _
      (λ y. accepts _ _ (λ k g. let more = fitting_more (asked ls) answers d ds s e g.2 y in answers_sound ls (answers ++ (s ∷ [])) ds g.0 more.0 more.1))
      (λ n. turns unfit (answering ls answers) refl)

  -- Answering
  answering_good : (ls : List FormLine) (answers : List (List ℕ)) (s : List ℕ) → Line width fs (answering ls answers) (in_answering fs ls answers s)
  unfolding in_answering ends_form
  answering_good ls answers s =
      by_test (Line width fs (answering ls answers)) (long s) _ _
      (λ y. turns too_long (answering ls answers) refl)
      (λ n.
      by_test (Line width fs (answering ls answers)) (control s) _ _
      (λ y. turns control_byte (answering ls answers) refl)
      (λ n. answered_good ls answers s _ refl))

  -- a line that reads or not
  obeys : (old : Session) (obey : Command → Outcome) (g : Reading) → Told width g → ((c : Command) → in_range width c ≡ true → Line width fs old (obey c)) → Line width fs old (obeyed fs old obey g)
  unfolding obeyed
  obeys old obey (command c) told each = each c told
  obeys old obey (unread r) told each = turns r old told

  -- a line in each state
  heard_good : (old : Session) (s : List ℕ) → Line width fs old (heard width room fs old s)
  unfolding heard
  heard_good idle s = obeys idle _ _ (read_told width s) idle_good
  heard_good (collecting name ls) s = obeys (collecting name ls) _ _ (read_told width s) (collecting_good name ls)
  heard_good spoiled s = obeys spoiled _ _ (read_told width s) (λ c e. spoiled_good c)
  heard_good (opened ls) s = obeys (opened ls) _ _ (read_told width s) (λ c e. opened_good ls c)
  heard_good (answering ls answers) s = answering_good ls answers s
  heard_good (ready ls answers) s = obeys (ready ls answers) _ _ (read_told width s) (ready_good ls answers)
  heard_good (printing ls answers n c i) s =
      obeys (printing ls answers n c i) _ _ (read_told width s) (λ d e. printing_good _ d)

  -- a set more is out
  after_set_sound : (ls : List FormLine) (answers : List (List ℕ)) (n c i : ℕ) → Sound width fs (printing ls answers n c i) → Sound width fs (after_set ls answers n c i)
  unfolding after_set
  after_set_sound ls answers n c i g =
      by_test (Sound width fs) (eqb (suc i) n) _ _
      (λ y. tt)
      (λ no'. let p = g.2 in let more = eqb-false (suc i) n no' in (g.0, g.1, record { holding = p.holding; counted = p.counted; some_copies = p.some_copies; copied = p.copied; left = omega arith }))

  -- a take in each state
  taken_good : (old : Session) → Good width fs old (λ r. old) (taken room fs old)
  unfolding taken
  taken_good idle = refuses _ _ refl (λ g. g)
  taken_good (collecting name ls) = refuses _ _ refl (λ g. g)
  taken_good spoiled = refuses _ _ refl (λ g. g)
  taken_good (opened ls) = refuses _ _ refl (λ g. g)
  taken_good (answering ls answers) = refuses _ _ refl (λ g. g)
  taken_good (ready ls answers) = refuses _ _ refl (λ g. g)
  taken_good (printing ls answers n c i) = replies _ _ refl (λ k g. after_set_sound ls answers n c i g)

-- a bench begins sane
pub begin_sane : (width : ℕ) → Sane width begin
unfolding begin used
begin_sane width = record { forms = record { each = tt; few = omega arith; room = omega arith }; session = tt }

-- a line keeps it so
pub hear_sane : (width room : ℕ) (b : Bench) (s : List ℕ) → Sane width b → Sane width (hear width room b s).next
unfolding hear
hear_sane width room b s sane = (heard_good width room b.forms b.session (kept s)).sane sane.forms sane.session

-- and a take
pub take_sane : (width room : ℕ) (b : Bench) → Sane width b → Sane width (take_set room b).next
unfolding take_set
take_sane width room b sane = (taken_good width room b.forms b.session).sane sane.forms sane.session

-- every bench that calls lead to is sane
pub led_sane : (width : ℕ) {b : Bench} → Led width b → Sane width b
led_sane width begun = begin_sane width
led_sane width (hearing {b = b} led room s) = hear_sane width room b s (led_sane width led)
led_sane width (taking {b = b} led room) = take_sane width room b (led_sane width led)

-- a refused line leaves the forms as they were, beside the session that this refusal leaves
pub hear_refused : (width room : ℕ) (b : Bench) (s : List ℕ) (r : Refusal) → (hear width room b s).answer ≡ refused r → (hear width room b s).next ≡ record { forms = b.forms; session = left_by b.session r }
unfolding hear
hear_refused width room b s r e = (heard_good width room b.forms b.session (kept s)).firm r e

-- so no refused line changes a stored form
pub hear_refused_keeps : (width room : ℕ) (b : Bench) (s : List ℕ) (r : Refusal) → (hear width room b s).answer ≡ refused r → (hear width room b s).next.forms ≡ b.forms
hear_refused_keeps width room b s r e = ap (λ (n : Bench). n.forms) (hear_refused width room b s r e)

-- a refused take changes nothing
pub take_refused : (room : ℕ) (b : Bench) (r : Refusal) → (take_set room b).answer ≡ refused r → (take_set room b).next ≡ b
unfolding take_set
take_refused room b r e = (taken_good 0 room b.forms b.session).firm r e

-- a take leaves the forms, in every state
pub take_forms : (room : ℕ) (fs : List Form) (st : Session) → (take_set room (record { forms = fs; session = st })).next.forms ≡ fs
unfolding take_set taken outcome replied
take_forms room fs idle = refl
take_forms room fs (collecting name ls) = refl
take_forms room fs spoiled = refl
take_forms room fs (opened ls) = refl
take_forms room fs (answering ls given) = refl
take_forms room fs (ready ls given) = refl
take_forms room fs (printing ls given n c i) = by_test (λ (o : Outcome). o.next.forms ≡ fs) _ _ _ (λ y. refl) (λ m. refl)
