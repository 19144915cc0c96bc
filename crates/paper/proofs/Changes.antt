-- What a line does to the stored forms: nothing, but for an `FE` that stores one and an `FK`, which both lead to Idle.
use mathlib.Core.Path.{◌≡◌, refl, sym}
use mathlib.Core.Bool.{Bool, true, false, true≢false}
use mathlib.Core.List.{List, [], ◌∷◌, ◌++◌}
use mathlib.Core.Option.{Option, none, some}
use Prim.Native.Nat.{ℕ, ◌-◌}
use lib.ListN.{length, drop}
use lib.Dec.{leb}
use Rattle.paper.specs.Byte.{when◌then◌else◌}
use Rattle.paper.specs.Line.{kept, long, control}
use Rattle.paper.specs.Command.{Define, FormLine, Filing, start, finish, inform, recall, delete, empty, new, keep, file, ask, print}
use Rattle.paper.specs.Refusal.{Refusal, too_long, control_byte}
use Rattle.paper.specs.Read.{Reading, command, unread, read}
use Rattle.paper.specs.Form.{Form, is_some, find, asked, stored, has_room, unsound_at, within_limits, listing}
use Rattle.paper.specs.Set.{fits, all_hold}
use Rattle.paper.specs.Bench.{Session, idle, collecting, spoiled, opened, answering, ready, printing, Outcome, outcome, refuse, done, replied, deleted, recalled, filed, in_idle, checked, collected, on_finish, in_collecting, in_spoiled, in_opened, in_ready, in_printing, answered, in_answering, obeyed, heard, hear}
use Rattle.paper.specs.Class.{at_rest, open_lines, holds_form, filing_read, filing_of}

-- the stored forms and the session behind a line
pub data Changes (fs : List Form) (st : Session) (f : Option Filing) : List Form → Session → Type 0 where
  as_before : {st' : Session} → Changes fs st f fs st'
  joined : (name : List ℕ) (ls : List FormLine) → st ≡ collecting name ls → Changes fs st f (stored fs name ls) idle
  struck : (name : List ℕ) → st ≡ idle → f ≡ some (delete name) → Changes fs st f (deleted name fs) idle

module _ (fs : List Form) where
  -- an outcome that leaves them so
  abbrev Leaves : Session → Option Filing → Outcome → Type 0
  Leaves st f o = Changes fs st f o.next.forms o.next.session

  either_leaves : (st : Session) (f : Option Filing) (t : Bool) (a b : Outcome) → Leaves st f a → Leaves st f b → Leaves st f (when t then a else b)
  unfolding when◌then◌else◌
  either_leaves st f true a b p q = p
  either_leaves st f false a b p q = q

  refused_leaves : (st : Session) (f : Option Filing) (r : Refusal) (st' : Session) → Leaves st f (refuse r fs st')
  unfolding refuse outcome
  refused_leaves st f r st' = as_before

  -- `FR`
  recalled_leaves : (f : Option Filing) (o : Option (List FormLine)) → Leaves idle f (recalled fs o)
  unfolding recalled refuse done outcome
  recalled_leaves f none = as_before
  recalled_leaves f (some ls) = as_before

  -- Idle
  filed_leaves : (room : ℕ) (g : Filing) → Leaves idle (some g) (filed room fs g)
  unfolding filed replied refuse done outcome
  filed_leaves room (start name) = either_leaves idle _ (is_some (find name fs)) _ _ as_before as_before
  filed_leaves room finish = as_before
  filed_leaves room inform = either_leaves idle _ (leb (length (listing fs)) room) _ _ as_before as_before
  filed_leaves room (recall name) = recalled_leaves _ (find name fs)
  filed_leaves room (delete name) = struck name refl refl

  idle_leaves : (room : ℕ) (r : Reading) → Leaves idle (filing_read r) (obeyed fs idle (in_idle room fs) r)
  unfolding obeyed in_idle filing_read refuse done outcome
  idle_leaves room (command empty) = as_before
  idle_leaves room (command new) = as_before
  idle_leaves room (command (keep line)) = as_before
  idle_leaves room (command (file g)) = filed_leaves room g
  idle_leaves room (command ask) = as_before
  idle_leaves room (command (print n c)) = as_before
  idle_leaves room (unread r) = as_before

  -- Collecting
  checked_leaves : (f : Option Filing) (name : List ℕ) (ls : List FormLine) (o : Option ℕ) → Leaves (collecting name ls) f (checked fs name ls o)
  unfolding checked done outcome
  checked_leaves f name ls (some n) = as_before
  checked_leaves f name ls none = either_leaves _ f (has_room fs ls) _ _ (joined name ls refl) as_before

  finish_leaves : (st : Session) (f : Option Filing) (g : Filing) (a b : Outcome) → Leaves st f a → Leaves st f b → Leaves st f (on_finish g a b)
  unfolding on_finish
  finish_leaves st f (start name) a b p q = q
  finish_leaves st f finish a b p q = p
  finish_leaves st f inform a b p q = q
  finish_leaves st f (recall name) a b p q = q
  finish_leaves st f (delete name) a b p q = q

  collecting_leaves : (f : Option Filing) (name : List ℕ) (ls : List FormLine) (r : Reading) → Leaves (collecting name ls) f (obeyed fs (collecting name ls) (in_collecting fs name ls) r)
  unfolding obeyed in_collecting collected refuse done outcome
  collecting_leaves f name ls (command empty) = as_before
  collecting_leaves f name ls (command new) = as_before
  collecting_leaves f name ls (command (keep line)) = either_leaves _ f (within_limits (ls ++ (line ∷ []))) _ _ as_before as_before
  collecting_leaves f name ls (command (file g)) = finish_leaves _ f g _ _ (checked_leaves f name ls (unsound_at ls)) as_before
  collecting_leaves f name ls (command ask) = as_before
  collecting_leaves f name ls (command (print n c)) = as_before
  collecting_leaves f name ls (unread r) = as_before

  spoiled_leaves : (f : Option Filing) (r : Reading) → Leaves spoiled f (obeyed fs spoiled (in_spoiled fs) r)
  unfolding obeyed in_spoiled refuse done outcome
  spoiled_leaves f (command empty) = as_before
  spoiled_leaves f (command new) = as_before
  spoiled_leaves f (command (keep line)) = as_before
  spoiled_leaves f (command (file g)) = finish_leaves _ f g _ _ as_before as_before
  spoiled_leaves f (command ask) = as_before
  spoiled_leaves f (command (print n c)) = as_before
  spoiled_leaves f (unread r) = as_before

  -- a form is held open
  opened_leaves : (f : Option Filing) (ls : List FormLine) (r : Reading) → Leaves (opened ls) f (obeyed fs (opened ls) (in_opened fs ls) r)
  unfolding obeyed in_opened refuse done outcome
  opened_leaves f ls (command empty) = as_before
  opened_leaves f ls (command new) = as_before
  opened_leaves f ls (command (keep line)) = as_before
  opened_leaves f ls (command (file g)) = as_before
  opened_leaves f ls (command ask) = as_before
  opened_leaves f ls (command (print n c)) = as_before
  opened_leaves f ls (unread r) = as_before

  answered_leaves : (f : Option Filing) (ls : List FormLine) (given : List (List ℕ)) (s : List ℕ) (ds : List Define) → Leaves (answering ls given) f (answered fs ls given s ds)
  unfolding answered refuse done outcome
  answered_leaves f ls given s [] = as_before
  answered_leaves f ls given s (d ∷ ds) = either_leaves _ f (fits d s) _ _ as_before as_before

  answering_leaves : (f : Option Filing) (ls : List FormLine) (given : List (List ℕ)) (s : List ℕ) → Leaves (answering ls given) f (in_answering fs ls given s)
  unfolding in_answering
  answering_leaves f ls given s =
      either_leaves _ f (long s) _ _ (refused_leaves _ f too_long (answering ls given))
      (either_leaves _ f (control s) _ _ (refused_leaves _ f control_byte (answering ls given)) (answered_leaves f ls given s (drop (length given) (asked ls))))

  ready_leaves : (f : Option Filing) (ls : List FormLine) (given : List (List ℕ)) (r : Reading) → Leaves (ready ls given) f (obeyed fs (ready ls given) (in_ready fs ls given) r)
  unfolding obeyed in_ready refuse done outcome
  ready_leaves f ls given (command empty) = as_before
  ready_leaves f ls given (command new) = as_before
  ready_leaves f ls given (command (keep line)) = as_before
  ready_leaves f ls given (command (file g)) = as_before
  ready_leaves f ls given (command ask) = as_before
  ready_leaves f ls given (command (print n c)) = either_leaves _ f (all_hold (n - 1) (asked ls) given) _ _ as_before as_before
  ready_leaves f ls given (unread r) = as_before

  printing_leaves : (f : Option Filing) (st st' : Session) (r : Reading) → Leaves st f (obeyed fs st' (in_printing fs st') r)
  unfolding obeyed in_printing refuse done outcome
  printing_leaves f st st' (command empty) = as_before
  printing_leaves f st st' (command new) = as_before
  printing_leaves f st st' (command (keep line)) = as_before
  printing_leaves f st st' (command (file g)) = as_before
  printing_leaves f st st' (command ask) = as_before
  printing_leaves f st st' (command (print n c)) = as_before
  printing_leaves f st st' (unread r) = as_before

-- CHANGES: the stored forms behind a line
pub line_changes : (width room : ℕ) (fs : List Form) (st : Session) (s : List ℕ) → Changes fs st (filing_of width st s) (hear width room (record { forms = fs; session = st }) s).next.forms (hear width room (record { forms = fs; session = st }) s).next.session
unfolding hear heard filing_of at_rest when◌then◌else◌
line_changes width room fs idle s = idle_leaves fs room (read width (kept s))
line_changes width room fs (collecting name ls) s = collecting_leaves fs _ name ls (read width (kept s))
line_changes width room fs spoiled s = spoiled_leaves fs _ (read width (kept s))
line_changes width room fs (opened ls) s = opened_leaves fs _ ls (read width (kept s))
line_changes width room fs (answering ls given) s = answering_leaves fs _ ls given (kept s)
line_changes width room fs (ready ls given) s = ready_leaves fs _ ls given (read width (kept s))
line_changes width room fs (printing ls given n c i) s = printing_leaves fs _ _ (printing ls given n c i) (read width (kept s))

-- who holds a form behind a line changed none
holding_by : (fs : List Form) (st : Session) (f : Option Filing) (gs : List Form) (st' : Session) → Changes fs st f gs st' → holds_form st' ≡ true → gs ≡ fs
unfolding holds_form open_lines is_some
holding_by fs st f gs st' as_before h = refl
holding_by fs st f gs st' (joined name ls e) h = absurd (true≢false (sym h))
holding_by fs st f gs st' (struck name e g) h = absurd (true≢false (sym h))

pub holding_keeps : (width room : ℕ) (fs : List Form) (st : Session) (s : List ℕ) → holds_form (hear width room (record { forms = fs; session = st }) s).next.session ≡ true → (hear width room (record { forms = fs; session = st }) s).next.forms ≡ fs
holding_keeps width room fs st s h = holding_by fs st _ _ _ (line_changes width room fs st s) h
