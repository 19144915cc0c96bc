-- What a line or a take of one session does to the stored forms, as far as other sessions care: forms that it does not strike
-- stay, what it opens is stored, only a collector stores a new name, and only `FS` of a free name begins to collect.
use mathlib.Core.Path.{◌≡◌, refl, sym, ◌∙◌}
use mathlib.Core.Bool.{true, false, ◌||◌, true≢false, false≢true}
use mathlib.Core.List.{List, [], ◌∷◌, ◌++◌}
use mathlib.Core.Option.{Option, none, some, some-ne-none}
use Prim.Native.Nat.{ℕ}
use lib.ListN.{length}
use lib.Dec.{leb}
use Rattle.paper.specs.Byte.{when◌then◌else◌, same}
use Rattle.paper.specs.Line.{kept}
use Rattle.paper.specs.Command.{Define, FormLine, Filing, start, finish, inform, recall, delete, empty, new, keep, file, ask, print, star}
use Rattle.paper.specs.Refusal.{Answer}
use Rattle.paper.specs.Read.{Reading, command, unread, read}
use Rattle.paper.specs.Form.{Form, within_limits, asked, is_some, unsound_at, find, without, has_room, stored, listing}
use Rattle.paper.specs.Bench.{Session, idle, collecting, spoiled, opened, answering, ready, printing, Outcome, outcome, done, replied, after_refusal, refuse, opened_with, recalled, deleted, filed, in_idle, checked, collected, on_finish, in_collecting, in_spoiled, obeyed, heard, hear, take_set}
use Rattle.paper.specs.Class.{at_rest, collects, prints, open_lines, holds_form, filing_read, filing_of, starts, strikes, renamed}
use Rattle.paper.proofs.Law.{by_test}
use Rattle.paper.proofs.Test.{either, clash}
use Rattle.paper.proofs.Store.{same_sym, find_without, find_without_other}
use Rattle.paper.proofs.Text.{same_eq}
use Rattle.paper.proofs.Aside.{Aside, heard_aside, taken_aside, prints_holds}
use Rattle.paper.proofs.Others.{neither_left, neither_right, some_none}

pub record Keeps (fs : List Form) (st : Session) (f : Option Filing) (o : Outcome) : Type 0 where
  pub stays : (h : List ℕ) (ls : List FormLine) → strikes f h ≡ false → find h fs ≡ some ls → find h o.next.forms ≡ some ls
  pub own : (h : List ℕ) (ls : List FormLine) → (open_lines st ≡ some ls → find h fs ≡ some ls) → open_lines o.next.session ≡ some ls → find (renamed f h) o.next.forms ≡ some ls
  pub no_more : collects st ≡ false → (h : List ℕ) → find h fs ≡ none → find h o.next.forms ≡ none
  pub began : collects st ≡ false → collects o.next.session ≡ true → starts fs f ≡ true

-- a session that holds a form open and goes on beside the same forms
aside_keeps : (fs : List Form) (st : Session) (step : List Form → Outcome) → Aside st step → Keeps fs st none (step fs)
unfolding outcome renamed
aside_keeps fs st step a =
    rw (a.is fs)
    (record { stays = λ h ls n p. p; own = λ h ls q p. q (a.holds_on ls p); no_more = λ n h p. p; began = λ n y. clash y a.no_draft })

-- Idle is left, or come back to, with the forms as they were
rests : {fs : List Form} {st : Session} (f : Option Filing) (a : Answer) → Keeps fs st f (outcome a fs idle)
unfolding outcome open_lines collects
rests f a = record { stays = λ h ls n p. p; own = λ h ls q p. absurd (some-ne-none ls (sym p)); no_more = λ n h p. p; began = λ n y. absurd (false≢true y) }

-- a collector goes on
drafts : {fs : List Form} {st : Session} (a : Answer) (next : Session) → collects st ≡ true → open_lines next ≡ none → Keeps fs st none (outcome a fs next)
unfolding outcome
drafts a next c e = record { stays = λ h ls n p. p; own = λ h ls q p. some_none p e; no_more = λ n h p. p; began = λ n y. clash c n }

-- what is found is found before others too
find_on : (h : List ℕ) (fs gs : List Form) (ls : List FormLine) → find h fs ≡ some ls → find h (fs ++ gs) ≡ some ls
unfolding find when◌then◌else◌
find_on h [] gs ls e = absurd (some-ne-none ls (sym e))
find_on h (f ∷ fs) gs ls e =
    either (same h f.name) (λ y. rw y (rw y at e)) (λ n. rw n (find_on h fs gs ls (rw n at e)))

-- without a name there are no other names
without_none : (name h : List ℕ) (fs : List Form) → find h fs ≡ none → find h (without name fs) ≡ none
without_none name h fs e =
    either (same h name)
    (λ y. rw (same_eq h name y) (find_without name fs))
    (λ n. find_without_other name h fs n ∙ e)

-- an opened form: it is held open, and nothing is collected
opens_lines : (ls : List FormLine) (ds : List Define) → open_lines (opened_with ls ds) ≡ some ls
unfolding open_lines opened_with
opens_lines ls [] = refl
opens_lines ls (d ∷ ds) = refl

opens_no_draft : (ls : List FormLine) (ds : List Define) → collects (opened_with ls ds) ≡ false
unfolding collects opened_with
opens_no_draft ls [] = refl
opens_no_draft ls (d ∷ ds) = refl

-- `FK`
delete_stays : (name h : List ℕ) (fs : List Form) (ls : List FormLine) → (same name star || same name h) ≡ false → find h fs ≡ some ls → find h (deleted name fs) ≡ some ls
unfolding deleted when◌then◌else◌
delete_stays name h fs ls n e =
    let other : same h name ≡ false = same_sym h name ∙ neither_right (same name star) _ n in
    rw (neither_left (same name star) _ n) (find_without_other name h fs other ∙ e)

delete_none : (name h : List ℕ) (fs : List Form) → find h fs ≡ none → find h (deleted name fs) ≡ none
unfolding deleted find
delete_none name h fs e =
    by_test (λ gs. find h gs ≡ none) (same name star) [] (without name fs) (λ y. refl) (λ n. without_none name h fs e)

module _ (width room : ℕ) (fs : List Form) where
  -- `FR`
  recall_keeps : (name : List ℕ) (o : Option (List FormLine)) → find name fs ≡ o → Keeps fs idle (some (recall name)) (recalled fs o)
  unfolding recalled refuse after_refusal done outcome renamed
  recall_keeps name none e = rests _ _
  recall_keeps name (some ls) e =
      record { stays = λ h ms n p. p; own = λ h ms q p. e ∙ (sym (opens_lines ls (asked ls)) ∙ p); no_more = λ n h p. p; began = λ n y. clash y (opens_no_draft ls (asked ls)) }

  -- the lines to the store
  files_keep : (f : Filing) → Keeps fs idle (some f) (filed room fs f)
  unfolding filed refuse after_refusal done replied outcome open_lines strikes starts collects
  files_keep (start name) =
      by_test (Keeps fs idle (some (start name))) (is_some (find name fs)) _ _
      (λ y. rests _ _)
      (λ n. record { stays = λ h ls m p. p; own = λ h ls q p. absurd (some-ne-none ls (sym p)); no_more = λ m h p. p; began = λ m y. rw n })
  files_keep finish = rests _ _
  files_keep inform = by_test (Keeps fs idle (some inform)) (leb (length (listing fs)) room) _ _ (λ y. rests _ _) (λ n. rests _ _)
  files_keep (recall name) = recall_keeps name (find name fs) refl
  files_keep (delete name) = record {
    stays = λ h ls n p. delete_stays name h fs ls n p;
    own = λ h ls q p. absurd (some-ne-none ls (sym p));
    no_more = λ n h p. delete_none name h fs p;
    began = λ n y. absurd (false≢true y);
  }

  -- Idle
  idle_keeps : (g : Reading) → Keeps fs idle (filing_read g) (obeyed fs idle (in_idle room fs) g)
  unfolding obeyed in_idle filing_read done refuse after_refusal
  idle_keeps (command empty) = rests _ _
  idle_keeps (command new) = rests _ _
  idle_keeps (command (keep l)) = rests _ _
  idle_keeps (command (file f)) = files_keep f
  idle_keeps (command ask) = rests _ _
  idle_keeps (command (print n c)) = rests _ _
  idle_keeps (unread r) = rests _ _

  -- `FE`
  check_keeps : (name : List ℕ) (ls : List FormLine) (o : Option ℕ) → Keeps fs (collecting name ls) none (checked fs name ls o)
  unfolding checked done outcome stored open_lines collects
  check_keeps name ls (some n) = rests none _
  check_keeps name ls none =
      by_test (Keeps fs (collecting name ls) none) (has_room fs ls) _ _
      (λ y. record { stays = λ h ms n p. find_on h fs _ ms p; own = λ h ms q p. absurd (some-ne-none ms (sym p)); no_more = λ n. absurd (true≢false n); began = λ n. absurd (true≢false n) })
      (λ n. rests none _)

  -- `FE` or another line to the store
  finish_keeps : {st : Session} (f : Filing) (a b : Outcome) → Keeps fs st none a → Keeps fs st none b → Keeps fs st none (on_finish f a b)
  unfolding on_finish
  finish_keeps (start name) a b yes' no' = no'
  finish_keeps finish a b yes' no' = yes'
  finish_keeps inform a b yes' no' = no'
  finish_keeps (recall name) a b yes' no' = no'
  finish_keeps (delete name) a b yes' no' = no'

  -- Collecting
  collecting_keeps : (name : List ℕ) (ls : List FormLine) (g : Reading) → Keeps fs (collecting name ls) none (obeyed fs (collecting name ls) (in_collecting fs name ls) g)
  unfolding obeyed in_collecting collected done refuse after_refusal open_lines collects
  collecting_keeps name ls (command empty) = drafts _ _ refl refl
  collecting_keeps name ls (command new) = drafts _ _ refl refl
  collecting_keeps name ls (command (keep l)) =
      by_test (Keeps fs (collecting name ls) none) (within_limits (ls ++ (l ∷ []))) _ _ (λ y. drafts _ _ refl refl) (λ n. drafts _ _ refl refl)
  collecting_keeps name ls (command (file f)) = finish_keeps f _ _ (check_keeps name ls (unsound_at ls)) (drafts _ _ refl refl)
  collecting_keeps name ls (command ask) = drafts _ _ refl refl
  collecting_keeps name ls (command (print n c)) = drafts _ _ refl refl
  collecting_keeps name ls (unread r) = drafts _ _ refl refl

  -- Collecting a spoiled form
  spoiled_keeps : (g : Reading) → Keeps fs spoiled none (obeyed fs spoiled (in_spoiled fs) g)
  unfolding obeyed in_spoiled done refuse after_refusal open_lines collects
  spoiled_keeps (command empty) = drafts _ _ refl refl
  spoiled_keeps (command new) = drafts _ _ refl refl
  spoiled_keeps (command (keep l)) = drafts _ _ refl refl
  spoiled_keeps (command (file f)) = finish_keeps f _ _ (rests none _) (drafts _ _ refl refl)
  spoiled_keeps (command ask) = drafts _ _ refl refl
  spoiled_keeps (command (print n c)) = drafts _ _ refl refl
  spoiled_keeps (unread r) = drafts _ _ refl refl

  -- a line
  pub hear_keeps : (st : Session) (s : List ℕ) → Keeps fs st (filing_of width st s) (hear width room (record { forms = fs; session = st }) s)
  unfolding hear heard filing_of at_rest when◌then◌else◌ holds_form open_lines is_some
  hear_keeps idle s = idle_keeps (read width (kept s))
  hear_keeps (collecting name ls) s = collecting_keeps name ls (read width (kept s))
  hear_keeps spoiled s = spoiled_keeps (read width (kept s))
  hear_keeps (opened ls) s = aside_keeps fs _ _ (heard_aside width room (opened ls) (kept s) refl)
  hear_keeps (answering ls given) s = aside_keeps fs _ _ (heard_aside width room (answering ls given) (kept s) refl)
  hear_keeps (ready ls given) s = aside_keeps fs _ _ (heard_aside width room (ready ls given) (kept s) refl)
  hear_keeps (printing ls given n c i) s = aside_keeps fs _ _ (heard_aside width room (printing ls given n c i) (kept s) refl)

  -- a take where sets are printed
  pub take_keeps : (st : Session) → prints st ≡ true → Keeps fs st none (take_set room (record { forms = fs; session = st }))
  unfolding take_set
  take_keeps st p = aside_keeps fs st _ (taken_aside room st (prints_holds st p))

-- a line that is forbidden in Idle
pub forbidden_keeps : (fs : List Form) (st : Session) (a : Answer) → Keeps fs st none (outcome a fs idle)
forbidden_keeps fs st a = rests none a
