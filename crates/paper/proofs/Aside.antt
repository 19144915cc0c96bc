-- A session that holds a form open has no dealings with the store: its lines and takes do the same beside any forms, and leave
-- them. One law says so for each function of such a state, with the answer and the next session as its data.
use mathlib.Core.Path.{◌≡◌, refl, sym, ◌∙◌}
use mathlib.Core.Bool.{Bool, true, false, false≢true}
use mathlib.Core.List.{List, [], ◌∷◌}
use mathlib.Core.Option.{some, some-ne-none}
use Prim.Native.Nat.{ℕ, suc, ◌-◌}
use lib.ListN.{length}
use lib.Dec.{leb, eqb}
use Rattle.paper.specs.Byte.{when◌then◌else◌}
use Rattle.paper.specs.Line.{long, control}
use Rattle.paper.specs.Command.{Define, FormLine, empty, new, keep, file, ask, print}
use Rattle.paper.specs.Refusal.{Answer, accepted}
use Rattle.paper.specs.Read.{Reading, command, unread, read}
use Rattle.paper.specs.Form.{Form, is_some, asked}
use Rattle.paper.specs.Set.{fits, all_hold, set_of}
use Rattle.paper.specs.Bench.{Session, idle, collecting, spoiled, opened, answering, ready, printing, Outcome, outcome, done, replied, after_refusal, refuse, in_opened, in_ready, in_printing, answered_of, answered, in_answering, obeyed, heard, after_set, taken}
use Rattle.paper.specs.Class.{at_rest, collects, prints, open_lines, holds_form}

-- what a step does beside any forms: it gives this answer, leaves the forms and goes on to such a state, which holds the form
-- that was held or none, and does not collect
pub record Aside (old : Session) (step : List Form → Outcome) : Type 0 where
  pub answer : Answer
  pub next : Session
  pub is : (fs : List Form) → step fs ≡ outcome answer fs next
  pub holds_on : (ls : List FormLine) → open_lines next ≡ some ls → open_lines old ≡ some ls
  pub no_draft : collects next ≡ false

-- the form is held on
still : {old : Session} (a : Answer) (next : Session) → open_lines next ≡ open_lines old → collects next ≡ false → Aside old (λ fs. outcome a fs next)
still a next e n = record { answer = a; next = next; is = λ fs. refl; holds_on = λ ls p. sym e ∙ p; no_draft = n }

-- it is let go
lets_go : {old : Session} (a : Answer) → Aside old (λ fs. outcome a fs idle)
unfolding open_lines collects
lets_go a = record { answer = a; next = idle; is = λ fs. refl; holds_on = λ ls p. absurd (some-ne-none ls (sym p)); no_draft = refl }

-- one of two steps
chosen : {old : Session} {f g : List Form → Outcome} (t : Bool) → (t ≡ true → Aside old f) → (t ≡ false → Aside old g) → Aside old (λ fs. when t then f fs else g fs)
unfolding when◌then◌else◌
chosen true yes' no' = yes' refl
chosen false yes' no' = no' refl

-- Open
open_aside : (ls : List FormLine) (g : Reading) → Aside (opened ls) (λ fs. obeyed fs (opened ls) (in_opened fs ls) g)
unfolding obeyed in_opened done refuse after_refusal open_lines collects
open_aside ls (command empty) = still _ _ refl refl
open_aside ls (command new) = lets_go _
open_aside ls (command (keep l)) = still _ _ refl refl
open_aside ls (command (file f)) = still _ _ refl refl
open_aside ls (command ask) = still _ _ refl refl
open_aside ls (command (print n c)) = still _ _ refl refl
open_aside ls (unread r) = still _ _ refl refl

-- Ready
ready_aside : (ls : List FormLine) (given : List (List ℕ)) (g : Reading) → Aside (ready ls given) (λ fs. obeyed fs (ready ls given) (in_ready fs ls given) g)
unfolding obeyed in_ready done refuse after_refusal open_lines collects
ready_aside ls given (command empty) = still _ _ refl refl
ready_aside ls given (command new) = lets_go _
ready_aside ls given (command (keep l)) = still _ _ refl refl
ready_aside ls given (command (file f)) = still _ _ refl refl
ready_aside ls given (command ask) = still _ _ refl refl
ready_aside ls given (command (print n c)) =
    chosen (all_hold (n - 1) (asked ls) given) (λ y. still _ _ refl refl) (λ m. still _ _ refl refl)
ready_aside ls given (unread r) = still _ _ refl refl

-- Printing
printing_aside : (ls : List FormLine) (given : List (List ℕ)) (n c i : ℕ) (g : Reading) → Aside (printing ls given n c i) (λ fs. obeyed fs (printing ls given n c i) (in_printing fs (printing ls given n c i)) g)
unfolding obeyed in_printing done refuse after_refusal open_lines collects
printing_aside ls given n c i (command empty) = still _ _ refl refl
printing_aside ls given n c i (command new) = lets_go _
printing_aside ls given n c i (command (keep l)) = still _ _ refl refl
printing_aside ls given n c i (command (file f)) = still _ _ refl refl
printing_aside ls given n c i (command ask) = still _ _ refl refl
printing_aside ls given n c i (command (print m d)) = still _ _ refl refl
printing_aside ls given n c i (unread r) = still _ _ refl refl

-- an answer that is taken
answer_aside : (ls : List FormLine) (given : List (List ℕ)) (s : List ℕ) (ds : List Define) → Aside (answering ls given) (λ fs. answered fs ls given s ds)
unfolding answered answered_of done refuse after_refusal open_lines collects
answer_aside ls given s [] = still _ _ refl refl
answer_aside ls given s (d ∷ []) = chosen (fits d s) (λ y. still _ _ refl refl) (λ n. lets_go _)
answer_aside ls given s (d ∷ e ∷ ds) = chosen (fits d s) (λ y. still _ _ refl refl) (λ n. lets_go _)

-- Answering
answering_aside : (ls : List FormLine) (given : List (List ℕ)) (s : List ℕ) → Aside (answering ls given) (λ fs. in_answering fs ls given s)
unfolding in_answering refuse after_refusal
answering_aside ls given s =
    chosen (long s) (λ y. lets_go _) (λ n. chosen (control s) (λ y. lets_go _) (λ m. answer_aside ls given s _))

-- a line
pub heard_aside : (width room : ℕ) (st : Session) (s : List ℕ) → holds_form st ≡ true → Aside st (λ fs. heard width room fs st s)
unfolding holds_form open_lines is_some heard
heard_aside width room idle s h = absurd (false≢true h)
heard_aside width room (collecting name ls) s h = absurd (false≢true h)
heard_aside width room spoiled s h = absurd (false≢true h)
heard_aside width room (opened ls) s h = open_aside ls (read width s)
heard_aside width room (answering ls given) s h = answering_aside ls given s
heard_aside width room (ready ls given) s h = ready_aside ls given (read width s)
heard_aside width room (printing ls given n c i) s h = printing_aside ls given n c i (read width s)

-- nothing is written for it, so the room does not matter
pub heard_roomless : (width room : ℕ) (fs : List Form) (st : Session) (s : List ℕ) → holds_form st ≡ true → heard width room fs st s ≡ heard width 0 fs st s
unfolding holds_form open_lines is_some heard
heard_roomless width room fs idle s h = absurd (false≢true h)
heard_roomless width room fs (collecting name ls) s h = absurd (false≢true h)
heard_roomless width room fs spoiled s h = absurd (false≢true h)
heard_roomless width room fs (opened ls) s h = refl
heard_roomless width room fs (answering ls given) s h = refl
heard_roomless width room fs (ready ls given) s h = refl
heard_roomless width room fs (printing ls given n c i) s h = refl

-- a take
pub taken_aside : (room : ℕ) (st : Session) → holds_form st ≡ true → Aside st (λ fs. taken room fs st)
unfolding holds_form open_lines is_some taken replied after_set collects when◌then◌else◌
taken_aside room idle h = absurd (false≢true h)
taken_aside room (collecting name ls) h = absurd (false≢true h)
taken_aside room spoiled h = absurd (false≢true h)
taken_aside room (opened ls) h = still _ _ refl refl
taken_aside room (answering ls given) h = still _ _ refl refl
taken_aside room (ready ls given) h = still _ _ refl refl
taken_aside room (printing ls given n c i) h = chosen (leb (length (set_of ls given c i)) room) (λ y. out (eqb (suc i) n)) (λ m. still _ _ refl refl)
  where
    out : (t : Bool) → Aside (printing ls given n c i) (λ fs. outcome (accepted (set_of ls given c i)) fs (when t then idle else printing ls given n c (suc i)))
    out true = lets_go _
    out false = still _ _ refl refl

-- who holds a form open is not Idle
pub holds_awake : (st : Session) → holds_form st ≡ true → at_rest st ≡ false
unfolding holds_form open_lines is_some at_rest
holds_awake idle h = sym h
holds_awake (collecting name ls) h = refl
holds_awake spoiled h = refl
holds_awake (opened ls) h = refl
holds_awake (answering ls given) h = refl
holds_awake (ready ls given) h = refl
holds_awake (printing ls given n c i) h = refl

-- who prints holds a form open
pub prints_holds : (st : Session) → prints st ≡ true → holds_form st ≡ true
unfolding holds_form open_lines is_some prints
prints_holds idle p = p
prints_holds (collecting name ls) p = p
prints_holds spoiled p = p
prints_holds (opened ls) p = refl
prints_holds (answering ls given) p = refl
prints_holds (ready ls given) p = refl
prints_holds (printing ls given n c i) p = refl
