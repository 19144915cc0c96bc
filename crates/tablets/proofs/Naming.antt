-- The number of the form that a tablet holds open is that of its name: behind a line too.
use mathlib.Core.Path.{◌≡◌, refl, sym}
use mathlib.Core.Bool.{false, true≢false}
use mathlib.Core.List.{List, []}
use mathlib.Core.Option.{none, some}
use Prim.Native.Nat.{ℕ}
use Rattle.paper.specs.Byte.{when◌then◌else◌}
use Rattle.paper.specs.Line.{kept}
use Rattle.paper.specs.Command.{Filing, start, finish, inform, recall, delete, empty, new, keep, file, ask, print}
use Rattle.paper.specs.Read.{Reading, command, unread, read}
use Rattle.paper.specs.Form.{Form, is_some}
use Rattle.paper.specs.Bench.{Session, idle, collecting, spoiled, opened, answering, ready, printing, Outcome, hear}
use Rattle.paper.specs.Class.{at_rest, open_lines, holds_form, filing_read, filing_of, renamed, tablet_of}
use Rattle.paper.proofs.Law.{if_true}
use Rattle.paper.proofs.Test.{either}
use Rattle.paper.proofs.Changes.{holding_keeps}
use Rattle.command.specs.View.{width}
use Rattle.session.specs.Memory.{packed_session, number_of, if_idle, after_filing, after_command}
use Rattle.session.specs.Outcome.{after_reading, after_line}
use Rattle.seats.proofs.Gone.{rests_alike}
use Rattle.tablets.specs.Calls.{packed_tablet}

module _ (fs : List Form) (form : List ℕ) where
  -- a line to the store in Idle
  filing_named : (g : Filing) → number_of (renamed (some g) form) fs ≡ after_filing (number_of form fs) fs idle g
  unfolding renamed after_filing if_idle
  filing_named (start name) = refl
  filing_named finish = refl
  filing_named inform = refl
  filing_named (recall name) = refl
  filing_named (delete name) = refl

  -- any line there
  reading_named : (r : Reading) → number_of (renamed (filing_read r) form) fs ≡ after_reading (number_of form fs) fs idle r
  unfolding filing_read renamed after_reading after_command
  reading_named (command empty) = refl
  reading_named (command new) = refl
  reading_named (command (keep line)) = refl
  reading_named (command (file g)) = filing_named g
  reading_named (command ask) = refl
  reading_named (command (print n c)) = refl
  reading_named (unread r) = refl

  -- in every other state no line opens a form
  filing_stays : (st : Session) → ((a b : ℕ) → if_idle st a b ≡ b) → (n : ℕ) (g : Filing) → after_filing n fs st g ≡ n
  unfolding after_filing
  filing_stays st e n (start name) = refl
  filing_stays st e n finish = refl
  filing_stays st e n inform = refl
  filing_stays st e n (recall name) = e _ n
  filing_stays st e n (delete name) = refl

  reading_stays : (st : Session) → ((a b : ℕ) → if_idle st a b ≡ b) → (n : ℕ) (r : Reading) → after_reading n fs st r ≡ n
  unfolding after_reading after_command
  reading_stays st e n (command empty) = refl
  reading_stays st e n (command new) = refl
  reading_stays st e n (command (keep line)) = refl
  reading_stays st e n (command (file g)) = filing_stays st e n g
  reading_stays st e n (command ask) = refl
  reading_stays st e n (command (print k c)) = refl
  reading_stays st e n (unread r) = refl

  -- so the number is the name's
  number_named : (st : Session) (s : List ℕ) → number_of (renamed (filing_of width st s) form) fs ≡ after_line (number_of form fs) fs st (kept s)
  unfolding filing_of at_rest when◌then◌else◌ after_line renamed if_idle
  number_named idle s = reading_named (read width (kept s))
  number_named (collecting name ls) s = sym (reading_stays (collecting name ls) (λ a b. refl) (number_of form fs) (read width (kept s)))
  number_named spoiled s = sym (reading_stays spoiled (λ a b. refl) (number_of form fs) (read width (kept s)))
  number_named (opened ls) s = sym (reading_stays (opened ls) (λ a b. refl) (number_of form fs) (read width (kept s)))
  number_named (answering ls given) s = sym (reading_stays (answering ls given) (λ a b. refl) (number_of form fs) (read width (kept s)))
  number_named (ready ls given) s = sym (reading_stays (ready ls given) (λ a b. refl) (number_of form fs) (read width (kept s)))
  number_named (printing ls given n c i) s = sym (reading_stays (printing ls given n c i) (λ a b. refl) (number_of form fs) (read width (kept s)))

-- who holds no form
pub open_none : (st : Session) → holds_form st ≡ false → open_lines st ≡ none
unfolding holds_form open_lines is_some
open_none idle e = refl
open_none (collecting name ls) e = refl
open_none spoiled e = refl
open_none (opened ls) e = absurd (true≢false e)
open_none (answering ls given) e = absurd (true≢false e)
open_none (ready ls given) e = absurd (true≢false e)
open_none (printing ls given n c i) e = absurd (true≢false e)

-- OWN: what a line leaves at its tablet is that tablet in memory
pub own_packed : (room : ℕ) (fs : List Form) (st : Session) (form s : List ℕ)
    → packed_session (hear width room (record { forms = fs; session = st }) s).next.forms (after_line (number_of form fs) fs st (kept s)) (hear width room (record { forms = fs; session = st }) s).next.session
    ≡ packed_tablet (hear width room (record { forms = fs; session = st }) s).next.forms (tablet_of (hear width room (record { forms = fs; session = st }) s).next.session (renamed (filing_of width st s) form))
unfolding packed_tablet tablet_of
own_packed room fs st form s =
    let o : Outcome = hear width room (record { forms = fs; session = st }) s in
    either (holds_form o.next.session)
    (λ y.
    rw (holding_keeps width room fs st s y, if_true {A = List ℕ} (holds_form o.next.session) (renamed (filing_of width st s) form) [] y, number_named fs form st s))
    (λ n. rests_alike _ _ _ _ o.next.session (open_none _ n))
