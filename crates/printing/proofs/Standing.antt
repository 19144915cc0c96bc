-- What a session has of the shelf: where the form that it holds open stands there, with its text and its plan.
use Prim.Native.Nat.{ℕ, ◌+◌, ◌-◌, ◌*◌, ◌≤◌, ◌<◌}
use mathlib.Core.Path.{◌≡◌, ap}
use mathlib.Core.List.{List}
use native.Mathlib.Omega.{arith}
use lib.ListN.{length, take, drop}
use Rattle.paper.specs.Command.{FormLine}
use Rattle.paper.specs.Form.{Form, text_of, asked}
use Rattle.paper.specs.Bench as P
use Rattle.paper.specs.State.{Stored, Sound}
use Rattle.text.specs.Write.{padded}
use Rattle.text.proofs.Padded.{padded_length}
use Rattle.command.specs.View.{width}
use Rattle.form.specs.Plan.{plan_of}
use Rattle.store.specs.Packed.{texts_of, packed}
use Rattle.set.specs.Answers.{answers_text, values_in}
use Rattle.session.specs.Memory.{Session, Shelf, session_of, drafts, drafting, place_of, holds, holding, packed_session, entries_of, packed_shelf, Lies, Opens}
use Rattle.session.specs.Outcome.{At, Kept, Planned, Showing}
use Rattle.session.specs.declared.state.Mode.{Mode}
use Rattle.session.specs.declared.state.Held.{Held}
use Rattle.session.proofs.Parted.{lies_before, text_ends, text_part, plan_part, plans_are, plans_whole}
use Rattle.session.proofs.Entries.{entries_used}
use Rattle.session.proofs.Used.{padded_front, kept_used, fills_inside}

-- the same numbers in another state
abbrev pub moved_to : Held → Mode → Held
moved_to held mode = record { mode = mode; form = held.form; start = held.start; size = held.size; len = held.len; drafted = held.drafted; given = held.given }

-- the session with them
abbrev pub in_state : Session → Mode → Session
in_state session mode = session_of (moved_to session.held mode) session.name session.text session.answers session.values

-- a session that holds a form open, in another state
pub moves_open : (session : Session) (to mode : Mode) (fs : List Form) (n : ℕ) (ls : List FormLine) (given : List (List ℕ)) → session ≡ holding mode fs n ls given
    → in_state session to ≡ holding to fs n ls given
unfolding holding holds
moves_open session to mode fs n ls given e = ap (λ x. in_state x to) e

-- the part of some memory between two places
abbrev pub part_of : List ℕ → (from to : ℕ) → List ℕ
part_of memory from to = take (to - from) (drop from memory)

-- the part of the plans that is form n's
abbrev pub plan_at : List ℕ → ℕ → List ℕ
plan_at plans n = part_of plans (n * 232) (n * 232 + 232)

-- no session holds the number of a form that is not there
form_few : (fs : List Form) (n : ℕ) (st : P.Session) → Stored width fs → Opens fs n st → (packed_session fs n st).held.form < 8
unfolding packed_session drafting drafts holding holds
form_few fs n P.idle s o = omega arith
form_few fs n (P.collecting name ls) s o = omega arith
form_few fs n P.spoiled s o = omega arith
form_few fs n (P.opened ls) s o = omega (arith, lies_before fs n ls o, s.few)
form_few fs n (P.answering ls given) s o = omega (arith, lies_before fs n ls o, s.few)
form_few fs n (P.ready ls given) s o = omega (arith, lies_before fs n ls o, s.few)
form_few fs n (P.printing ls given k c i) s o = omega (arith, lies_before fs n ls o, s.few)

-- nor a place that lies behind the texts
text_few : (fs : List Form) (n : ℕ) (st : P.Session) → Stored width fs → Opens fs n st → (packed_session fs n st).held.start + (packed_session fs n st).held.size ≤ 4096
unfolding packed_session drafting drafts holding holds
text_few fs n P.idle s o = omega arith
text_few fs n (P.collecting name ls) s o = omega arith
text_few fs n P.spoiled s o = omega arith
text_few fs n (P.opened ls) s o = omega (arith, text_ends fs n ls o, s.room)
text_few fs n (P.answering ls given) s o = omega (arith, text_ends fs n ls o, s.room)
text_few fs n (P.ready ls given) s o = omega (arith, text_ends fs n ls o, s.room)
text_few fs n (P.printing ls given k c i) s o = omega (arith, text_ends fs n ls o, s.room)

-- the texts in memory
texts_are : (shelf : Shelf) (fs : List Form) → shelf ≡ packed_shelf fs → shelf.store.text ≡ padded 4096 (texts_of (entries_of fs))
unfolding packed_shelf packed
texts_are shelf fs e = ap (λ x. x.store.text) e

-- have their room
texts_whole : (shelf : Shelf) (fs : List Form) → shelf ≡ packed_shelf fs → Stored width fs → length shelf.store.text ≡ 4096
texts_whole shelf fs e s =
    let few : length (texts_of (entries_of fs)) ≤ 4096 = omega (arith, entries_used fs, s.room) in
    rw (texts_are shelf fs e) (padded_length 4096 (texts_of (entries_of fs)) few)

-- a session beside plans: its form's number is small
pub planned_few : (session : Session) (plans : List ℕ) → Planned session plans → session.held.form < 8
planned_few session plans p = rw p.at.here (form_few _ _ _ p.at.sane.forms p.at.opens)

-- and its plan lies within them
pub planned_inside : (session : Session) (plans : List ℕ) → Planned session plans → session.held.form * 232 + 232 ≤ length plans
planned_inside session plans p = omega (arith, planned_few session plans p, plans_whole _ _ p.at.there p.at.sane.forms)

-- it is beside some shelf
pub planned_kept : (session : Session) (plans : List ℕ) → Planned session plans → Kept session
planned_kept session plans p = record { shelf = record { store = p.store; plans = plans }; at = p.at }

-- so its answers take few bytes
pub planned_given : (session : Session) (plans : List ℕ) → Planned session plans → session.held.given ≤ 65535
planned_given session plans p = let u = (kept_used session (planned_kept session plans p)).answers in omega (arith, u.counts, u.room)

-- and all values have their place
pub planned_values : (session : Session) (plans : List ℕ) → Planned session plans → length session.values ≡ 104
planned_values session plans p = (kept_used session (planned_kept session plans p)).values

-- a session beside texts and plans is beside plans
pub showing_planned : (session : Session) (all plans : List ℕ) → Showing session all plans → Planned session plans
showing_planned session all plans s = record { store = s.shelf.store; at = rw s.planned at s.at }

pub showing_kept : (session : Session) (all plans : List ℕ) → Showing session all plans → Kept session
showing_kept session all plans s = record { shelf = s.shelf; at = s.at }

-- its text lies within the texts
pub showing_ends : (session : Session) (all plans : List ℕ) → Showing session all plans → session.held.start + session.held.size ≤ 4096
showing_ends session all plans s = rw s.at.here (text_few _ _ _ s.at.sane.forms s.at.opens)

pub showing_inside : (session : Session) (all plans : List ℕ) → Showing session all plans → session.held.start + session.held.size ≤ length all
showing_inside session all plans s =
    let whole : length all ≡ 4096 = rw (← s.texts) (texts_whole _ _ s.at.there s.at.sane.forms) in
    omega (arith, showing_ends session all plans s, whole)

-- the used bytes of its answers lie within them
pub kept_answers : (session : Session) → Kept session → session.held.given ≤ length session.answers
kept_answers session k = omega (arith, fills_inside _ _ _ (kept_used session k).answers)

module _ (session : Session) (mode : Mode) (fs : List Form) (n : ℕ) (ls : List FormLine) (given : List (List ℕ)) (e : session ≡ holding mode fs n ls given) where
  -- of a session that holds form n open: the answers
  pub open_answers : take session.held.given session.answers ≡ answers_text given
  unfolding holding holds
  open_answers = rw e (padded_front 1700 (answers_text given))

  -- and their values
  pub open_values : session.values ≡ values_in (asked ls) given
  unfolding holding
  open_values = ap (λ x. x.values) e

  module _ (shelf : Shelf) (there : shelf ≡ packed_shelf fs) (stored : Stored width fs) (lies : Lies fs n ls) where
    -- its plan
    pub open_plan : plan_at shelf.plans session.held.form ≡ plan_of ls
    unfolding holding holds
    open_plan =
        let size : n * 232 + 232 - n * 232 ≡ 232 = omega arith in
        rw (e, plans_are shelf fs there, size) (plan_part fs n ls stored.each lies)

    -- and its text
    pub open_text : part_of shelf.store.text session.held.start (session.held.start + session.held.size) ≡ text_of ls
    unfolding holding holds
    open_text =
        let size : place_of fs n + length (text_of ls) - place_of fs n ≡ length (text_of ls) = omega arith in
        rw (e, texts_are shelf fs there, size) (text_part fs n ls lies)

-- what holds of a session whose state is known
pub sound_at : (session : Session) (shelf : Shelf) (a : At session shelf) (st : P.Session) → a.state ≡ st → Sound width a.forms st
sound_at session shelf a st e = rw e at a.sane.session

pub opens_at : (session : Session) (shelf : Shelf) (a : At session shelf) (st : P.Session) → a.state ≡ st → Opens a.forms a.number st
opens_at session shelf a st e = rw e at a.opens
