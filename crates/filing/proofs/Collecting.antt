-- Collecting a form: its lines, and `FE`.
use Prim.Native.Nat.{ℕ, suc, ◌+◌, ◌-◌, ◌*◌, ◌≤◌, ◌<◌}
use mathlib.Core.Path.{◌≡◌, refl, sym, ◌∙◌, ap}
use mathlib.Core.Bool.{Bool, true, false, not, ◌&&◌}
use mathlib.Core.List.{List, [], ◌∷◌, ◌++◌, append_assoc}
use mathlib.Core.Option.{Option, none, some}
use native.Mathlib.Omega.{arith}
use denote.Enum.Declared.{tag_of}
use lib.ListN.{length, take, drop, length-append}
use lib.Seq.{length-take-le}
use lib.Dec.{leb, ltb}
use borrow.Author.Tests.{leb-true, ltb-true, le-leb, not-true, not-false}
use Rattle.std.specs.Prelude as Std
use Rattle.std.specs.Prelude.{Result, Ok, Err}
use Rattle.paper.specs.Command as C
use Rattle.paper.specs.Command.{Define, FormLine, all, keep, file, finish}
use Rattle.paper.specs.Form.{Form, text_of, within_limits, asked, rules, first_broken, unsound_at, has_room, stored}
use Rattle.paper.specs.Write.{line_text, normal, lines_text}
use Rattle.paper.specs.State.{all_in, Draft, Storable}
use Rattle.paper.specs.Bench as P
use Rattle.paper.proofs.Law.{if_true, if_false, by_test, and_left, and_right, and_both}
use Rattle.paper.proofs.Test.{either}
use Rattle.paper.proofs.RoundTrip.{read_in_range}
use Rattle.text.specs.Write.{Writes, padded}
use Rattle.text.proofs.Padded.{padded_length, padded_write}
use Rattle.text.proofs.Written.{writes_then, writes_take}
use Rattle.command.specs.View.{width, refusal_of, view_of}
use Rattle.command.specs.declared.Command.{Command}
use Rattle.command.specs.declared.Refusal.{Refusal}
use Rattle.command.specs.declared.Refusal.TheVariants as W
use Rattle.line.specs.Given.{IsRead}
use Rattle.normal.specs.Normal.{record_held, readable, reading_text}
use Rattle.normal.proofs.RoundTrips.{stand_held}
use Rattle.form.specs.Sound.{line_number}
use Rattle.form.specs.Noting.{Plannable, Plans}
use Rattle.store.specs.Packed.{Store, entry, packed}
use Rattle.store.specs.Lent.{Spare, Joins}
use Rattle.session.specs.Memory.{Session, session_of, Shelf, drafts, drafting, packed_session, packed_shelf, entries_of, plans_of, after_filing, after_command}
use Rattle.session.specs.Outcome.{At, Kept, Used, Does, Minds, Files, Refuses, Keeps, Collects, Drafted, Shelves, obey}
use Rattle.session.specs.declared.state.Mode.TheVariants as M
use Rattle.session.specs.declared.state.Held.{Held}
use Rattle.session.specs.contracts.state.Mode as Mode
use Rattle.session.proofs.Held.{Tagged, seen, does_done, does_refused, does_refuse}
use Rattle.session.proofs.Used.{padded_front, name_short, kept_used, fills_inside}
use Rattle.session.proofs.Parted.{plans_are, plans_whole}
use Rattle.filing.proofs.Plotted.{plan_clear, plan_joins}
use Rattle.filing.proofs.Clearing.{at_stocked, at_count, at_bytes}

-- a line for a spoiled form is dropped
pub keeps_spoiled : (l : FormLine) (session : Session) → Tagged (2 ∷ []) session → Minds session (keep l) (Ok 0) session
unfolding obey after_command P.in_spoiled
keeps_spoiled l session h =
    record { minds = λ shelf. record { heeds = λ b. record { obeys = λ a. go shelf b a (seen 2 session a.forms a.number a.state a.here h) } } }
  where
    go : (shelf : Shelf) (b : List ℕ) (a : At session shelf) → a.state ≡ P.spoiled → Does (obey (length b) a.forms a.state (keep l)) (after_command a.number a.forms a.state (keep l)) b b (Ok 0) session shelf
    go shelf b a q = rw q (does_done session shelf a.forms a.number P.spoiled b (a.here ∙ ap (packed_session a.forms a.number) q) a.there)

-- the form that a session collects
record InDraft (session : Session) (fs : List Form) (st : P.Session) : Type 0 where
  name : List ℕ
  lines : List FormLine
  is : st ≡ P.collecting name lines
  here : session ≡ drafting (M.Collecting (length lines)) name (text_of lines)
  draft : Draft width fs name lines

-- a session that collects is in such a state
in_draft : (session : Session) (shelf : Shelf) (a : At session shelf) → Collects session → InDraft session a.forms a.state
unfolding packed_session
in_draft session shelf a c =
    let s = seen 1 session a.forms a.number a.state a.here (ap (λ m. tag_of Mode.the_type m) c.is) in
    record {
      name = s.name;
      lines = s.lines;
      is = s.is;
      here = a.here ∙ ap (packed_session a.forms a.number) s.is;
      draft = rw s.is at a.sane.session;
    }

-- the size of the form's text
draft_size : (session : Session) (fs : List Form) (st : P.Session) (d : InDraft session fs st) → session.held.drafted ≡ length (text_of d.lines)
unfolding drafting drafts
draft_size session fs st d = ap (λ s. s.held.drafted) d.here

-- which stands at the front of the memory
draft_text : (session : Session) (fs : List Form) (st : P.Session) (d : InDraft session fs st) → take session.held.drafted session.text ≡ text_of d.lines
unfolding drafting drafts
draft_text session fs st d = ap (λ s. take s.held.drafted s.text) d.here ∙ padded_front 1024 (text_of d.lines)

-- as does the name
draft_name : (session : Session) (fs : List Form) (st : P.Session) (d : InDraft session fs st) → take session.held.len session.name ≡ d.name
unfolding drafting drafts
draft_name session fs st d = ap (λ s. take s.held.len s.name) d.here ∙ padded_front 16 d.name

-- the memory of a session beside a shelf
pub at_used : (session : Session) (shelf : Shelf) → At session shelf → Used session
at_used session shelf a = kept_used session (record { shelf = shelf; at = a })

-- used bytes are as many as stand at the front
pub text_front : (session : Session) (shelf : Shelf) → At session shelf → session.held.drafted ≡ length (take session.held.drafted session.text)
text_front session shelf a = sym (length-take-le _ _ (omega (arith, fills_inside 1024 _ _ (at_used session shelf a).text)))

pub name_front : (session : Session) (shelf : Shelf) → At session shelf → session.held.len ≡ length (take session.held.len session.name)
name_front session shelf a = sym (length-take-le _ _ (omega (arith, fills_inside 16 _ _ (at_used session shelf a).name)))

-- a line that is told is the first that breaks a rule
told : (o : Option ℕ) (line : ℕ) → Std.Some line ≡ line_number o → o ≡ some line
unfolding line_number
told none line e = cc
told (some n) line e = cc

-- and where none is told no line does
untold : (o : Option ℕ) → Std.None ≡ line_number o → o ≡ none
unfolding line_number
untold none e = refl
untold (some n) e = cc

-- what is no line is none
pub no_line : (r : Std.Option ℕ) → ((line : ℕ) → r ≡ Std.Some line → ⊥) → r ≡ Std.None
no_line Std.None h = refl
no_line (Std.Some line) h = absurd (h line refl)

-- what the check of a session's text says
abbrev pub Tells : Session → Std.Option ℕ → Type 0
Tells session r = (ls : List FormLine) → take session.held.drafted session.text ≡ text_of ls → all_in width ls ≡ true → r ≡ line_number (unsound_at ls)

-- whether a store has room for it
abbrev pub Rooms : Session → Shelf → Bool → Type 0
Rooms session shelf t = t ≡ (ltb shelf.store.count 8 && leb session.held.drafted (4096 - shelf.store.used))

-- a form that is not sound is 9
pub shelves_unsound : (session : Session) (shelf : Shelf) (r : Std.Option ℕ) (line : ℕ) → Drafted session shelf → Tells session r → r ≡ Std.Some line → Shelves session shelf (Err (W.Unsound line)) shelf
unfolding obey packed_session P.in_collecting P.on_finish P.checked refusal_of after_command after_filing
shelves_unsound session shelf r line s t h = record { shelves = λ next e. record { files = λ b. record { obeys = λ a. go next e b a (in_draft session shelf a s.collects) } } }
  where
    go : (next : Session) → next ≡ drafting M.Idle [] [] → (b : List ℕ) (a : At session shelf) → InDraft session a.forms a.state
        → Does (obey (length b) a.forms a.state (file finish)) (after_command a.number a.forms a.state (file finish)) b b (Err (W.Unsound line)) next shelf
    go next e b a d =
        let at : unsound_at d.lines ≡ some line = told _ line (sym h ∙ t d.lines (draft_text session _ _ d) d.draft.inside) in
        rw (d.is, at) (does_refused (W.Unsound line) next shelf a.forms a.number P.idle b e a.there)

-- a form with no such line is sound
sound : (session : Session) (fs : List Form) (st : P.Session) (r : Std.Option ℕ) (d : InDraft session fs st) → Tells session r → r ≡ Std.None → unsound_at d.lines ≡ none
sound session fs st r d t h = untold _ (sym h ∙ t d.lines (draft_text session fs st d) d.draft.inside)

-- and may be stored
storable : (session : Session) (fs : List Form) (st : P.Session) (r : Std.Option ℕ) (d : InDraft session fs st) → Tells session r → r ≡ Std.None → Storable width d.lines
storable session fs st r d t h = record { inside = d.draft.inside; limits = d.draft.limits; sound = sound session fs st r d t h }

-- the store's room is the paper's
room_told : (session : Session) (shelf : Shelf) (t : Bool) (a : At session shelf) (d : InDraft session a.forms a.state) → Rooms session shelf t → t ≡ has_room a.forms d.lines
unfolding has_room
room_told session shelf t a d h =
    let count = at_count session shelf a in
    let bytes = at_bytes session shelf a in
    h ∙ rw (count, bytes, draft_size session a.forms a.state d)

-- a form for which there is no room is 11
pub shelves_full : (session : Session) (shelf : Shelf) (r : Std.Option ℕ) (t : Bool) → Drafted session shelf → Tells session r → r ≡ Std.None → Rooms session shelf t → not t ≡ true
    → Shelves session shelf (Err W.NoRoom) shelf
unfolding obey packed_session P.in_collecting P.on_finish P.checked refusal_of after_command after_filing
shelves_full session shelf r t s l h m n = record { shelves = λ next e. record { files = λ b. record { obeys = λ a. go next e b a (in_draft session shelf a s.collects) } } }
  where
    go : (next : Session) → next ≡ drafting M.Idle [] [] → (b : List ℕ) (a : At session shelf) → InDraft session a.forms a.state
        → Does (obey (length b) a.forms a.state (file finish)) (after_command a.number a.forms a.state (file finish)) b b (Err W.NoRoom) next shelf
    go next e b a d =
        let full : has_room a.forms d.lines ≡ false = sym (room_told session shelf t a d m) ∙ not-true t n in
        rw (d.is, sound session _ _ r d l h, if_false (has_room a.forms d.lines) _ _ full) (does_refused W.NoRoom next shelf a.forms a.number P.idle b e a.there)

-- where there is room there are less than eight forms
pub room_few : (session : Session) (shelf : Shelf) (t : Bool) → Rooms session shelf t → not t ≡ false → shelf.store.count < 8
room_few session shelf t m y = ltb-true shelf.store.count 8 (and_left _ _ (sym m ∙ not-false t y))

-- and the store can take the form
pub room_spare : (session : Session) (shelf : Shelf) (t : Bool) → Drafted session shelf → Rooms session shelf t → not t ≡ false
    → Spare shelf.store (take session.held.len session.name) (take session.held.drafted session.text)
room_spare session shelf t s m y =
    let a = s.at in
    let d = in_draft session shelf a s.collects in
    let fits = leb-true session.held.drafted (4096 - shelf.store.used) (and_right (ltb shelf.store.count 8) _ (sym m ∙ not-false t y)) in
    let stocked = at_stocked session shelf a in
    record {
      stocked = stocked;
      few = room_few session shelf t m y;
      room = omega (arith, text_front session shelf a, fits, stocked.room);
      short = rw (draft_name session a.forms a.state d) (name_short d.name d.draft.named);
    }

-- there is room for its plan
pub plan_inside : (session : Session) (shelf : Shelf) (t : Bool) → Drafted session shelf → Rooms session shelf t → not t ≡ false → shelf.store.count * 232 + 232 ≤ length shelf.plans
plan_inside session shelf t s m y =
    let a = s.at in
    let whole = plans_whole shelf a.forms a.there a.sane.forms in
    omega (arith, whole, room_few session shelf t m y)

-- the numbers from a place to the end of the plan there
abbrev wide : ℕ → ℕ
wide at = at + 232 - at

wide_plan : (at : ℕ) → wide at ≡ 232
wide_plan at = omega arith

-- and a plan can be made there
pub draft_plannable : (session : Session) (shelf : Shelf) (r : Std.Option ℕ) (t : Bool) → Drafted session shelf → Tells session r → r ≡ Std.None → Rooms session shelf t → not t ≡ false
    → Plannable (take session.held.drafted session.text) (take (wide (shelf.store.count * 232)) (drop (shelf.store.count * 232) shelf.plans))
draft_plannable session shelf r t s l h m y =
    let a = s.at in
    let d = in_draft session shelf a s.collects in
    let count = at_count session shelf a in
    record {
      lines = d.lines;
      is = draft_text session a.forms a.state d;
      storable = storable session a.forms a.state r d l h;
      clear = plan_clear shelf.plans a.forms _ _ (plans_are shelf a.forms a.there) a.sane.forms.each (omega (arith, room_few session shelf t m y)) (ap (λ n. n * 232) count) (wide_plan (shelf.store.count * 232));
    }

-- the entries with one form more
entries_stored : (fs : List Form) (name : List ℕ) (ls : List FormLine) → entries_of (stored fs name ls) ≡ entries_of fs ++ (entry name (text_of ls) ∷ [])
unfolding entries_of stored
entries_stored [] name ls = refl
entries_stored (f ∷ fs) name ls = ap (λ es. entry f.name (text_of f.lines) ∷ es) (entries_stored fs name ls)

-- plans with one more at a place
abbrev pasted : List ℕ → ℕ → List ℕ → List ℕ
pasted plans at plan = take at plans ++ (plan ++ drop (wide at) (drop at plans))

-- the shelf with one form more
shelf_stored : (session : Session) (shelf : Shelf) (r : Std.Option ℕ) (plan : List ℕ) (more : Store) (a : At session shelf) (d : InDraft session a.forms a.state) → Tells session r → r ≡ Std.None
    → shelf.store.count < 8 → Plans (take session.held.drafted session.text) plan
    → Joins shelf.store (take session.held.len session.name) (take session.held.drafted session.text) more
    → record { store = more; plans = pasted shelf.plans (shelf.store.count * 232) plan } ≡ packed_shelf (stored a.forms d.name d.lines)
unfolding packed_shelf stored
shelf_stored session shelf r plan more a d l h few p j =
    let text = draft_text session a.forms a.state d in
    let name = draft_name session a.forms a.state d in
    let s = storable session a.forms a.state r d l h in
    let count = at_count session shelf a in
    let store : more ≡ packed (entries_of (stored a.forms d.name d.lines)) =
    j.joins (entries_of a.forms) (ap (λ x. x.store) a.there) ∙ rw (text, name, entries_stored) in
    let plans : pasted shelf.plans (shelf.store.count * 232) plan ≡ padded 1856 (plans_of (stored a.forms d.name d.lines)) =
    ap (pasted shelf.plans (shelf.store.count * 232)) (p.plans d.lines text s)
    ∙ plan_joins shelf.plans a.forms _ _ (record { name = d.name; lines = d.lines }) (plans_are shelf a.forms a.there) a.sane.forms.each (omega (arith, few)) (ap (λ n. n * 232) count) (wide_plan (shelf.store.count * 232)) s in
    λ i. record { store = store i; plans = plans i }

-- a sound form for which there is room is stored
pub shelves_stored : (session : Session) (shelf : Shelf) (r : Std.Option ℕ) (t : Bool) (plan : List ℕ) (more : Store) → Drafted session shelf → Tells session r → r ≡ Std.None → Rooms session shelf t → not t ≡ false
    → Plans (take session.held.drafted session.text) plan
    → Joins shelf.store (take session.held.len session.name) (take session.held.drafted session.text) more
    → Shelves session shelf (Ok 0) (record { store = more; plans = pasted shelf.plans (shelf.store.count * 232) plan })
unfolding obey packed_session P.in_collecting P.on_finish P.checked after_command after_filing
shelves_stored session shelf r t plan more s l h m y p j = record { shelves = λ next e. record { files = λ b. record { obeys = λ a. go next e b a (in_draft session shelf a s.collects) } } }
  where
    new : Shelf
    new = record { store = more; plans = pasted shelf.plans (shelf.store.count * 232) plan }

    go : (next : Session) → next ≡ drafting M.Idle [] [] → (b : List ℕ) (a : At session shelf) → InDraft session a.forms a.state
        → Does (obey (length b) a.forms a.state (file finish)) (after_command a.number a.forms a.state (file finish)) b b (Ok 0) next new
    go next e b a d =
        let room : has_room a.forms d.lines ≡ true = sym (room_told session shelf t a d m) ∙ not-false t y in
        let holds : new ≡ packed_shelf (stored a.forms d.name d.lines) = shelf_stored session shelf r plan more a d l h (room_few session shelf t m y) p j in
        rw (d.is, sound session _ _ r d l h, if_true (has_room a.forms d.lines) _ _ room) (does_done next new (stored a.forms d.name d.lines) a.number P.idle b e holds)

-- and the session is Idle
pub files_shelved : (session : Session) (shelf : Shelf) (answer : Result ℕ Refusal) (next : Session) (more : Shelf) → Shelves session shelf answer more → next ≡ drafting M.Idle [] [] → Files session shelf (file finish) answer next more
files_shelved session shelf answer next more h e = h.shelves next e

-- the stored forms stay
pub files_beside : (session : Session) (shelf : Shelf) (c : C.Command) (answer : Result ℕ Refusal) (next : Session) → Minds session c answer next → Files session shelf c answer next shelf
files_beside session shelf c answer next m = record { files = λ b. (m.minds shelf).heeds b }

-- the same session in Idle
abbrev idle : Session → Session
idle s = session_of (record { mode = M.Idle; form = s.held.form; start = s.held.start; size = s.held.size; len = s.held.len; drafted = s.held.drafted; given = s.held.given }) s.name s.text s.answers s.values

-- `FE` of a spoiled form is 8
pub finishes_spoiled : (session : Session) → Tagged (2 ∷ []) session → Minds session (file finish) (Err W.IsSpoiled) (idle session)
unfolding obey packed_session drafting drafts P.in_spoiled P.on_finish refusal_of after_command after_filing
finishes_spoiled session h =
    record { minds = λ shelf. record { heeds = λ b. record { obeys = λ a. go shelf b a (seen 2 session a.forms a.number a.state a.here h) } } }
  where
    go : (shelf : Shelf) (b : List ℕ) (a : At session shelf) → a.state ≡ P.spoiled
        → Does (obey (length b) a.forms a.state (file finish)) (after_command a.number a.forms a.state (file finish)) b b (Err W.IsSpoiled) (idle session) shelf
    go shelf b a s =
        let is : idle session ≡ packed_session a.forms a.number P.idle = ap idle (a.here ∙ ap (packed_session a.forms a.number) s) in
        rw s (does_refused W.IsSpoiled (idle session) shelf a.forms a.number P.idle b is a.there)

-- the limits of a form in numbers
record Limits (ls : List FormLine) : Type 0 where
  bytes : length (text_of ls) ≤ 1024
  lines : length ls ≤ 40

-- what the test of the limits says
limited : (ls : List FormLine) → within_limits ls ≡ true → Limits ls
unfolding within_limits
limited ls e = record { bytes = leb-true _ 1024 (and_left _ _ e); lines = leb-true _ 40 (and_right (leb (length (text_of ls)) 1024) _ e) }

-- the memory of the text
pub text_whole : (session : Session) → Kept session → length session.text ≡ 1024
text_whole session k = let f = (kept_used session k).text in ap length f.is ∙ padded_length 1024 f.bytes f.room

-- its used bytes
pub text_short : (session : Session) → Kept session → session.held.drafted ≤ 1024
text_short session k = let f = (kept_used session k).text in omega (arith, f.counts, f.room)

-- a record that was read can be written
pub reads_written : (s : List ℕ) (c : Command) → IsRead s c → Keeps s c → (record_held s c ≡ true) × (readable (view_of s c) ≡ true)
unfolding readable
reads_written s c h k = (stand_held s c h.stand, rw k.is (read_in_range width s (keep k.line) (sym h.view ∙ k.is)))

-- what is written of it is the line's text
keeps_text : (s : List ℕ) (c : Command) (k : Keeps s c) → reading_text (view_of s c) ≡ line_text k.line
unfolding reading_text normal
keeps_text s c k = rw k.is

-- the text with one line more
text_more : (ls : List FormLine) (l : FormLine) → text_of (ls ++ (l ∷ [])) ≡ text_of ls ++ (line_text l ++ (10 ∷ []))
unfolding text_of lines_text normal
text_more [] l = refl
text_more (k ∷ ls) l = rw (text_more ls l, append_assoc)

-- and its length
size_more : (ls : List FormLine) (l : FormLine) → length (text_of (ls ++ (l ∷ []))) ≡ length (text_of ls) + length (line_text l) + 1
size_more ls l = rw (text_more ls l, length-append, length-append) (omega arith)

-- the lines that a session counts
counted : (session : Session) (fs : List Form) (st : P.Session) (lines : ℕ) (d : InDraft session fs st) → session.held.mode ≡ M.Collecting lines → lines ≡ length d.lines
unfolding drafting drafts
counted session fs st lines d m =
    let same : M.Collecting lines ≡ M.Collecting (length d.lines) = sym m ∙ ap (λ s. s.held.mode) d.here in
    cc

-- a step that refuses a line beyond the limits obeys it
minds_overfull : (session : Session) (lines : ℕ) (l : FormLine) (answer : Result ℕ Refusal) (next : Session) → session.held.mode ≡ M.Collecting lines
    → ((fs : List Form) (st : P.Session) (d : InDraft session fs st) → Limits (d.lines ++ (l ∷ [])) → ⊥)
    → Refuses W.Overfull session answer next → Minds session (keep l) answer next
unfolding obey P.in_collecting P.collected refusal_of after_command
minds_overfull session lines l answer next m over r =
    record { minds = λ shelf. record { heeds = λ b. record { obeys = λ a. go shelf b a (in_draft session shelf a (record { lines = lines; is = m })) } } }
  where
    go : (shelf : Shelf) (b : List ℕ) (a : At session shelf) → InDraft session a.forms a.state
        → Does (obey (length b) a.forms a.state (keep l)) (after_command a.number a.forms a.state (keep l)) b b answer next shelf
    go shelf b a d =
        let full : within_limits (d.lines ++ (l ∷ [])) ≡ false = either (within_limits (d.lines ++ (l ∷ []))) (λ y. absurd (over _ _ d (limited _ y))) (λ n. n) in
        rw (d.is, if_false (within_limits (d.lines ++ (l ∷ []))) _ _ full)
        (does_refuse W.Overfull session answer next r shelf a.forms a.number (P.collecting d.name d.lines) b (a.here ∙ ap (packed_session a.forms a.number) d.is) a.there)

-- a form with this line would have too many bytes
pub keeps_long : (session : Session) (lines : ℕ) (s : List ℕ) (c : Command) (old out : List ℕ) (n : ℕ) (answer : Result ℕ Refusal) (next : Session) (k : Keeps s c) → session.held.mode ≡ M.Collecting lines
    → Writes old 0 (reading_text (view_of s c)) out n → 1023 < session.held.drafted + n → Refuses W.Overfull session answer next → Minds session (keep k.line) answer next
keeps_long session lines s c old out n answer next k m w h r =
    minds_overfull session lines k.line answer next m
    (λ fs st d x. omega (arith, draft_size session fs st d, w.ends, ap length (keeps_text s c k), size_more d.lines k.line, x.bytes))
    r

-- or too many lines
pub keeps_many : (session : Session) (lines : ℕ) (l : FormLine) (answer : Result ℕ Refusal) (next : Session) → session.held.mode ≡ M.Collecting lines → 39 < lines
    → Refuses W.Overfull session answer next → Minds session (keep l) answer next
keeps_many session lines l answer next m h r =
    minds_overfull session lines l answer next m (λ fs st d x. omega (arith, counted session fs st lines d m, length-append d.lines (l ∷ []), x.lines)) r

-- the numbers with one line more
abbrev longer : Held → (lines drafted : ℕ) → Held
longer h lines drafted = record { mode = M.Collecting (lines + 1); form = h.form; start = h.start; size = h.size; len = h.len; drafted = drafted; given = h.given }

-- the session with one line more
more_held : (session : Session) (fs : List Form) (n : ℕ) (st : P.Session) (lines : ℕ) (l : FormLine) (mid new : List ℕ) (end size : ℕ) (d : InDraft session fs st)
    → session.held.mode ≡ M.Collecting lines → Writes session.text session.held.drafted (line_text l) mid end → Writes mid end (10 ∷ []) new size → size ≤ 1024
    → session_of (longer session.held lines size) session.name new session.answers session.values
    ≡ packed_session fs n (P.collecting d.name (d.lines ++ (l ∷ [])))
unfolding packed_session drafting drafts
more_held session fs n st lines l mid new end size d m p q h =
    let w = writes_then _ _ (line_text l) mid end (10 ∷ []) new size p q in
    let was : session.text ≡ padded 1024 (text_of d.lines) = ap (λ s. s.text) d.here in
    let before = draft_size session fs st d in
    let count : lines + 1 ≡ length (d.lines ++ (l ∷ [])) = omega (arith, counted session fs st lines d m, length-append d.lines (l ∷ [])) in
    let ends : size ≡ length (text_of (d.lines ++ (l ∷ []))) = w.ends ∙ rw (before, text_more d.lines l, length-append (text_of d.lines)) in
    let text : new ≡ padded 1024 (text_of (d.lines ++ (l ∷ []))) =
    w.is ∙ rw (was, before, text_more d.lines l) (padded_write 1024 (text_of d.lines) (line_text l ++ (10 ∷ [])) (omega (arith, w.ends))) in
    λ j. record {
      held = record { mode = M.Collecting (count j); form = (d.here j).held.form; start = (d.here j).held.start; size = (d.here j).held.size; len = (d.here j).held.len; drafted = ends j; given = (d.here j).held.given };
      name = (d.here j).name;
      text = text j;
      answers = (d.here j).answers;
      values = (d.here j).values;
    }

-- a line within the limits is kept
pub keeps_more : (session : Session) (lines : ℕ) (s : List ℕ) (c : Command) (old out : List ℕ) (n : ℕ) (mid : List ℕ) (end : ℕ) (new : List ℕ) (size : ℕ) (k : Keeps s c)
    → session.held.mode ≡ M.Collecting lines
    → Writes old 0 (reading_text (view_of s c)) out n → session.held.drafted + n ≤ 1023 → lines ≤ 39
    → Writes session.text session.held.drafted (take n out) mid end → Writes mid end (10 ∷ []) new size
    → Minds session (keep k.line) (Ok 0) (session_of (longer session.held lines size) session.name new session.answers session.values)
unfolding obey P.in_collecting P.collected within_limits after_command
keeps_more session lines s c old out n mid end new size k m w h few p q =
    record { minds = λ shelf. record { heeds = λ b. record { obeys = λ a. go shelf b a (in_draft session shelf a (record { lines = lines; is = m })) } } }
  where
    next : Session
    next = session_of (longer session.held lines size) session.name new session.answers session.values

    line : take n out ≡ line_text k.line
    line = writes_take old 0 (reading_text (view_of s c)) out n w ∙ keeps_text s c k

    go : (shelf : Shelf) (b : List ℕ) (a : At session shelf) → InDraft session a.forms a.state
        → Does (obey (length b) a.forms a.state (keep k.line)) (after_command a.number a.forms a.state (keep k.line)) b b (Ok 0) next shelf
    go shelf b a d =
        let ls = d.lines ++ (k.line ∷ []) in
        let bytes : length (text_of ls) ≤ 1024 = omega (arith, draft_size session a.forms a.state d, w.ends, ap length (keeps_text s c k), size_more d.lines k.line) in
        let count : length ls ≤ 40 = omega (arith, counted session a.forms a.state lines d m, length-append d.lines (k.line ∷ [])) in
        let fits : within_limits ls ≡ true = and_both _ _ (le-leb _ 1024 bytes) (le-leb _ 40 count) in
        let ends : size ≤ 1024 = omega (arith, p.ends, q.ends, ap length line, ap length (keeps_text s c k), w.ends) in
        let is = more_held session a.forms a.number a.state lines k.line mid new end size d m (rw line at p) q ends in
        rw (d.is, if_true (within_limits ls) _ _ fits) (does_done next shelf a.forms a.number (P.collecting d.name ls) b is a.there)
