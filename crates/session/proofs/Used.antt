-- The used bytes of a session: what each of its slices holds at the front, and that it has room there.
use Prim.Native.Nat.{ℕ, ◌+◌, ◌-◌, ◌≤◌}
use mathlib.Core.Path.{◌≡◌, refl, ◌∙◌}
use mathlib.Core.Bool.{true, false≢true}
use mathlib.Core.List.{List, [], ◌++◌, ◌∷◌}
use native.Mathlib.Omega.{arith}
use lib.ListN.{length, take, drop, replicate, length-replicate, replicate-append-replicate}
use lib.Seq.{take_all, take-append_seam, drop_at}
use lib.Dec.{leb}
use borrow.Author.Tests.{leb-true}
use Rattle.paper.specs.Byte.{every}
use Rattle.paper.specs.Command.{Define, FormLine, is_name, is_name_byte}
use Rattle.paper.specs.Form.{Form, text_of, within_limits, asked}
use Rattle.paper.specs.Set.{fits}
use Rattle.paper.specs.Bench as P
use Rattle.paper.specs.State.{Sane, Storable, fitting}
use Rattle.paper.proofs.Law.{and_left, and_right}
use Rattle.text.specs.Write.{padded}
use Rattle.text.proofs.Padded.{padded_length}
use Rattle.command.specs.View.{width}
use Rattle.set.specs.Answers.{answers_text, values_in}
use Rattle.set.proofs.Keeping.{from_length}
use Rattle.session.specs.Memory.{Session, drafts, drafting, holds, holding, packed_session}
use Rattle.session.specs.Outcome.{Kept, Fills, Used}
use Rattle.session.specs.declared.state.Mode.{Mode}
use Rattle.session.proofs.Room.{answers_room}

-- the front of a padded list is the list
pub padded_front : (n : ℕ) (xs : List ℕ) → take (length xs) (padded n xs) ≡ xs
unfolding padded
padded_front n xs = rw take-append_seam

-- a name has at most sixteen bytes
pub name_short : (name : List ℕ) → is_name name ≡ true → length name ≤ 16
unfolding is_name
name_short name h = leb-true (length name) 16 (and_right (leb 1 (length name)) _ (and_left _ (every is_name_byte name) h))

-- the values of any answers have their place
values_whole : (ls : List FormLine) (given : List (List ℕ)) → length (values_in (asked ls) given) ≡ 104
unfolding values_in
values_whole ls given = from_length 0 (replicate 104 0) (asked ls) given ∙ length-replicate {A = ℕ} 104 0

-- bytes that have room
fills : (size : ℕ) (bytes : List ℕ) → length bytes ≤ size → Fills size (padded size bytes) (length bytes)
fills size bytes h = record { bytes = bytes; is = refl; counts = refl; room = h }

-- a session that holds a draft
used_draft : (mode : Mode) (name text : List ℕ) → length name ≤ 16 → length text ≤ 1024 → Used (drafting mode name text)
unfolding drafting drafts
used_draft mode name text h k =
    record { name = fills 16 name h; text = fills 1024 text k; answers = fills 1700 [] (omega arith); values = length-replicate {A = ℕ} 104 0 }

-- and one that holds a form open
used_open : (mode : Mode) (fs : List Form) (n : ℕ) (ls : List FormLine) (given : List (List ℕ)) → Storable width ls → fitting (take (length given) (asked ls)) given ≡ true
    → Used (holding mode fs n ls given)
unfolding holding holds
used_open mode fs n ls given s f =
    record { name = fills 16 [] (omega arith); text = fills 1024 [] (omega arith); answers = fills 1700 (answers_text given) (answers_room ls given s f); values = values_whole ls given }

-- answers to all definitions are answers to the first of them
fitting_count : (ls : List FormLine) (given : List (List ℕ)) → fitting (asked ls) given ≡ true → fitting (take (length given) (asked ls)) given ≡ true
unfolding fitting
fitting_count ls given f = rw (take_all (length given) (asked ls) (few (asked ls) given f)) f
  where
    few : (ds : List Define) (given : List (List ℕ)) → fitting ds given ≡ true → length ds ≤ length given
    few [] given f = omega arith
    few (d ∷ ds) [] f = absurd (false≢true f)
    few (d ∷ ds) (a ∷ more) f = omega (arith, few ds more (and_right (fits d a) _ f))

-- each of the paper's states
used_state : (fs : List Form) (n : ℕ) (st : P.Session) → Sane width (record { forms = fs; session = st }) → Used (packed_session fs n st)
unfolding packed_session within_limits fitting
used_state fs n P.idle s = used_draft _ [] [] (omega arith) (omega arith)
used_state fs n (P.collecting name ls) s =
    let d = s.session in
    used_draft _ name (text_of ls) (name_short name d.named) (leb-true _ 1024 (and_left _ _ d.limits))
used_state fs n P.spoiled s = used_draft _ [] [] (omega arith) (omega arith)
used_state fs n (P.opened ls) s = used_open _ fs n ls [] s.session.0 refl
used_state fs n (P.answering ls given) s = used_open _ fs n ls given s.session.0 s.session.2
used_state fs n (P.ready ls given) s = used_open _ fs n ls given s.session.0 (fitting_count ls given s.session.1)
used_state fs n (P.printing ls given k c i) s = used_open _ fs n ls given s.session.0 (fitting_count ls given s.session.1)

-- a session beside a shelf has its memory
pub kept_used : (session : Session) → Kept session → Used session
kept_used session k = rw k.at.here (used_state k.at.forms k.at.number k.at.state k.at.sane)

-- used bytes lie within their memory
pub fills_inside : (size : ℕ) (memory : List ℕ) (used : ℕ) → Fills size memory used → used ≤ length memory
fills_inside size memory used f = rw (f.is, padded_length size f.bytes f.room) (omega (arith, f.counts, f.room))

-- where they are wiped nothing is used
pub wiped : (size : ℕ) (memory : List ℕ) (used : ℕ) (new : List ℕ) → Fills size memory used → new ≡ replicate used 0 ++ drop used memory → new ≡ padded size []
unfolding padded
wiped size memory used new f w =
    let place : used ≡ length f.bytes = f.counts in
    let sum : length f.bytes + (size - length f.bytes) ≡ size - 0 = omega (arith, f.room) in
    w ∙ rw (place, f.is, drop_at f.bytes (replicate (size - length f.bytes) 0) (length f.bytes) refl, replicate-append-replicate, sum)

-- a session whose used bytes are wiped
pub fresh_wiped : (session : Session) (mode : Mode) (name text answers values : List ℕ) → Used session
    → name ≡ replicate session.held.len 0 ++ drop session.held.len session.name
    → text ≡ replicate session.held.drafted 0 ++ drop session.held.drafted session.text
    → answers ≡ replicate session.held.given 0 ++ drop session.held.given session.answers
    → values ≡ replicate (length session.values) 0
    → record { held = record { mode = mode; form = 0; start = 0; size = 0; len = 0; drafted = 0; given = 0 }; name = name; text = text; answers = answers; values = values } ≡ drafting mode [] []
unfolding drafting drafts
fresh_wiped session mode name text answers values u a b c d =
    let p = wiped 16 _ _ name u.name a in
    let q = wiped 1024 _ _ text u.text b in
    let r = wiped 1700 _ _ answers u.answers c in
    rw (p, q, r, d, u.values)
