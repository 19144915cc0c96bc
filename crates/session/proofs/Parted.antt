-- A form's part of what memory holds of all forms: its plan and its text stand where its number says.
use Prim.Native.Nat.{ℕ, zero, suc, ◌+◌, ◌-◌, ◌*◌, ◌≤◌, ◌<◌}
use mathlib.Core.Path.{◌≡◌, refl, sym, ◌∙◌, ap}
use mathlib.Core.Bool.{Bool, true, false}
use mathlib.Core.List.{List, [], ◌∷◌, ◌++◌, append_assoc}
use mathlib.Core.Option.{none, some-ne-none}
use native.Mathlib.Omega.{arith}
use lib.ListN.{length, take, drop, get_or, length-append}
use lib.Seq.{take-append_seam, drop-append-add, get_or-take, get_or-drop}
use lib.Dec.{leb, eqb}
use borrow.Author.Tests.{leb-true}
use Rattle.paper.specs.Byte.{when◌then◌else◌, same}
use Rattle.paper.specs.Command as P
use Rattle.paper.specs.Command.{FormLine}
use Rattle.paper.specs.Form.{Form, text_of, asked, find, used, within_limits}
use Rattle.paper.specs.Write.{draw_text, define_text}
use Rattle.paper.specs.State.{Storable, AllStored, Stored}
use Rattle.paper.proofs.Law.{and_right}
use Rattle.paper.proofs.Test.{either}
use Rattle.text.specs.Write.{padded}
use Rattle.text.proofs.Padded.{padded_length}
use Rattle.command.specs.View.{width}
use Rattle.form.specs.Plan.{Shows, nothing, value, shows_of, gives_way, Piece, unless_none, if_value, opens_at, past, pieces, plan_of}
use Rattle.form.specs.Noting.{plan_in}
use Rattle.form.proofs.Memory.{holds_whole}
use Rattle.form.proofs.Distinct.{asked_few}
use Rattle.store.specs.Packed.{entry, texts_of}
use Rattle.set.proofs.Planned.{plan_asks}
use Rattle.session.specs.Memory.{Shelf, place_of, entries_of, plans_of, packed_shelf, Lies}

-- a line closes at most one piece
unless_more : (t : Bool) (p : Piece) (ps : List Piece) → length (unless_none t p ps) ≤ length ps + 1
unfolding unless_none
unless_more true p ps = omega arith
unless_more false p ps = omega arith

if_more : (s : Shows) (p : Piece) (ps : List Piece) → length (if_value s p ps) ≤ length ps + 1
unfolding if_value
if_more nothing p ps = omega arith
if_more (value alone v) p ps = omega arith

-- and the end of the form another
pieces_few : (ls : List FormLine) (start at : ℕ) → length (pieces start at ls) ≤ length ls + 1
unfolding pieces
pieces_few [] start at = unless_more _ _ []
pieces_few (P.define d ∷ ls) start at =
    let next = past at (define_text d) in
    let rest = pieces_few ls next next in
    omega (arith, unless_more (eqb start at) (record { start = start; end = at; behind = nothing }) (pieces next next ls))
pieces_few (P.draw d ∷ ls) start at =
    let size = length (draw_text d) in
    let rest = pieces_few ls (opens_at (shows_of d) start (at + size)) (past at (draw_text d)) in
    omega (arith, if_more (shows_of d) (record { start = start; end = at + (size - length (gives_way (shows_of d))); behind = shows_of d }) (pieces (opens_at (shows_of d) start (at + size)) (past at (draw_text d)) ls))

-- the plan of a form that may be stored has 232 numbers
pub plan_whole : (ls : List FormLine) → Storable width ls → length (plan_of ls) ≡ 232
unfolding plan_of plan_in within_limits
plan_whole ls s =
    let lines : length ls ≤ 40 = leb-true (length ls) 40 (and_right (leb (length (text_of ls)) 1024) (leb (length ls) 40) s.limits) in
    holds_whole (asked ls) (pieces 0 0 ls) (plan_of ls)
    (record { is = refl; few = asked_few ls s; short = omega (arith, pieces_few ls 0 0) })

-- a form among those that are stored may be stored
pub lies_storable : (fs : List Form) (n : ℕ) (ls : List FormLine) → AllStored width fs → Lies fs n ls → Storable width ls
lies_storable [] n ls h l = absurd l
lies_storable (f ∷ fs) zero ls h l = rw (← l) h.2
lies_storable (f ∷ fs) (suc n) ls h l = lies_storable fs n ls h.3 l

-- it is one of them
pub lies_before : (fs : List Form) (n : ℕ) (ls : List FormLine) → Lies fs n ls → n < length fs
lies_before [] n ls l = absurd l
lies_before (f ∷ fs) zero ls l = omega arith
lies_before (f ∷ fs) (suc n) ls l = omega (arith, lies_before fs n ls l)

-- its text ends within the texts
pub text_ends : (fs : List Form) (n : ℕ) (ls : List FormLine) → Lies fs n ls → place_of fs n + length (text_of ls) ≤ used fs
unfolding place_of used
text_ends [] n ls l = absurd l
text_ends (f ∷ fs) zero ls l = rw (← l) (omega arith)
text_ends (f ∷ fs) (suc n) ls l = omega (arith, text_ends fs n ls l)

-- and stands there, whatever stands behind
text_stands : (fs : List Form) (n : ℕ) (ls : List FormLine) (more : List ℕ) → Lies fs n ls
    → take (length (text_of ls)) (drop (place_of fs n) (texts_of (entries_of fs) ++ more)) ≡ text_of ls
unfolding place_of entries_of entry texts_of
text_stands [] n ls more l = absurd l
text_stands (f ∷ fs) zero ls more l = rw (← l, append_assoc) (take-append_seam (text_of f.lines) _)
text_stands (f ∷ fs) (suc n) ls more l = rw (append_assoc, drop-append-add) (text_stands fs n ls more l)

pub text_part : (fs : List Form) (n : ℕ) (ls : List FormLine) → Lies fs n ls
    → take (length (text_of ls)) (drop (place_of fs n) (padded 4096 (texts_of (entries_of fs)))) ≡ text_of ls
unfolding padded
text_part fs n ls l = text_stands fs n ls _ l

-- so does its plan
plan_stands : (fs : List Form) (n : ℕ) (ls : List FormLine) (more : List ℕ) → AllStored width fs → Lies fs n ls
    → take 232 (drop (n * 232) (plans_of fs ++ more)) ≡ plan_of ls
unfolding plans_of
plan_stands [] n ls more h l = absurd l
plan_stands (f ∷ fs) zero ls more h l =
    let size : length (plan_of ls) ≡ 232 = plan_whole ls (rw (← l) h.2) in
    rw (l, append_assoc, ← size) (take-append_seam (plan_of ls) _)
plan_stands (f ∷ fs) (suc n) ls more h l =
    let past : suc n * 232 ≡ length (plan_of f.lines) + n * 232 = rw (plan_whole f.lines h.2) (omega arith) in
    rw (past, append_assoc, drop-append-add) (plan_stands fs n ls more h.3 l)

pub plan_part : (fs : List Form) (n : ℕ) (ls : List FormLine) → AllStored width fs → Lies fs n ls
    → take 232 (drop (n * 232) (padded 1856 (plans_of fs))) ≡ plan_of ls
unfolding padded
plan_part fs n ls h l = plan_stands fs n ls _ h l

-- so the number at its place says how much the form asks for
pub plan_asks_at : (fs : List Form) (n : ℕ) (ls : List FormLine) → AllStored width fs → Lies fs n ls → get_or (padded 1856 (plans_of fs)) (n * 232) 0 ≡ length (asked ls)
plan_asks_at fs n ls h l =
    let here : n * 232 + 0 ≡ n * 232 = omega arith in
    let plans = padded 1856 (plans_of fs) in
    ap (λ at. get_or plans at 0) (sym here)
    ∙ sym (get_or-drop (n * 232) plans 0 0)
    ∙ sym (get_or-take 232 (drop (n * 232) plans) 0 0 (omega arith))
    ∙ ap (λ xs. get_or xs 0 0) (plan_part fs n ls h l)
    ∙ plan_asks ls

-- 232 numbers for each form
pub plans_length : (fs : List Form) → AllStored width fs → length (plans_of fs) ≡ length fs * 232
unfolding plans_of
plans_length [] h = refl
plans_length (f ∷ fs) h = rw (length-append, plan_whole f.lines h.2, plans_length fs h.3) (omega arith)

-- the plans of two lists of forms
pub plans_both : (fs gs : List Form) → plans_of (fs ++ gs) ≡ plans_of fs ++ plans_of gs
unfolding plans_of
plans_both [] gs = refl
plans_both (f ∷ fs) gs = rw (plans_both fs gs, append_assoc)

-- in memory
pub plans_are : (shelf : Shelf) (fs : List Form) → shelf ≡ packed_shelf fs → shelf.plans ≡ padded 1856 (plans_of fs)
unfolding packed_shelf
plans_are shelf fs e = ap (λ x. x.plans) e

-- where they have their room
pub plans_whole : (shelf : Shelf) (fs : List Form) → shelf ≡ packed_shelf fs → Stored width fs → length shelf.plans ≡ 1856
plans_whole shelf fs e s = rw (plans_are shelf fs e) (padded_length 1856 (plans_of fs) (omega (arith, plans_length fs s.each, s.few)))

-- a form between others has its number
pub lies_between : (before : List Form) (here : Form) (behind : List Form) → Lies (before ++ (here ∷ behind)) (length before) here.lines
lies_between [] here behind = refl
lies_between (f ∷ before) here behind = lies_between before here behind

-- a name that is free among some forms is free among the first of them
free_first : (name : List ℕ) (fs gs : List Form) → find name (fs ++ gs) ≡ none → find name fs ≡ none
unfolding find when◌then◌else◌
free_first name [] gs e = refl
free_first name (f ∷ fs) gs e =
    either (same name f.name) (λ y. absurd (some-ne-none _ (rw y at e))) (λ n. rw n (free_first name fs gs (rw n at e)))

-- forms that may be stored, in two parts
pub stored_both : (fs gs : List Form) → AllStored width (fs ++ gs) → AllStored width fs × AllStored width gs
stored_both [] gs h = (tt, h)
stored_both (f ∷ fs) gs h =
    let (first, rest) = stored_both fs gs h.3 in
    ((h.0, free_first f.name fs gs h.1, h.2, first), rest)
