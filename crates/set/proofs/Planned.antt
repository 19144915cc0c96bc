-- A plan in memory: where each definition and each piece stands, that pieces lie in the text, and that their values are defined.
use Prim.Native.Nat.{ℕ, zero, suc, ◌+◌, ◌-◌, ◌*◌, ◌≤◌, ◌<◌}
use mathlib.Core.Path.{◌≡◌, refl, sym, ◌∙◌, ap}
use mathlib.Core.Bool.{Bool, true, false}
use mathlib.Core.List.{List, [], ◌∷◌, ◌++◌, append_assoc, append-nil}
use mathlib.Core.Option.{none}
use native.Mathlib.Omega.{arith}
use lib.ListN.{length, drop, get_or, replicate, length-append, length-drop}
use lib.Seq.{get_or-drop, drop-drop, drop_at}
use Rattle.paper.specs.Command as P
use Rattle.paper.specs.Command.{FormLine}
use Rattle.paper.specs.Form.{text_of, asked, value_of, len_of, defined, is_some, content_sound, draw_sound, value_sound, first_broken}
use Rattle.paper.specs.Line.{lf}
use Rattle.paper.specs.Write.{draw_text, define_text, line_text, normal, lines_text}
use Rattle.paper.proofs.Test.{Passed}
use Rattle.paper.proofs.Filled.{broken_cons}
use Rattle.text.specs.Write.{padded}
use Rattle.text.proofs.Padded.{padded_length}
use Rattle.form.specs.Plan.{number_of, kind_of, step_size, defines_in, Shows, nothing, value, Piece, shows_of, unless_none, if_value, opens_at, past, pieces, behind_in, pieces_in, plan_of}
use Rattle.form.proofs.Memory.{defines_length}
use Rattle.form.proofs.Distinct.{some_more}

-- the numbers from a place on
pub read_first : (plan : List ℕ) (at : ℕ) (xs : List ℕ) → drop at plan ≡ xs → get_or plan at 0 ≡ get_or xs 0 0
read_first plan at xs e = let none : at + 0 ≡ at = omega arith in rw none at (sym (get_or-drop at plan 0 0) ∙ ap (λ l. get_or l 0 0) e)

pub read_at : (plan : List ℕ) (at j : ℕ) (xs : List ℕ) → drop at plan ≡ xs → get_or plan (at + j) 0 ≡ get_or xs j 0
read_at plan at j xs e = sym (get_or-drop at plan j 0) ∙ ap (λ l. get_or l j 0) e

pub read_inside : (plan : List ℕ) (at : ℕ) (xs : List ℕ) → drop at plan ≡ xs → 0 < length xs → at + length xs ≤ length plan
read_inside plan at xs e h = omega (arith, simp length-drop at (ap length e))

pub read_behind : (plan : List ℕ) (at n : ℕ) (xs : List ℕ) → drop at plan ≡ xs → drop (at + n) plan ≡ drop n xs
read_behind plan at n xs e = sym (drop-drop n at plan) ∙ ap (drop n) e

-- definitions that stand in a plan from the k-th on
pub defines_next : (plan rest : List ℕ) (k : ℕ) (d : P.Define) (ds : List P.Define) → drop (2 + k * 4) plan ≡ defines_in (d ∷ ds) ++ rest → drop (2 + (k + 1) * 4) plan ≡ defines_in ds ++ rest
unfolding defines_in
defines_next plan rest k d ds e =
    let place : 2 + (k + 1) * 4 ≡ 2 + k * 4 + 4 = omega arith in
    rw place (read_behind plan (2 + k * 4) 4 _ e)

-- the k-th of them
pub record Defined (plan : List ℕ) (k : ℕ) (d : P.Define) : Type 0 where
  pub kind : get_or plan (2 + k * 4) 0 ≡ kind_of d
  pub len : get_or plan (2 + k * 4 + 1) 0 ≡ len_of d
  pub step : get_or plan (2 + k * 4 + 2) 0 ≡ step_size d
  pub value : get_or plan (2 + k * 4 + 3) 0 ≡ number_of (value_of d)
  pub inside : 2 + k * 4 + 3 < length plan

pub define_stands : (plan rest : List ℕ) (k : ℕ) (d : P.Define) (ds : List P.Define) → drop (2 + k * 4) plan ≡ defines_in (d ∷ ds) ++ rest → Defined plan k d
unfolding defines_in
define_stands plan rest k d ds e =
    record {
      kind = read_first plan (2 + k * 4) _ e;
      len = read_at plan (2 + k * 4) 1 _ e;
      step = read_at plan (2 + k * 4) 2 _ e;
      value = read_at plan (2 + k * 4) 3 _ e;
      inside = omega (arith, read_inside plan (2 + k * 4) _ e (omega arith));
    }

-- the plan of a form has its definitions from 2 on
pub plan_defines : (ls : List FormLine) → drop 2 (plan_of ls) ≡ defines_in (asked ls) ++ (replicate (104 - length (defines_in (asked ls))) 0 ++ padded 126 (pieces_in (pieces 0 0 ls)))
unfolding plan_of padded
plan_defines ls = append_assoc (defines_in (asked ls)) _ _

-- and the k-th of them
defines_from : (plan rest : List ℕ) (ds : List P.Define) (j k : ℕ) (d : P.Define) (more : List P.Define) → drop (2 + j * 4) plan ≡ defines_in ds ++ rest → drop k ds ≡ d ∷ more → Defined plan (j + k) d
defines_from plan rest [] j zero d more e q = let z : ◌≡◌ {A = ℕ} 0 1 = cc in absurd (omega arith)
defines_from plan rest [] j (suc k) d more e q = let z : ◌≡◌ {A = ℕ} 0 1 = cc in absurd (omega arith)
defines_from plan rest (x ∷ ds) j zero d more e q =
    let none : j + 0 ≡ j = omega arith in
    rw none (define_stands plan rest j d more (e ∙ ap (λ l. defines_in l ++ rest) q))
defines_from plan rest (x ∷ ds) j (suc k) d more e q =
    let place : j + suc k ≡ j + 1 + k = omega arith in
    rw place (defines_from plan rest ds (j + 1) k d more (defines_next plan rest j x ds e) q)

pub plan_define : (ls : List FormLine) (k : ℕ) (d : P.Define) (more : List P.Define) → drop k (asked ls) ≡ d ∷ more → Defined (plan_of ls) k d
plan_define ls k d more q =
    let front : 0 + k ≡ k = omega arith in
    rw front at (defines_from (plan_of ls) _ (asked ls) 0 k d more (plan_defines ls) q)

padded_is : (xs : List ℕ) → padded 126 xs ≡ xs ++ replicate (126 - length xs) 0
unfolding padded
padded_is xs = refl

pieces_behind : (ls : List FormLine) → length (padded 104 (defines_in (asked ls))) ≡ 104 → drop 104 (drop 2 (plan_of ls)) ≡ padded 126 (pieces_in (pieces 0 0 ls))
unfolding plan_of
pieces_behind ls size = drop_at (padded 104 (defines_in (asked ls))) _ 104 size

-- the pieces stand from 106 on
pub plan_pieces : (ls : List FormLine) → length (asked ls) ≤ 26 → drop 106 (plan_of ls) ≡ pieces_in (pieces 0 0 ls) ++ replicate (126 - length (pieces_in (pieces 0 0 ls))) 0
plan_pieces ls h =
    let size : length (padded 104 (defines_in (asked ls))) ≡ 104 = padded_length 104 _ (omega (arith, defines_length (asked ls))) in
    sym (drop-drop 104 2 (plan_of ls)) ∙ pieces_behind ls size ∙ padded_is (pieces_in (pieces 0 0 ls))

-- the counts of a plan
pub plan_asks : (ls : List FormLine) → get_or (plan_of ls) 0 0 ≡ length (asked ls)
unfolding plan_of
plan_asks ls = refl

pub plan_shows : (ls : List FormLine) → get_or (plan_of ls) 1 0 ≡ length (pieces 0 0 ls)
unfolding plan_of
plan_shows ls = refl

pub plan_counts : (ls : List FormLine) → 1 < length (plan_of ls)
unfolding plan_of
plan_counts ls = omega arith

-- pieces that stand in a plan from the k-th on
pub pieces_next : (plan rest : List ℕ) (k : ℕ) (p : Piece) (ps : List Piece) → drop (106 + k * 3) plan ≡ pieces_in (p ∷ ps) ++ rest → drop (106 + (k + 1) * 3) plan ≡ pieces_in ps ++ rest
unfolding pieces_in
pieces_next plan rest k p ps e =
    let place : 106 + (k + 1) * 3 ≡ 106 + k * 3 + 3 = omega arith in
    rw place (read_behind plan (106 + k * 3) 3 _ e)

pub record Pieced (plan : List ℕ) (k : ℕ) (p : Piece) : Type 0 where
  pub starts : get_or plan (106 + k * 3) 0 ≡ p.start
  pub ends : get_or plan (106 + k * 3 + 1) 0 ≡ p.end
  pub behinds : get_or plan (106 + k * 3 + 2) 0 ≡ behind_in p.behind
  pub inside : 106 + k * 3 + 2 < length plan

pub piece_stands : (plan rest : List ℕ) (k : ℕ) (p : Piece) (ps : List Piece) → drop (106 + k * 3) plan ≡ pieces_in (p ∷ ps) ++ rest → Pieced plan k p
unfolding pieces_in
piece_stands plan rest k p ps e =
    record {
      starts = read_first plan (106 + k * 3) _ e;
      ends = read_at plan (106 + k * 3) 1 _ e;
      behinds = read_at plan (106 + k * 3) 2 _ e;
      inside = omega (arith, read_inside plan (106 + k * 3) _ e (omega arith));
    }

-- pieces that lie in a text
abbrev pub Inside : ℕ → List Piece → Type 0
Inside size [] = Unit
Inside size (p ∷ ps) = (p.start ≤ p.end) × (p.end ≤ size) × Inside size ps

unless_inside : (t : Bool) (p : Piece) (ps : List Piece) (n : ℕ) → p.start ≤ p.end → p.end ≤ n → Inside n ps → Inside n (unless_none t p ps)
unfolding unless_none
unless_inside true p ps n h k w = w
unless_inside false p ps n h k w = (h, k, w)

if_inside : (s : Shows) (p : Piece) (ps : List Piece) (n : ℕ) → p.start ≤ p.end → p.end ≤ n → Inside n ps → Inside n (if_value s p ps)
unfolding if_value
if_inside nothing p ps n h k w = w
if_inside (value alone v) p ps n h k w = (h, k, w)

-- behind a line no open piece begins
opens_within : (s : Shows) (start at n : ℕ) → start ≤ at → opens_at s start (at + n) ≤ at + (n + 1)
unfolding opens_at
opens_within nothing start at n h = omega arith
opens_within (value alone v) start at n h = omega arith

-- a line more, with its LF
text_longer : (l : FormLine) (ls : List FormLine) → length (text_of (l ∷ ls)) ≡ length (line_text l) + (1 + length (text_of ls))
unfolding text_of lines_text normal
text_longer l ls = length-append (line_text l) (lf ∷ text_of ls) ∙ omega arith

-- the pieces of lines end where the lines do, or before
pub pieces_inside : (ls : List FormLine) (start at size : ℕ) → start ≤ at → at + length (text_of ls) ≡ size → Inside size (pieces start at ls)
unfolding pieces line_text
pieces_inside [] start at size h e = unless_inside _ _ _ _ h (omega arith) tt
pieces_inside (P.define d ∷ ls) start at size h e =
    let more = text_longer (P.define d) ls in
    unless_inside _ _ _ _ h (omega arith) (pieces_inside ls _ _ size (omega arith) (omega arith))
pieces_inside (P.draw d ∷ ls) start at size h e =
    let more = text_longer (P.draw d) ls in
    if_inside (shows_of d) _ _ _ (omega arith) (omega arith) (pieces_inside ls _ _ size (opens_within (shows_of d) start at (length (draw_text d)) h) (omega arith))

-- a value that goes behind a piece is defined
abbrev pub Named : List P.Define → Shows → Type 0
Named ds nothing = Unit
Named ds (value alone v) = is_some (defined v ds) ≡ true

abbrev pub AllNamed : List P.Define → List Piece → Type 0
AllNamed ds [] = Unit
AllNamed ds (p ∷ ps) = Named ds p.behind × AllNamed ds ps

unless_named : (ds : List P.Define) (t : Bool) (p : Piece) (ps : List Piece) → Named ds p.behind → AllNamed ds ps → AllNamed ds (unless_none t p ps)
unfolding unless_none
unless_named ds true p ps n w = w
unless_named ds false p ps n w = (n, w)

if_named : (ds : List P.Define) (s : Shows) (p : Piece) (ps : List Piece) → Named ds p.behind → AllNamed ds ps → AllNamed ds (if_value s p ps)
unfolding if_value
if_named ds nothing p ps n w = w
if_named ds (value alone v) p ps n w = (n, w)

draw_named : (above more : List P.Define) (d : P.Draw) → Passed (draw_sound above d) → Named (above ++ more) (shows_of d)
unfolding draw_sound content_sound shows_of
draw_named above more (P.size p₁ p₂) h = tt
draw_named above more (P.direction d) h = tt
draw_named above more (P.put s (P.text t)) h = tt
draw_named above more (P.put s (P.shown v)) h = some_more v above more h.0
draw_named above more (P.put s (P.joined t v)) h = some_more v above more h.0
draw_named above more (P.bar pen x y w t) h = tt
draw_named above more (P.frame x₁ y₁ t x₂ y₂) h = tt

pub pieces_named : (k : ℕ) (above : List P.Define) (ls : List FormLine) (start at : ℕ) → first_broken k above ls ≡ none → AllNamed (above ++ asked ls) (pieces start at ls)
unfolding pieces asked value_sound
pieces_named k above [] start at e = unless_named (above ++ []) _ _ _ tt tt
pieces_named k above (P.define d ∷ ls) start at e =
    let all = broken_cons k above (P.define d) ls e in
    let next = past at (define_text d) in
    let rest : AllNamed (above ++ (d ∷ asked ls)) (pieces next next ls) = rw append_assoc at (pieces_named (suc k) (above ++ (d ∷ [])) ls next next all.2) in
    unless_named (above ++ (d ∷ asked ls)) _ _ _ tt rest
pieces_named k above (P.draw d ∷ ls) start at e =
    let all = broken_cons k above (P.draw d) ls e in
    let below : first_broken (suc k) above ls ≡ none = rw append-nil at all.2 in
    if_named (above ++ asked ls) (shows_of d) _ _ (draw_named above (asked ls) d all.1) (pieces_named (suc k) above ls _ _ below)
