-- A plan in memory: what a piece or a definition more does to its numbers.
use Prim.Native.Nat.{ℕ, suc, ◌+◌, ◌-◌, ◌*◌, ◌≤◌, ◌<◌}
use mathlib.Core.Path.{◌≡◌, refl, ◌∙◌, ap}
use mathlib.Core.List.{List, [], ◌∷◌, ◌++◌, append_assoc, append-nil}
use native.Mathlib.Omega.{arith}
use lib.ListN.{length, get_or, set, replicate, length-append}
use borrow.Author.Tests.{eq-eqb, ne_eqb}
use Rattle.paper.specs.Command as P
use Rattle.paper.specs.Form.{value_of, len_of}
use Rattle.text.specs.Write.{padded}
use Rattle.text.proofs.Padded.{padded_length}
use Rattle.form.specs.Plan.{number_of, kind_of, step_size, four_at, defines_in, Shows, nothing, Piece, unless_none, behind_in, pieces_in}
use Rattle.form.specs.Noting.{plan_in, Holds, PieceRoom, DefineRoom, PieceNoted, OpenNoted, DefineNoted}

-- three numbers stored one behind the other
set_three : (xs ys : List ℕ) (a b c x y z : ℕ) → set (set (set (xs ++ (a ∷ b ∷ c ∷ ys)) (length xs) x) (suc (length xs)) y) (suc (suc (length xs))) z ≡ xs ++ (x ∷ y ∷ z ∷ ys)
set_three [] ys a b c x y z = refl
set_three (u ∷ xs) ys a b c x y z = ap (λ t. u ∷ t) (set_three xs ys a b c x y z)

-- and four
set_four : (xs ys : List ℕ) (a b c d x y z w : ℕ) → set (set (set (set (xs ++ (a ∷ b ∷ c ∷ d ∷ ys)) (length xs) x) (suc (length xs)) y) (suc (suc (length xs))) z) (suc (suc (suc (length xs)))) w ≡ xs ++ (x ∷ y ∷ z ∷ w ∷ ys)
set_four [] ys a b c d x y z w = refl
set_four (u ∷ xs) ys a b c d x y z w = ap (λ t. u ∷ t) (set_four xs ys a b c d x y z w)

-- at places that are known
three_at : (old xs ys : List ℕ) (i j k x y z : ℕ) → old ≡ xs ++ (0 ∷ 0 ∷ 0 ∷ ys) → i ≡ length xs → j ≡ suc (length xs) → k ≡ suc (suc (length xs)) → set (set (set old i x) j y) k z ≡ xs ++ (x ∷ y ∷ z ∷ ys)
three_at old xs ys i j k x y z o e f g = rw (o, e, f, g) (set_three xs ys 0 0 0 x y z)

four_at_written : (old xs ys : List ℕ) (i j k l x y z w : ℕ) → old ≡ xs ++ (0 ∷ 0 ∷ 0 ∷ 0 ∷ ys) → i ≡ length xs → j ≡ suc (length xs) → k ≡ suc (suc (length xs)) → l ≡ suc (suc (suc (length xs)))
    → set (set (set (set old i x) j y) k z) l w ≡ xs ++ (x ∷ y ∷ z ∷ w ∷ ys)
four_at_written old xs ys i j k l x y z w o e f g h = rw (o, e, f, g, h) (set_four xs ys 0 0 0 0 x y z w)

pieces_length : (ps : List Piece) → length (pieces_in ps) ≡ length ps * 3
unfolding pieces_in
pieces_length [] = refl
pieces_length (p ∷ ps) = omega (arith, pieces_length ps)

pub defines_length : (ds : List P.Define) → length (defines_in ds) ≡ length ds * 4
unfolding defines_in
defines_length [] = refl
defines_length (d ∷ ds) = omega (arith, defines_length ds)

pieces_last : (ps : List Piece) (p : Piece) → pieces_in (ps ++ (p ∷ [])) ≡ pieces_in ps ++ (p.start ∷ p.end ∷ behind_in p.behind ∷ [])
unfolding pieces_in
pieces_last [] p = refl
pieces_last (q ∷ ps) p = ap (λ t. q.start ∷ q.end ∷ behind_in q.behind ∷ t) (pieces_last ps p)

defines_last : (ds : List P.Define) (d : P.Define) → defines_in (ds ++ (d ∷ [])) ≡ defines_in ds ++ (kind_of d ∷ len_of d ∷ step_size d ∷ number_of (value_of d) ∷ [])
unfolding defines_in
defines_last [] d = refl
defines_last (e ∷ ds) d = ap (λ t. kind_of e ∷ len_of e ∷ step_size e ∷ number_of (value_of e) ∷ t) (defines_last ds d)

one_longer : {A : Type 0} (xs : List A) (x : A) → length (xs ++ (x ∷ [])) ≡ length xs + 1
one_longer xs x = length-append xs (x ∷ [])

-- three zeros of so many
zeros_three : (n m : ℕ) → n ≡ m + 3 → replicate {A = ℕ} n 0 ≡ 0 ∷ 0 ∷ 0 ∷ replicate m 0
zeros_three n m e = let same : n ≡ suc (suc (suc m)) = omega arith in rw same

zeros_four : (n m : ℕ) → n ≡ m + 4 → replicate {A = ℕ} n 0 ≡ 0 ∷ 0 ∷ 0 ∷ 0 ∷ replicate m 0
zeros_four n m e = let same : n ≡ suc (suc (suc (suc m))) = omega arith in rw same

-- the numbers before the first free piece
abbrev before_pieces : List P.Define → List Piece → List ℕ
before_pieces ds ps = length ds ∷ length ps ∷ (padded 104 (defines_in ds) ++ pieces_in ps)

before_length : (ds : List P.Define) (ps : List Piece) → length ds ≤ 26 → length (before_pieces ds ps) ≡ 106 + length ps * 3
before_length ds ps h =
    let long = padded_length 104 (defines_in ds) (omega (arith, defines_length ds)) in
    omega (arith, long, length-append (padded 104 (defines_in ds)) (pieces_in ps), pieces_length ps)

pieces_open : (ds : List P.Define) (ps : List Piece) → length ps < 42 → plan_in ds ps ≡ before_pieces ds ps ++ (0 ∷ 0 ∷ 0 ∷ replicate (123 - length ps * 3) 0)
unfolding plan_in padded
pieces_open ds ps h =
    let zeros = zeros_three (126 - length (pieces_in ps)) (123 - length ps * 3) (omega (arith, pieces_length ps)) in
    rw (zeros) (simp append_assoc)

pieces_shut : (ds : List P.Define) (ps : List Piece) (p : Piece) → length ps < 42
    → length ds ∷ (length ps + 1) ∷ ((padded 104 (defines_in ds) ++ pieces_in ps) ++ (p.start ∷ p.end ∷ behind_in p.behind ∷ replicate (123 - length ps * 3) 0)) ≡ plan_in ds (ps ++ (p ∷ []))
unfolding plan_in padded
pieces_shut ds ps p h =
    let left : 126 - length (pieces_in (ps ++ (p ∷ []))) ≡ 123 - length ps * 3 = omega (arith, pieces_length (ps ++ (p ∷ [])), one_longer ps p) in
    rw (left, one_longer ps p, pieces_last) (simp append_assoc)

pub piece_more : (ds : List P.Define) (ps : List Piece) (p : Piece) (i j k : ℕ) → length ds ≤ 26 → length ps < 42 → i ≡ 106 + length ps * 3 → j ≡ i + 1 → k ≡ i + 2
    → set (set (set (set (plan_in ds ps) i p.start) j p.end) k (behind_in p.behind)) 1 (length ps + 1) ≡ plan_in ds (ps ++ (p ∷ []))
piece_more ds ps p i j k few h e f g =
    let size = before_length ds ps few in
    let at₀ : i ≡ length (before_pieces ds ps) = omega arith in
    let at₁ : j ≡ suc (length (before_pieces ds ps)) = omega arith in
    let at₂ : k ≡ suc (suc (length (before_pieces ds ps))) = omega arith in
    ap (λ t. set t 1 (length ps + 1)) (three_at (plan_in ds ps) (before_pieces ds ps) (replicate (123 - length ps * 3) 0) i j k p.start p.end (behind_in p.behind) (pieces_open ds ps h) at₀ at₁ at₂) ∙ pieces_shut ds ps p h

-- the numbers before the first free definition, and those behind the definitions
abbrev before_defines : List P.Define → List Piece → List ℕ
before_defines ds ps = length ds ∷ length ps ∷ defines_in ds

defines_open : (ds : List P.Define) (ps : List Piece) → length ds < 26 → plan_in ds ps ≡ before_defines ds ps ++ (0 ∷ 0 ∷ 0 ∷ 0 ∷ (replicate (100 - length ds * 4) 0 ++ padded 126 (pieces_in ps)))
unfolding plan_in padded
defines_open ds ps h =
    let zeros = zeros_four (104 - length (defines_in ds)) (100 - length ds * 4) (omega (arith, defines_length ds)) in
    rw (zeros) (simp append_assoc)

defines_shut : (ds : List P.Define) (ps : List Piece) (d : P.Define) → length ds < 26
    → (length ds + 1) ∷ length ps ∷ (defines_in ds ++ (kind_of d ∷ len_of d ∷ step_size d ∷ number_of (value_of d) ∷ (replicate (100 - length ds * 4) 0 ++ padded 126 (pieces_in ps)))) ≡ plan_in (ds ++ (d ∷ [])) ps
unfolding plan_in padded
defines_shut ds ps d h =
    let left : 104 - length (defines_in (ds ++ (d ∷ []))) ≡ 100 - length ds * 4 = omega (arith, defines_length (ds ++ (d ∷ [])), one_longer ds d) in
    rw (left, one_longer ds d, defines_last) (simp append_assoc)

pub define_more : (ds : List P.Define) (ps : List Piece) (d : P.Define) (i j k l : ℕ) → length ds < 26 → i ≡ 2 + length ds * 4 → j ≡ i + 1 → k ≡ i + 2 → l ≡ i + 3
    → set (set (set (set (set (plan_in ds ps) i (kind_of d)) j (len_of d)) k (step_size d)) l (number_of (value_of d))) 0 (length ds + 1) ≡ plan_in (ds ++ (d ∷ [])) ps
define_more ds ps d i j k l h e f g m =
    let size = defines_length ds in
    let at₀ : i ≡ length (before_defines ds ps) = omega arith in
    let at₁ : j ≡ suc (length (before_defines ds ps)) = omega arith in
    let at₂ : k ≡ suc (suc (length (before_defines ds ps))) = omega arith in
    let at₃ : l ≡ suc (suc (suc (length (before_defines ds ps)))) = omega arith in
    ap (λ t. set t 0 (length ds + 1)) (four_at_written (plan_in ds ps) (before_defines ds ps) (replicate (100 - length ds * 4) 0 ++ padded 126 (pieces_in ps)) i j k l (kind_of d) (len_of d) (step_size d) (number_of (value_of d)) (defines_open ds ps h) at₀ at₁ at₂ at₃) ∙ defines_shut ds ps d h

-- a plan has 232 numbers, and its first two say how many there are
pub holds_whole : (ds : List P.Define) (ps : List Piece) (plan : List ℕ) → Holds ds ps plan → length plan ≡ 232
unfolding plan_in
holds_whole ds ps plan h =
    let a = padded_length 104 (defines_in ds) (omega (arith, defines_length ds, h.few)) in
    let b = padded_length 126 (pieces_in ps) (omega (arith, pieces_length ps, h.short)) in
    ap length h.is ∙ omega (arith, a, b, length-append (padded 104 (defines_in ds)) (padded 126 (pieces_in ps)))

holds_pieces : (ds : List P.Define) (ps : List Piece) (plan : List ℕ) → Holds ds ps plan → get_or plan 1 0 ≡ length ps
unfolding plan_in
holds_pieces ds ps plan h = ap (λ t. get_or t 1 0) h.is

holds_defines : (ds : List P.Define) (ps : List Piece) (plan : List ℕ) → Holds ds ps plan → get_or plan 0 0 ≡ length ds
unfolding plan_in
holds_defines ds ps plan h = ap (λ t. get_or t 0 0) h.is

pub piece_room : (ds : List P.Define) (ps : List Piece) (plan : List ℕ) → Holds ds ps plan → length ps < 42 → PieceRoom plan
piece_room ds ps plan h r =
    record { defines = ds; pieces = ps; holds = h; room = r; whole = holds_whole ds ps plan h; next = omega (arith, holds_pieces ds ps plan h) }

pub define_room : (ds : List P.Define) (ps : List Piece) (plan : List ℕ) → Holds ds ps plan → length ds < 26 → DefineRoom plan
define_room ds ps plan h r =
    record { defines = ds; pieces = ps; holds = h; room = r; whole = holds_whole ds ps plan h; next = omega (arith, holds_defines ds ps plan h) }

-- a piece is noted number by number
pub piece_noted : (old new : List ℕ) (start end behind : ℕ)
    → new ≡ set (set (set (set old (106 + get_or old 1 0 * 3) start) (106 + get_or old 1 0 * 3 + 1) end) (106 + get_or old 1 0 * 3 + 2) behind) 1 (get_or old 1 0 + 1) → PieceNoted old start end behind new
piece_noted old new start end behind q = record { noted = λ ds ps s h r e. go ds ps s h r e }
  where
    go : (ds : List P.Define) (ps : List Piece) (s : Shows) → Holds ds ps old → length ps < 42 → behind ≡ behind_in s → Holds ds (ps ++ (record { start = start; end = end; behind = s } ∷ [])) new
    go ds ps s h r e =
        let k = holds_pieces ds ps old h in
        record {
          is = rw (q, k, e, h.is) (piece_more ds ps (record { start = start; end = end; behind = s }) (106 + length ps * 3) (106 + length ps * 3 + 1) (106 + length ps * 3 + 2) h.few r refl refl refl);
          few = h.few;
          short = omega (arith, one_longer ps (record { start = start; end = end; behind = s }));
        }

-- and a definition
pub define_noted : (old d new : List ℕ) (kind len step n : ℕ)
    → d ≡ four_at old (2 + get_or old 0 0 * 4) kind len step n → new ≡ set d 0 (get_or old 0 0 + 1) → DefineNoted old kind len step n new
unfolding four_at
define_noted old d new kind len step n q₃ q₄ = record { noted = λ ds ps x h r e₀ e₁ e₂ e₃. go ds ps x h r e₀ e₁ e₂ e₃ }
  where
    go : (ds : List P.Define) (ps : List Piece) (x : P.Define) → Holds ds ps old → length ds < 26 → kind ≡ kind_of x → len ≡ len_of x → step ≡ step_size x → n ≡ number_of (value_of x) → Holds (ds ++ (x ∷ [])) ps new
    go ds ps x h r e₀ e₁ e₂ e₃ =
        let k = holds_defines ds ps old h in
        record {
          is = rw (q₄, q₃, k, e₀, e₁, e₂, e₃, h.is) (define_more ds ps x (2 + length ds * 4) (2 + length ds * 4 + 1) (2 + length ds * 4 + 2) (2 + length ds * 4 + 3) r refl refl refl refl);
          few = omega (arith, one_longer ds x);
          short = h.short;
        }

-- an open piece with bytes is noted
pub open_noted : (old : List ℕ) (start end : ℕ) (new : List ℕ) → (start ≡ end → ⊥) → PieceNoted old start end 0 new → OpenNoted old start end new
unfolding unless_none behind_in
open_noted old start end new n p = record { noted = λ ds ps h r. rw (ne_eqb start end n) (p.noted ds ps nothing h r refl) }

-- and one without is not
pub none_noted : (old : List ℕ) (start end : ℕ) → start ≡ end → OpenNoted old start end old
unfolding unless_none
none_noted old start end e = record { noted = λ ds ps h r. rw (eq-eqb start end e, append-nil) h }
