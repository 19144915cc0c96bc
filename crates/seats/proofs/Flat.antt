-- Parts of equal width in one flat list: a part is found at its place, and changing a tablet writes its part and nothing else.
use mathlib.Core.Path.{◌≡◌, refl, sym}
use mathlib.Core.Bool.{false}
use mathlib.Core.List.{List, ◌++◌, append_assoc}
use Prim.Native.Nat.{ℕ, zero, suc, ◌+◌, ◌*◌, ◌≤◌, ◌<◌}
use native.Mathlib.Omega.{arith}
use native.Mathlib.Nat.{suc-mul, zero-mul}
use lib.ListN.{length, take, drop, length-append}
use lib.Seq.{drop-append_seam, take-append_seam, take-append-add, drop-append-add}
use lib.Dec.{eqb}
use borrow.Author.Tests.{ne_eqb}
use Rattle.seats.specs.Seats.{flat}

-- parts that have this width as far as they reach
abbrev pub Wide : {A : Type 0} → (ℕ → List A) → (w from count : ℕ) → Type 0
Wide part w from count = (k : ℕ) → from ≤ k → k < from + count → length (part k) ≡ w

-- the first of them, and the others
first_wide : {A : Type 0} (part : ℕ → List A) (w from count : ℕ) → Wide part w from (suc count) → length (part from) ≡ w
first_wide part w from count len = len from (omega arith) (omega arith)

others_wide : {A : Type 0} (part : ℕ → List A) (w from count : ℕ) → Wide part w from (suc count) → Wide part w (suc from) count
others_wide part w from count len k l m = len k (omega arith) (omega arith)

-- how long they are together
pub flat_length : {A : Type 0} (part : ℕ → List A) (w from count : ℕ) → Wide part w from count → length (flat part from count) ≡ count * w
unfolding flat
flat_length part w from zero len = sym (zero-mul w)
flat_length part w from (suc count) len =
    rw (length-append, first_wide part w from count len, flat_length part w (suc from) count (others_wide part w from count len), suc-mul count w) (omega arith)

-- parts that are the same from a number on, as far as they reach
pub flat_alike : {A : Type 0} (p q : ℕ → List A) (from count : ℕ) → ((k : ℕ) → from ≤ k → k < from + count → p k ≡ q k) → flat p from count ≡ flat q from count
unfolding flat
flat_alike p q from zero e = refl
flat_alike p q from (suc count) e =
    rw (e from (omega arith) (omega arith), flat_alike p q (suc from) count (λ k l m. e k (omega arith) (omega arith)))

-- places before and behind the first part
first_place : {A : Type 0} (part : ℕ → List A) (w from j : ℕ) → length (part from) ≡ w → suc j * w ≡ length (part from) + j * w
first_place part w from j len = rw (suc-mul j w, len) (omega arith)

-- the part at a place
pub flat_at : {A : Type 0} (part : ℕ → List A) (w from count j : ℕ) → Wide part w from count → j < count → take w (drop (j * w) (flat part from count)) ≡ part (from + j)
unfolding flat
flat_at part w from zero j len l = absurd (omega arith)
flat_at part w from (suc count) zero len l =
    let here : from + 0 ≡ from = omega arith in
    rw (zero-mul w, here, ← first_wide part w from count len) (take-append_seam (part from) (flat part (suc from) count))
flat_at part w from (suc count) (suc j) len l =
    let on : from + suc j ≡ suc from + j = omega arith in
    rw (first_place part w from j (first_wide part w from count len), drop-append-add (part from) (flat part (suc from) count) (j * w), on)
    (flat_at part w (suc from) count j (others_wide part w from count len) (omega arith))

-- one part changed: what stands before and behind it stays
pub flat_write : {A : Type 0} (part now : ℕ → List A) (w from count j : ℕ) → Wide part w from count → ((k : ℕ) → eqb k (from + j) ≡ false → now k ≡ part k) → j < count
    → flat now from count ≡ take (j * w) (flat part from count) ++ (now (from + j) ++ drop (suc j * w) (flat part from count))
unfolding flat
flat_write part now w from zero j len e l = absurd (omega arith)
flat_write part now w from (suc count) zero len e l =
    let here : from + 0 ≡ from = omega arith in
    let behind : 1 * w ≡ length (part from) = rw (suc-mul 0 w, zero-mul w, first_wide part w from count len) (omega arith) in
    rw (zero-mul w, behind, here, drop-append_seam (part from) (flat part (suc from) count), flat_alike now part (suc from) count (λ k m n. e k (ne_eqb k (from + 0) (omega arith))))
flat_write part now w from (suc count) (suc j) len e l =
    let on : from + suc j ≡ suc from + j = omega arith in
    let more = flat_write part now w (suc from) count j (others_wide part w from count len) (λ k m. e k (rw on m)) (omega arith) in
    let rest : List _ = flat part (suc from) count in
    let first = first_wide part w from count len in
    let before : take (suc j * w) (part from ++ rest) ≡ part from ++ take (j * w) rest = rw (first_place part w from j first) (take-append-add (part from) rest (j * w)) in
    let behind : drop (suc (suc j) * w) (part from ++ rest) ≡ drop (suc j * w) rest = rw (first_place part w from (suc j) first) (drop-append-add (part from) rest (suc j * w)) in
    rw (e from (ne_eqb from (from + suc j) (omega arith)), before, behind, on, more)
    (sym (append_assoc (part from) _ _))
