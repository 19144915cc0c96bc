-- Memory that is filled from the front: what is written behind the last byte goes over zeros, and the rest stays zero.
use mathlib.Core.Path.{◌≡◌, refl, sym, ◌∙◌, ap}
use mathlib.Core.List.{List, [], ◌∷◌, ◌++◌, append_assoc}
use Prim.Native.Nat.{ℕ, zero, suc, ◌+◌, ◌-◌, ◌≤◌, ◌<◌}
use native.Mathlib.Omega.{arith}
use lib.ListN.{length, take, drop, set, replicate, length-append, length-replicate, replicate-append-replicate}
use lib.Seq.{take-append_seam, take-append-add, drop-append-add}
use Rattle.text.specs.Write.{written, padded}
use Rattle.text.proofs.Written.{writes_set}

-- zeros from a place on are zeros
drop_zeros : (k n : ℕ) → drop {A = ℕ} k (replicate n 0) ≡ replicate (n - k) 0
drop_zeros zero n = rw (minus_zero n)
  where
    minus_zero : (n : ℕ) → n - 0 ≡ n
    minus_zero n = omega arith
drop_zeros (suc k) zero = rw (none k)
  where
    none : (k : ℕ) → 0 - suc k ≡ 0
    none k = omega arith
drop_zeros (suc k) (suc n) = drop_zeros k n ∙ ap (λ m. replicate m 0) (fewer k n)
  where
    fewer : (k n : ℕ) → n - k ≡ suc n - suc k
    fewer k n = omega arith

-- a padded list has the length that it is padded to
pub padded_length : (n : ℕ) (xs : List ℕ) → length xs ≤ n → length (padded n xs) ≡ n
unfolding padded
padded_length n xs h = rw (length-append, length-replicate) (omega arith)

-- bytes written behind a padded list
pub padded_write : (n : ℕ) (a b : List ℕ) → length a + length b ≤ n → written (padded n a) (length a) b ≡ padded n (a ++ b)
unfolding written padded
padded_write n a b h =
    let left : n - length a - length b ≡ n - (length a + length b) = omega arith in
    rw (take-append_seam, drop-append-add, drop_zeros, left, length-append)

-- an element put behind a padded list
pub padded_set : (n : ℕ) (xs : List ℕ) (v : ℕ) → length xs < n → set (padded n xs) (length xs) v ≡ padded n (xs ++ (v ∷ []))
padded_set n xs v h =
    let room : length xs < length (padded n xs) = rw (padded_length n xs (omega arith)) h in
    (writes_set (padded n xs) (length xs) v room).is ∙ padded_write n xs (v ∷ []) (omega arith)

-- zeros at the end of a list are padding
pub padded_zeros : (n k : ℕ) (xs : List ℕ) → length xs + k ≤ n → padded n (xs ++ replicate k 0) ≡ padded n xs
unfolding padded
padded_zeros n k xs h =
    let left : k + (n - (length xs + k)) ≡ n - length xs = omega arith in
    rw (append_assoc, length-append, length-replicate, replicate-append-replicate, left)

-- the first of some zeros are zeros
take_zeros : (k n : ℕ) → k ≤ n → take {A = ℕ} k (replicate n 0) ≡ replicate k 0
take_zeros zero n h = refl
take_zeros (suc k) zero h = absurd (omega arith)
take_zeros (suc k) (suc n) h = ap (λ xs. 0 ∷ xs) (take_zeros k n (omega arith))

-- a list within so many elements, filled up with zeros
pub filled : (n : ℕ) (xs : List ℕ) → length xs ≤ n → take n (xs ++ replicate n 0) ≡ xs ++ replicate (n - length xs) 0
filled n xs h =
    let parts : length xs + (n - length xs) ≡ n = omega arith in
    ap (λ m. take m (xs ++ replicate n 0)) (sym parts) ∙ rw (take-append-add, take_zeros (n - length xs) n (omega arith))
