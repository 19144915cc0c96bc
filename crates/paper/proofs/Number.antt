-- Numbers in decimal and read back: decimal is unrolled digit by digit without its fuel, and a text of digits reads as its amount.
use Prim.Native.Nat.{ℕ, zero, suc, ◌+◌, ◌-◌, ◌*◌, ◌/◌, ◌%◌, ◌^◌, ◌≤◌, ◌<◌}
use mathlib.Core.Path.{◌≡◌, refl, ◌∙◌, ap}
use mathlib.Core.Bool.{Bool, true, false, not, ◌&&◌}
use mathlib.Core.List.{List, [], ◌∷◌, ◌++◌}
use native.Mathlib.Nat.{zero-add}
use native.Mathlib.Omega.{arith}
use lib.ListN.{length, length-append, replicate}
use lib.Dec.{leb, ltb}
use borrow.Author.Tests.{ltb-true, ltb-false, lt-ltb, le-ltb, le-leb, not-true}
use Rattle.paper.specs.Byte.{when◌then◌else◌, between, every, decimal_within, decimal}
use Rattle.paper.specs.Line.{got, followed, give, one, is_digit, digit, two_digits, more_digits, number}
use Rattle.paper.specs.Write.{two}
use Rattle.paper.specs.Set.{amount}
use Rattle.paper.proofs.Law.{and_left, and_right, and_both}
use Rattle.paper.proofs.Text.{every_append}

-- more fuel than the value makes no difference
within_enough : (j k n : ℕ) → n ≤ j → n ≤ k → decimal_within j n ≡ decimal_within k n
unfolding decimal_within
within_enough zero zero n p q = refl
within_enough zero (suc k) n p q = let e : n ≡ 0 = omega arith in rw e
within_enough (suc j) zero n p q = let e : n ≡ 0 = omega arith in rw e
within_enough (suc j) (suc k) n p q = go (ltb n 10) refl (within_enough j k (n / 10))
  where
    go : (t : Bool) → ltb n 10 ≡ t → (n / 10 ≤ j → n / 10 ≤ k → decimal_within j (n / 10) ≡ decimal_within k (n / 10))
        → decimal_within (suc j) n ≡ decimal_within (suc k) n
    go true e ih = rw (e, decimal_within)
    go false e ih = let b : 10 ≤ n = omega (arith, ltb-false) in rw (e, decimal_within, ih (omega arith) (omega arith))

-- below 10 a number is its one digit
pub decimal_small : (n : ℕ) → n < 10 → decimal n ≡ (48 + n) ∷ []
unfolding decimal decimal_within
decimal_small zero h = refl
decimal_small (suc n) h = rw (lt-ltb (suc n) 10 h, decimal_within)

-- from 10 on the last digit stands behind the tens
pub decimal_big : (n : ℕ) → 10 ≤ n → decimal n ≡ decimal (n / 10) ++ ((48 + n % 10) ∷ [])
unfolding decimal decimal_within
decimal_big zero h = absurd (omega arith)
decimal_big (suc n) h = rw (le-ltb (suc n) 10 h, decimal_within, within_enough n (suc n / 10) (suc n / 10) (omega arith) (omega arith))

-- what holds below 10, and of a number where it holds of its tens, holds of every number
pub by_digits {ℓ} : (K : ℕ → Type ℓ) → ((n : ℕ) → n < 10 → K n) → ((n : ℕ) → 10 ≤ n → K (n / 10) → K n) → (n : ℕ) → K n
by_digits K small big n = within n n (omega arith)
  where
    step : (n : ℕ) (t : Bool) → ltb n 10 ≡ t → (10 ≤ n → K (n / 10)) → K n
    step n true e ih = small n (ltb-true n 10 e)
    step n false e ih = let b : 10 ≤ n = ltb-false n 10 e in big n b (ih b)

    within : (k n : ℕ) → n ≤ k → K n
    within zero n h = small n (omega arith)
    within (suc k) n h = step n (ltb n 10) refl λ b. within k (n / 10) (omega arith)

-- 48 and a number up to 9 is a digit
pub digit_byte : (n : ℕ) → n ≤ 9 → is_digit (48 + n) ≡ true
unfolding is_digit between
digit_byte n h = and_both _ _ (le-leb 48 (48 + n) (omega arith)) (le-leb (48 + n) 57 (omega arith))

digits_one : (n : ℕ) → n ≤ 9 → every is_digit ((48 + n) ∷ []) ≡ true
unfolding every
digits_one n h = rw (digit_byte n h)

-- every byte of a number in decimal is a digit
pub digits_decimal : (n : ℕ) → every is_digit (decimal n) ≡ true
digits_decimal = by_digits (λ n. every is_digit (decimal n) ≡ true)
    (λ n h. rw (decimal_small n h) (digits_one n (omega arith)))
    (λ n h ih. rw (decimal_big n h, every_append, ih, digits_one (n % 10) (omega arith)))

-- a larger number has no fewer digits
pub decimal_length : (n m : ℕ) → m ≤ n → length (decimal m) ≤ length (decimal n)
decimal_length = by_digits (λ n. (m : ℕ) → m ≤ n → length (decimal m) ≤ length (decimal n))
    (λ n h m l. rw (decimal_small n h, decimal_small m (omega arith)) (omega arith))
    (λ n h ih m l. rw (decimal_big n h, length-append) (go m n h l ih (ltb m 10) refl))
  where
    go : (m n : ℕ) → 10 ≤ n → m ≤ n → ((m : ℕ) → m ≤ n / 10 → length (decimal m) ≤ length (decimal (n / 10)))
        → (t : Bool) → ltb m 10 ≡ t → length (decimal m) ≤ length (decimal (n / 10)) + 1
    go m n h l ih true e = rw (decimal_small m (ltb-true m 10 e)) (omega arith)
    go m n h l ih false e =
        rw (decimal_big m (ltb-false m 10 e), length-append) (omega (arith, ih (m / 10) (omega arith)))

-- a number below 10 to the k has at most k digits
pub decimal_is_within : (k n : ℕ) → 1 ≤ k → n < 10 ^ k → length (decimal n) ≤ k
decimal_is_within zero n one h = absurd (omega arith)
decimal_is_within (suc zero) n one h = rw (decimal_small n h) (omega arith)
decimal_is_within (suc (suc k)) n one h = go (ltb n 10) refl (decimal_is_within (suc k) (n / 10))
  where
    go : (t : Bool) → ltb n 10 ≡ t → (1 ≤ suc k → n / 10 < 10 ^ suc k → length (decimal (n / 10)) ≤ suc k) → length (decimal n) ≤ suc (suc k)
    go true e ih = rw (decimal_small n (ltb-true n 10 e)) (omega arith)
    go false e ih =
        rw (decimal_big n (ltb-false n 10 e), length-append) (omega (arith, ih (omega arith) (omega arith)))

-- one digit more behind a text makes ten times its amount and that digit
amount_append : (a : ℕ) (s : List ℕ) (b : ℕ) → amount a (s ++ (b ∷ [])) ≡ amount a s * 10 + (b - 48)
unfolding amount
amount_append a [] b = refl
amount_append a (c ∷ s) b = amount_append (a * 10 + (c - 48)) s b

amount_one : (n : ℕ) → amount 0 ((48 + n) ∷ []) ≡ n
unfolding amount
amount_one n = omega arith

-- the amount of a number in decimal is the number
pub amount_decimal : (n : ℕ) → amount 0 (decimal n) ≡ n
amount_decimal = by_digits (λ n. amount 0 (decimal n) ≡ n)
    (λ n h. rw (decimal_small n h) (amount_one n))
    (λ n h ih. rw (decimal_big n h, amount_append, ih) (omega arith))

-- zeros in front add nothing to an amount
pub amount_zeros : (k : ℕ) (s : List ℕ) → amount 0 (replicate k 48 ++ s) ≡ amount 0 s
unfolding amount
amount_zeros zero s = refl
amount_zeros (suc k) s = amount_zeros k s

-- a text begins with no digit
abbrev pub no_digit : List ℕ → Bool
no_digit [] = true
no_digit (b ∷ s) = not (leb 48 b && leb b 57)

-- a digit is read as its value
pub digit_cons : (b : ℕ) (r : List ℕ) → is_digit b ≡ true → digit (b ∷ r) ≡ got (b - 48) r
unfolding digit one followed give when◌then◌else◌
digit_cons b r e = rw e

-- a byte that is no digit, from a text that begins with none
not_digit : (b : ℕ) (s : List ℕ) → no_digit (b ∷ s) ≡ true → is_digit b ≡ false
unfolding is_digit between
not_digit b s n = not-true (leb 48 b && leb b 57) n

-- the digits of a text, as many as may follow, are read as its amount
more_digits_digits : (k a : ℕ) (s r : List ℕ) → every is_digit s ≡ true → length s ≤ k → no_digit r ≡ true
    → more_digits k a (s ++ r) ≡ got (amount a s) r
unfolding more_digits amount every
more_digits_digits zero a [] r d l n = refl
more_digits_digits zero a (b ∷ s) r d l n = absurd (omega arith)
more_digits_digits (suc k) a [] [] d l n = refl
more_digits_digits (suc k) a [] (c ∷ r) d l n = rw (not_digit c r n, more_digits)
more_digits_digits (suc k) a (b ∷ s) r d l n =
    rw (and_left (is_digit b) (every is_digit s) d, more_digits)
    (more_digits_digits k (a * 10 + (b - 48)) s r (and_right (is_digit b) (every is_digit s) d) (omega arith) n)

-- one to five digits with no digit behind them are read as their amount
pub number_digits : (s r : List ℕ) → every is_digit s ≡ true → 1 ≤ length s → length s ≤ 5 → no_digit r ≡ true
    → number (s ++ r) ≡ got (amount 0 s) r
unfolding number followed amount every
number_digits [] r d some l n = absurd (omega arith)
number_digits (b ∷ s) r d some l n =
    rw (digit_cons b (s ++ r) (and_left (is_digit b) (every is_digit s) d), zero-add (b - 48))
    (more_digits_digits 4 (b - 48) s r (and_right (is_digit b) (every is_digit s) d) (omega arith) n)

-- a number in decimal has a digit
pub decimal_some : (n : ℕ) → 1 ≤ length (decimal n)
decimal_some = by_digits (λ n. 1 ≤ length (decimal n))
    (λ n h. rw (decimal_small n h) (omega arith))
    (λ n h ih. rw (decimal_big n h, length-append) (omega arith))

-- a number in decimal is read back, whatever but a digit stands behind it
pub number_decimal : (n : ℕ) (r : List ℕ) → n < 100000 → no_digit r ≡ true → number (decimal n ++ r) ≡ got n r
number_decimal n r h e =
    number_digits (decimal n) r (digits_decimal n) (decimal_some n) (decimal_is_within 5 n (omega arith) h) e
    ∙ rw (amount_decimal n)

-- a number of one digit is read back
pub digit_decimal : (n : ℕ) (r : List ℕ) → n ≤ 9 → digit (decimal n ++ r) ≡ got n r
digit_decimal n r h = rw (decimal_small n (omega arith), digit_cons (48 + n) r (digit_byte n h)) (ap (λ k. got k r) (omega arith))

-- a number of two digits is read back
pub two_digits_two : (n : ℕ) (r : List ℕ) → n ≤ 99 → two_digits (two n ++ r) ≡ got n r
unfolding two_digits two followed give
two_digits_two n r h =
    rw (digit_cons (48 + n / 10) ((48 + n % 10) ∷ r) (digit_byte (n / 10) (omega arith)), digit_cons (48 + n % 10) r (digit_byte (n % 10) (omega arith)))
    (ap (λ k. got k r) (omega arith))
