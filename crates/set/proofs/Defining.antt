-- A definition with its answer: its numbers are small, they show what the definition shows, and hold where it holds.
use Prim.Native.Nat.{ℕ, ◌+◌, ◌-◌, ◌*◌, ◌^◌, ◌≤◌, ◌<◌}
use mathlib.Core.Path.{◌≡◌, refl, sym}
use mathlib.Core.Bool.{true, ◌&&◌, and-true}
use mathlib.Core.List.{List, [], ◌∷◌}
use native.Mathlib.Nat.{pow-zero, pow-le-pow_right}
use native.Mathlib.Omega.{arith}
use lib.ListN.{length}
use lib.Dec.{leb, ltb}
use borrow.Author.Tests.{leb-true, lt-ltb, le-leb, ne_eqb}
use Rattle.paper.specs.Byte.{when◌then◌else◌, every, between}
use Rattle.paper.specs.Line.{is_digit, escape}
use Rattle.paper.specs.Command as P
use Rattle.paper.specs.Command.{define_ranges, step_range, all_of}
use Rattle.paper.specs.Form.{len_of}
use Rattle.paper.specs.Set.{amount, fits, value_at, holds, holds_to, shows}
use Rattle.paper.proofs.Law.{and_left, and_right}
use Rattle.paper.proofs.Test.{held, tests}
use Rattle.paper.proofs.Shown.{counter_digits}
use Rattle.form.specs.Walk.{part_of}
use Rattle.form.specs.Plan.{kind_of, step_size}
use Rattle.set.specs.Answers.{first_of, second_of}
use Rattle.set.specs.Values.{count_at, four_show, holds_in}
use Rattle.set.proofs.Digits.{power_nine, amount_below}

-- how far a definition in its ranges steps
pub step_small : (d : P.Define) → all_of (define_ranges d) ≡ true → step_size d ≤ 9999
unfolding define_ranges step_range step_size
step_small (P.counting n len letter (P.up by) prompt) e = omega (tests, (held (define_ranges (P.counting n len letter (P.up by) prompt)) e).1.1.1.0.0)
step_small (P.counting n len letter (P.down by) prompt) e = omega (tests, (held (define_ranges (P.counting n len letter (P.down by) prompt)) e).1.1.1.0.1.0)
step_small (P.varying n len letter prompt) e = omega arith

-- a counter's len
counting_len : (n len letter : ℕ) (by : P.Step) (prompt : List ℕ) → all_of (define_ranges (P.counting n len letter by prompt)) ≡ true → len ≤ 9
unfolding define_ranges
counting_len n len letter by prompt e = omega (tests, (held (define_ranges (P.counting n len letter by prompt)) e).1.0.1.0)

pub len_small : (d : P.Define) → all_of (define_ranges d) ≡ true → (kind_of d ≡ 2 → ⊥) → len_of d ≤ 9
unfolding len_of kind_of
len_small (P.counting n len letter (P.up by) prompt) e k = counting_len n len letter (P.up by) prompt e
len_small (P.counting n len letter (P.down by) prompt) e k = counting_len n len letter (P.down by) prompt e
len_small (P.varying n len letter prompt) e k = absurd (k refl)

-- what fits a counter
fits_digits : (n len letter : ℕ) (by : P.Step) (prompt a : List ℕ) → fits (P.counting n len letter by prompt) a ≡ true → every is_digit a ≡ true
unfolding fits
fits_digits n len letter by prompt a f = and_right (leb 1 (length a) && leb (length a) len) _ f

-- what fits any definition has at most so many bytes
pub fits_len : (d : P.Define) (a : List ℕ) → fits d a ≡ true → length a ≤ len_of d
unfolding fits len_of
fits_len (P.counting n len letter by prompt) a f = leb-true (length a) len (and_right (leb 1 (length a)) _ (and_left _ (every is_digit a) f))
fits_len (P.varying n len letter prompt) a f = leb-true (length a) len (and_left _ _ f)

-- what fits a counter is below a power of ten
fits_below : (n len letter : ℕ) (by : P.Step) (prompt a : List ℕ) → fits (P.counting n len letter by prompt) a ≡ true → amount 0 a < 10 ^ len
unfolding len_of
fits_below n len letter by prompt a f =
    let zero-small : 0 < 10 ^ 0 = rw pow-zero (omega arith) in
    let front : 0 + length a ≡ length a = omega arith in
    let below : amount 0 a < 10 ^ length a = rw front at (amount_below a 0 0 zero-small (fits_digits n len letter by prompt a f)) in
    omega (arith, pow-le-pow_right {n = 10} (omega arith) {i = length a} {j = len} (fits_len (P.counting n len letter by prompt) a f))

pub first_small : (d : P.Define) (a : List ℕ) (place : ℕ) → all_of (define_ranges d) ≡ true → fits d a ≡ true → (kind_of d ≡ 2 → ⊥) → first_of d a place < 1000000000
unfolding first_of kind_of
first_small (P.counting n len letter (P.up by) prompt) a place e f k =
    omega (arith, fits_below n len letter (P.up by) prompt a f, power_nine len (counting_len n len letter (P.up by) prompt e))
first_small (P.counting n len letter (P.down by) prompt) a place e f k =
    omega (arith, fits_below n len letter (P.down by) prompt a f, power_nine len (counting_len n len letter (P.down by) prompt e))
first_small (P.varying n len letter prompt) a place e f k = absurd (k refl)

-- digits need no escaping
pub escape_digits : (s : List ℕ) → every is_digit s ≡ true → escape s ≡ s
unfolding escape every is_digit between when◌then◌else◌
escape_digits [] e = refl
escape_digits (b ∷ s) e =
    let digit = and_left (leb 48 b && leb b 57) (every is_digit s) e in
    let low : 48 ≤ b = leb-true 48 b (and_left (leb 48 b) _ digit) in
    let high : b ≤ 57 = leb-true b 57 (and_right (leb 48 b) _ digit) in
    rw (ne_eqb b 34 (λ q. omega arith), ne_eqb b 92 (λ q. omega arith), escape_digits s (and_right (leb 48 b && leb b 57) _ e))

-- the four numbers show what the definition does
pub show_same : (answers : List ℕ) (d : P.Define) (a : List ℕ) (place i : ℕ) → part_of answers place (place + length a) ≡ a
    → four_show answers (first_of d a place) (second_of d a place) (kind_of d) (step_size d) i ≡ escape (shows d a i)
unfolding four_show first_of second_of kind_of step_size shows count_at value_at when◌then◌else◌
show_same answers (P.counting n len letter (P.up by) prompt) a place i e =
    sym (escape_digits _ (counter_digits n len letter (P.up by) prompt a i).0)
show_same answers (P.counting n len letter (P.down by) prompt) a place i e =
    sym (escape_digits _ (counter_digits n len letter (P.down by) prompt a i).0)
show_same answers (P.varying n len letter prompt) a place i e = rw e

-- a counter that fits holds in the first set
holds_first : (len : ℕ) (by : P.Step) (start : ℕ) → start < 10 ^ len → holds len by start 0 ≡ true
unfolding holds
holds_first len (P.up n) start h = lt-ltb (start + 0 * n) (10 ^ len) (omega arith)
holds_first len (P.down n) start h = rw (le-leb (0 * n) start (omega arith), lt-ltb (start - 0 * n) (10 ^ len) (omega arith))

up_holds : (len n start last : ℕ) → ltb (start + last * n) (10 ^ len) ≡ holds len (P.up n) start last
unfolding holds
up_holds len n start last = refl

down_holds : (len n start last : ℕ) → start < 10 ^ len → leb (last * n) start ≡ holds len (P.down n) start last
unfolding holds
down_holds len n start last h = rw (lt-ltb (start - last * n) (10 ^ len) (omega arith)) (sym (and-true (leb (last * n) start)))

-- and in the last where its numbers do
pub hold_same : (d : P.Define) (a : List ℕ) (place last : ℕ) → fits d a ≡ true → holds_in (kind_of d) (len_of d) (step_size d) (first_of d a place) last ≡ holds_to last d a
unfolding holds_in kind_of len_of step_size first_of holds_to when◌then◌else◌
hold_same (P.counting n len letter (P.up by) prompt) a place last f =
    let below = fits_below n len letter (P.up by) prompt a f in
    rw (holds_first len (P.up by) (amount 0 a) below) (up_holds len by (amount 0 a) last)
hold_same (P.counting n len letter (P.down by) prompt) a place last f =
    let below = fits_below n len letter (P.down by) prompt a f in
    rw (holds_first len (P.down by) (amount 0 a) below) (down_holds len by (amount 0 a) last below)
hold_same (P.varying n len letter prompt) a place last f = refl
