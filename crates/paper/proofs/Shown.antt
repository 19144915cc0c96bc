-- What a value shows in a set fits its definition: a variable shows its answer, and a counter within its bounds has at
-- most len digits, which zeros fill up to the answer's length.
use Prim.Native.Nat.{ℕ, zero, suc, ◌-◌, ◌≤◌}
use Prim.Native.Char.{code}
use mathlib.Core.Path.{◌≡◌, refl}
use mathlib.Core.Bool.{true, ◌&&◌, false≢true}
use mathlib.Core.List.{List, [], ◌∷◌}
use mathlib.Core.Option.{some, some-injective}
use native.Mathlib.Omega.{arith}
use lib.ListN.{length, length-append, length-replicate, replicate}
use lib.Dec.{leb}
use borrow.Author.Tests.{leb-true, le-leb}
use Rattle.paper.specs.Byte.{when◌then◌else◌, between, every, decimal}
use Rattle.paper.specs.Line.{is_digit}
use Rattle.paper.specs.Command.{Value, Step, Define, counting, varying, is_shown}
use Rattle.paper.specs.Form.{value_of, len_of, same_value, defined}
use Rattle.paper.specs.Set.{fits, amount, value_at, holds, holds_to, all_hold, padded, shows, value_in}
use Rattle.paper.specs.State.{fitting}
use Rattle.paper.proofs.Law.{and_left, and_right, and_both}
use Rattle.paper.proofs.Text.{every_append, every_weaker}
use Rattle.paper.proofs.Test.{either}
use Rattle.paper.proofs.Number.{decimal_is_within, decimal_some, digits_decimal}
use Rattle.paper.proofs.Counter.{holds_below}

-- a text of at most so many bytes, each of which a label shows
pub record Shown (most : ℕ) (s : List ℕ) : Type 0 where
  pub short : length s ≤ most
  pub visible : every is_shown s ≡ true

-- a digit is shown
digit_shown : (b : ℕ) → is_digit b ≡ true → is_shown b ≡ true
unfolding is_digit is_shown between
digit_shown b e =
    let low = leb-true 48 b (and_left _ _ e) in
    let high = leb-true b 57 (and_right (leb 48 b) _ e) in
    and_both _ _ (le-leb 0x20 b (omega arith)) (le-leb b 0xff (omega arith))

-- zeros are digits
zeros_digits : (k : ℕ) → every is_digit (replicate k (code "0")) ≡ true
unfolding every is_digit between
zeros_digits zero = refl
zeros_digits (suc k) = zeros_digits k

-- what a fitting answer to a counter says
fits_counter : (n len letter : ℕ) (by : Step) (prompt a : List ℕ) → fits (counting n len letter by prompt) a ≡ true → (1 ≤ length a) × (length a ≤ len)
unfolding fits
fits_counter n len letter by prompt a e =
    let lengths = and_left (leb 1 (length a) && leb (length a) len) _ e in
    (leb-true _ _ (and_left _ _ lengths), leb-true _ _ (and_right (leb 1 (length a)) _ lengths))

-- a counter shows digits, at least one
pub counter_digits : (n len letter : ℕ) (by : Step) (prompt a : List ℕ) (i : ℕ) → (every is_digit (shows (counting n len letter by prompt) a i) ≡ true) × (1 ≤ length (shows (counting n len letter by prompt) a i))
unfolding shows padded
counter_digits n len letter by prompt a i =
    let v = value_at by (amount 0 a) i in (
      rw (every_append, zeros_digits (length a - length (decimal v)), digits_decimal v),
      rw length-append (omega (arith, decimal_some v)),
    )

-- within its bounds a counter shows at most len bytes
counter_short : (n len letter : ℕ) (by : Step) (prompt a : List ℕ) (i : ℕ) → fits (counting n len letter by prompt) a ≡ true → holds len by (amount 0 a) i ≡ true → length (shows (counting n len letter by prompt) a i) ≤ len
unfolding shows padded
counter_short n len letter by prompt a i f h =
    let most = fits_counter n len letter by prompt a f in
    let v = value_at by (amount 0 a) i in
    let digits : length (decimal v) ≤ len = decimal_is_within len v (omega arith) (holds_below len by (amount 0 a) i h) in
    rw (length-append, length-replicate) (omega arith)

-- what a definition with a fitting answer shows in a set within its counters
pub shows_fits : (d : Define) (a : List ℕ) (i : ℕ) → fits d a ≡ true → holds_to i d a ≡ true → Shown (len_of d) (shows d a i)
unfolding len_of holds_to
shows_fits (counting n len letter by prompt) a i f h = record {
  short = counter_short n len letter by prompt a i f (and_right (holds len by (amount 0 a) 0) _ h);
  visible = every_weaker is_digit is_shown digit_shown _ (counter_digits n len letter by prompt a i).0;
}
shows_fits (varying n len letter prompt) a i f h = unfold shows fits in record {
  short = leb-true _ _ (and_left _ _ f);
  visible = and_right (leb (length a) len) _ f;
}

-- what a defined value shows fits its definition: the first definition is the first match
pub value_in_fits : (ds : List Define) (answers : List (List ℕ)) (i : ℕ) (v : Value) (d : Define) → fitting ds answers ≡ true → all_hold i ds answers ≡ true → defined v ds ≡ some d → Shown (len_of d) (value_in ds answers i v)
unfolding fitting all_hold defined value_in when◌then◌else◌
value_in_fits [] answers i v d f h e = let z : ◌≡◌ {A = ℕ} 0 1 = cc in absurd (omega arith)
value_in_fits (b ∷ ds) [] i v d f h e = absurd (false≢true f)
value_in_fits (b ∷ ds) (a ∷ more) i v d f h e =
    either (same_value v (value_of b))
    (λ y. rw (y, ← some-injective _ _ (rw y at e)) (shows_fits b a i (and_left _ _ f) (and_left _ _ h)))
    (λ n. rw n (value_in_fits ds more i v d (and_right (fits b a) _ f) (and_right (holds_to i b a) _ h) (rw n at e)))
