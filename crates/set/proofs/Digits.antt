-- The digits of a counter: the number they write, the bound that their count sets, and writing them with zeros in front.
use mathlib.Core.Path.{◌≡◌, sym, ◌∙◌}
use mathlib.Core.Bool.{Bool, true, false, ◌&&◌}
use mathlib.Core.List.{List, [], ◌∷◌, append_assoc}
use Prim.Native.Nat.{ℕ, suc, ◌+◌, ◌-◌, ◌*◌, ◌^◌, ◌≤◌, ◌<◌}
use native.Mathlib.Nat.{pow-suc, pow-le-pow_right}
use native.Mathlib.Omega.{arith}
use native.Mathlib.Numerals.{add-one}
use lib.ListN.{length, take, drop, get_or, replicate, drop_of_length-le, length-append, length-take, length-drop, length-replicate}
use borrow.Rule.Slice.PartMut.{put_mid}
use Rattle.std.proofs.lemmas.List.Edits.{paste_all}
use Rattle.std.proofs.lemmas.Slice.{put_mid-paste}
use lib.Seq.{drop-cons}
use lib.Dec.{leb}
use borrow.Author.Tests.{leb-true}
use Rattle.paper.specs.Byte.{every, between, decimal}
use Rattle.paper.specs.Line.{is_digit}
use Rattle.paper.specs.Set.{amount, padded}
use Rattle.paper.proofs.Law.{if_true, if_false, and_left, and_right}
use Rattle.set.specs.Judge.{amount_in}
use Rattle.std.specs.Prelude.{Option, Some, None}
use Rattle.std.specs.Char.{is_ascii_digit}
use Rattle.text.specs.Write.{Writes, written}
use Rattle.text.proofs.Written.{writes_then, writes_length}

-- so many digits write a number below so many powers of ten
pub power_nine : (i : ℕ) → i ≤ 9 → 10 ^ i ≤ 1000000000
power_nine i h = pow-le-pow_right {n = 10} (omega arith) {i = i} {j = 9} h

-- a byte that is tested for a digit
digit_told : (b : ℕ) (t : Bool) → t ≡ is_ascii_digit b → t ≡ is_digit b
unfolding is_digit between
digit_told b t e = e

-- the bytes from a place on decide whether all are digits: a digit there leaves it to the next, another byte does not
module _ (a : List ℕ) (i : ℕ) (e : every is_digit a ≡ every is_digit (drop i a)) where
  digits_on : i < length a → is_digit (get_or a i 0) ≡ true → every is_digit a ≡ every is_digit (drop (i + 1) a)
  unfolding every
  digits_on h y = e ∙ rw (drop-cons a i 0 h, add-one, y)

  digits_off : i < length a → is_digit (get_or a i 0) ≡ false → every is_digit a ≡ false
  unfolding every
  digits_off h n = e ∙ rw (drop-cons a i 0 h, n)

  digits_all : length a ≤ i → every is_digit a ≡ true
  unfolding every
  digits_all h = e ∙ rw (drop_of_length-le a {i = i} h)

-- the digits before a place are summed up, and the bytes from it on decide
pub record Summing (a : List ℕ) (n i : ℕ) : Type 0 where
  pub left : amount 0 a ≡ amount n (drop i a)
  pub small : n < 10 ^ i
  pub inside : i ≤ length a
  pub digits : every is_digit a ≡ every is_digit (drop i a)

-- a byte that is no digit
pub sum_breaks : (a : List ℕ) (n i : ℕ) (t : Bool) → Summing a n i → i < length a → t ≡ is_ascii_digit (get_or a i 0) → t ≡ false → ◌≡◌ {A = Option ℕ} None (amount_in a)
unfolding amount_in
sum_breaks a n i t s h e f = sym (if_false _ _ _ (digits_off a i s.digits h (sym (digit_told _ t e) ∙ f)))

-- a digit more
pub sum_turns : (a : List ℕ) (n i : ℕ) (t : Bool) → Summing a n i → i < length a → t ≡ is_ascii_digit (get_or a i 0) → t ≡ true → Summing a (n * 10 + (get_or a i 0 - 48)) (i + 1)
unfolding amount is_digit between
sum_turns a n i t s h e f =
    let digit : is_digit (get_or a i 0) ≡ true = sym (digit_told (get_or a i 0) t e) ∙ f in
    let high : get_or a i 0 ≤ 57 = leb-true (get_or a i 0) 57 (and_right (leb 48 (get_or a i 0)) _ digit) in
    record {
      left = s.left ∙ rw (drop-cons a i 0 h, add-one);
      small = rw (add-one, pow-suc) (omega (arith, s.small));
      inside = omega arith;
      digits = digits_on a i s.digits h digit;
    }

pub sum_ends : (a : List ℕ) (n i : ℕ) → Summing a n i → length a ≤ i → Some n ≡ amount_in a
unfolding amount amount_in
sum_ends a n i s h =
    let is : n ≡ amount 0 a = sym (s.left ∙ rw (drop_of_length-le a {i = i} h)) in
    sym (if_true _ _ _ (digits_all a i s.digits h) ∙ rw is)

-- digits write a number below a power of ten
pub amount_below : (a : List ℕ) (n k : ℕ) → n < 10 ^ k → every is_digit a ≡ true → amount n a < 10 ^ (k + length a)
unfolding amount every is_digit between
amount_below [] n k h e = let none : k + 0 ≡ k = omega arith in rw none h
amount_below (b ∷ s) n k h e =
    let digit = and_left (leb 48 b && leb b 57) (every is_digit s) e in
    let high : b ≤ 57 = leb-true b 57 (and_right (leb 48 b) _ digit) in
    let place : k + suc (length s) ≡ suc k + length s = omega arith in
    rw place (amount_below s (n * 10 + (b - 48)) (suc k) (rw pow-suc (omega arith)) (and_right (leb 48 b && leb b 57) _ e))

-- zeros in front of a number's digits, and then the digits
module _ (old : List ℕ) (at value digits zeros : ℕ) (e : zeros ≡ digits - length (decimal value)) (h : at + length (padded digits (decimal value)) ≤ length old) where
  pub zeros_room : at + zeros + length (decimal value) ≤ length old
  unfolding padded
  zeros_room = omega (arith, e, simp (length-append, length-replicate) at h)

  module _ (part : List ℕ) (k : ℕ) (p : k ≡ at + zeros - at) (f : ((y : ℕ) → y ≡ 48 → y ≡ 48) → part ≡ replicate (length (take k (drop at old))) 48) where
    zeros_written : Writes old at (replicate zeros 48) (put_mid at k old part) (at + zeros)
    unfolding written
    zeros_written =
        let room : at + zeros + length (decimal value) ≤ length old = zeros_room in
        let size : length (take k (drop at old)) ≡ zeros = rw (length-take, length-drop) (omega arith) in
        let is : part ≡ replicate zeros 48 = f (λ y q. q) ∙ rw size in
        let count : length {A = ℕ} (replicate zeros 48) ≡ zeros = length-replicate zeros 48 in
        record {
          ends = rw count;
          room = omega arith;
          is = put_mid-paste at k old part (replicate zeros 48) zeros is (omega arith) (sym count)
              ∙ paste_all old at (replicate zeros 48) zeros (sym count) ∙ rw count (simp append_assoc);
        }

    pub number_room : at + zeros + length (decimal value) ≤ length (put_mid at k old part)
    number_room = rw (writes_length _ _ _ _ _ zeros_written) zeros_room

    pub number_ends : (new : List ℕ) (next : ℕ) → Writes (put_mid at k old part) (at + zeros) (decimal value) new next → Writes old at (padded digits (decimal value)) new next
    unfolding padded
    number_ends new next w = rw (← e) (writes_then old at (replicate zeros 48) _ (at + zeros) (decimal value) new next zeros_written w)
