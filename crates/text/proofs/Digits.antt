-- Numbers of up to five digits: a digit is at most 9, a number stays below 100,000, and the loop reads what `more_digits` says.
use mathlib.Core.Path.{◌≡◌, refl, sym, ◌∙◌}
use mathlib.Core.Bool.{Bool, true, false}
use mathlib.Core.List.{List, [], ◌∷◌}
use Prim.Native.Nat.{ℕ, zero, suc, ◌+◌, ◌-◌, ◌*◌, ◌^◌, ◌≤◌, ◌<◌}
use native.Mathlib.Nat.{mul-le-mul_right, mul-le-mul_left, pow-suc, pow-zero, pow-le-pow_right}
use native.Mathlib.Omega.{arith}
use lib.ListN.{length}
use lib.Dec.{leb}
use borrow.Author.Tests.{leb-true}
use Rattle.paper.specs.Byte.{when◌then◌else◌, between}
use Rattle.paper.specs.Line.{Got, got, bad, followed, give, one, is_digit, digit, more_digits}
use Rattle.paper.proofs.Law.{and_right}
use Rattle.text.specs.Place.{from, said_by, said, place_after, Says}
use Rattle.std.specs.Prelude.{Option, Some, None}
use Rattle.text.specs.declared.read.Parsed.{Parsed}

-- a digit's value is at most 9, whatever bytes it is read from
digit_bound : (x : List ℕ) (n : ℕ) (r : List ℕ) → digit x ≡ got n r → n ≤ 9
unfolding digit one followed give when◌then◌else◌ is_digit between
digit_bound [] n r e = let z : ◌≡◌ {A = ℕ} 0 1 = cc in absurd (omega arith)
digit_bound (b ∷ s) n r e = go (is_digit b) refl e
  where
    go : (t : Bool) → is_digit b ≡ t → followed (when t then got b s else bad) (λ c. give (c - 48)) ≡ got n r → n ≤ 9
    go true t p = let q : b - 48 ≡ n = cc in omega (arith, q, within)
      where
        within : b ≤ 57
        within = leb-true b 57 (and_right (leb 48 b) (leb b 57) t)
    go false t p = let z : ◌≡◌ {A = ℕ} 0 1 = cc in absurd (omega arith)

-- a digit that was read is at most 9
pub digit_small : (s x : List ℕ) (a : Option (Parsed ℕ)) (p : Parsed ℕ) → Says s (digit x) a → a ≡ Some p → p.value ≤ 9
unfolding said_by said
digit_small s x a p h e = digit_bound x p.value (from s p.next) (sym h.says ∙ rw e)

-- one digit more keeps a number below its bound
pub grows : (n d k top : ℕ) → d ≤ 9 → (n + 1) * 10 ^ suc k ≤ top → (n * 10 + d + 1) * 10 ^ k ≤ top
grows n d k top h g = omega (arith, mul-le-mul_right (10 ^ k) h, rw pow-suc at g)

-- a power of 10 is not 0
ten_pos : (k : ℕ) → 0 < 10 ^ k
ten_pos zero = rw pow-zero (omega arith)
ten_pos (suc k) = rw pow-suc (omega (arith, ten_pos k))

-- a number below its bound is below the bound without the factor
pub below : (n k top : ℕ) → (n + 1) * 10 ^ k ≤ top → n < top
below n k top h = omega (arith, mul-le-mul_left (n + 1) (ten_pos k))

-- where no digit stands the number ends
pub more_ends : (s : List ℕ) (k n at : ℕ) (a : Option (Parsed ℕ)) → Says s (digit (from s at)) a → a ≡ None → more_digits k n (from s at) ≡ got n (from s at)
unfolding said_by said more_digits digit followed one give when◌then◌else◌
more_ends s zero n at a h e = refl
more_ends s (suc k) n at a h e = go (from s at) (sym h.says ∙ rw e)
  where
    go : (x : List ℕ) → digit x ≡ bad → more_digits (suc k) n x ≡ got n x
    go [] e = refl
    go (b ∷ x) e = stop (is_digit b) refl e
      where
        stop : (t : Bool) → is_digit b ≡ t → followed (when t then got b x else bad) (λ c. give (c - 48)) ≡ bad → more_digits (suc k) n (b ∷ x) ≡ got n (b ∷ x)
        stop true t p = let z : ◌≡◌ {A = ℕ} 0 1 = cc in absurd (omega arith)
        stop false t p = rw (more_digits, t)

-- where a digit stands the number goes on behind it
pub more_goes : (s : List ℕ) (k n at : ℕ) (a : Option (Parsed ℕ)) (d : Parsed ℕ) → Says s (digit (from s at)) a → a ≡ Some d → more_digits (suc k) n (from s at) ≡ more_digits k (n * 10 + d.value) (from s d.next)
unfolding said_by said more_digits digit followed one give when◌then◌else◌
more_goes s k n at a d h e = go (from s at) (sym h.says ∙ rw e)
  where
    go : (x : List ℕ) → digit x ≡ got d.value (from s d.next) → more_digits (suc k) n x ≡ more_digits k (n * 10 + d.value) (from s d.next)
    go [] e = let z : ◌≡◌ {A = ℕ} 0 1 = cc in absurd (omega arith)
    go (b ∷ x) e = turn (is_digit b) refl e
      where
        turn : (t : Bool) → is_digit b ≡ t → followed (when t then got b x else bad) (λ c. give (c - 48)) ≡ got d.value (from s d.next) → more_digits (suc k) n (b ∷ x) ≡ more_digits k (n * 10 + d.value) (from s d.next)
        turn true t p = let q : b - 48 ≡ d.value = cc in let r : x ≡ from s d.next = cc in rw (more_digits, t, q, r)
        turn false t p = let z : ◌≡◌ {A = ℕ} 0 1 = cc in absurd (omega arith)

-- the bound that the loop starts with
pub begins : (n k : ℕ) → n < 10 → k < 5 → (n + 1) * 10 ^ k ≤ 100000
begins n k h l =
    let few : 10 ^ k ≤ 10 ^ 4 = pow-le-pow_right {n = 10} (omega arith) {i = k} {j = 4} (omega arith) in
    omega (arith, few, mul-le-mul_right (10 ^ k) h)

-- the loop of digits: what is left to read is what was to be read, within the line, and the number is small
pub record Counting (s : List ℕ) (g : Got ℕ) (left : ℕ) (p : Parsed ℕ) : Type 0 where
  pub goal : g ≡ more_digits left p.value (from s p.next)
  pub small : (p.value + 1) * 10 ^ left ≤ 100000
  pub inside : p.next ≤ length s

-- before the loop all is left to read
pub count_begins : (s : List ℕ) (k : ℕ) (p : Parsed ℕ) → p.value < 10 → k < 5 → p.next ≤ length s → Counting s (more_digits k p.value (from s p.next)) k p
count_begins s k p h l i = record { goal = refl; small = begins p.value k h l; inside = i }

-- a turn that reads a digit has one fewer left
pub count_turns : (s : List ℕ) (g : Got ℕ) (more done : ℕ) (p d : Parsed ℕ) (a : Option (Parsed ℕ)) → Counting s g (more - done) p → done < more → Says s (digit (from s p.next)) a → a ≡ Some d → Counting s g (more - (done + 1)) (record { value = p.value * 10 + d.value; next = d.next })
unfolding place_after
count_turns s g more done p d a c l h e =
    let k = more - (done + 1) in
    let one_more : more - done ≡ suc k = omega arith in
    let before : Counting s g (suc k) p = rw one_more at c in
    record {
      goal = before.goal ∙ more_goes s k p.value p.next a d h e;
      small = grows p.value d.value k 100000 (digit_small s (from s p.next) a d h e) before.small;
      inside = rw e at h.inside;
    }

-- where no digit stands the loop has read the number
pub count_stops : (s : List ℕ) (g : Got ℕ) (left : ℕ) (p : Parsed ℕ) (a : Option (Parsed ℕ)) → Counting s g left p → Says s (digit (from s p.next)) a → a ≡ None → Says s g (Some p)
unfolding said_by said place_after
count_stops s g left p a c h e = record { says = sym (c.goal ∙ more_ends s left p.value p.next a h e); inside = c.inside }

-- and so it has once no digit may follow
pub count_ends : (s : List ℕ) (g : Got ℕ) (left : ℕ) (p : Parsed ℕ) → Counting s g left p → left ≤ 0 → Says s g (Some p)
unfolding said_by said place_after more_digits
count_ends s g zero p c h = record { says = sym c.goal; inside = c.inside }
count_ends s g (suc k) p c h = absurd (omega arith)

-- the number stays below 100,000 all the way
pub count_small : (s : List ℕ) (g : Got ℕ) (left : ℕ) (p : Parsed ℕ) → Counting s g left p → p.value < 100000
count_small s g left p c = below p.value left 100000 c.small
