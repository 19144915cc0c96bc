-- Refusal 14: a counter that holds in the first set and in the last holds in every set between, and what the test says
-- over natural numbers is the rule over the integers. The idea: a step up only grows and a step down only shrinks.
use mathlib.Core.Path.{◌≡◌, refl, ap, ◌∙◌, sym}
use mathlib.Core.Bool.{Bool, true, false, cond, ◌&&◌}
use mathlib.Core.Logic.{◌↔◌}
use mathlib.Core.List.{List, [], ◌∷◌}
use Prim.Native.Nat.{ℕ, zero, suc, ◌+◌, ◌-◌, ◌*◌, ◌^◌, ◌≤◌, ◌<◌, zero-le}
use native.Mathlib.Nat.{le_refl, mul-le-mul_right, one-le-pow, mul-zero, add-zero, sub-zero}
use native.Mathlib.Omega.{arith}
use lib.Dec.{leb, ltb, leb→le, le→leb}
use lib.IntN.{ℤ, pos, negsuc, neg_ℤ, pos-ne-negsuc, sub_ℕ, ◌+ℤ◌, ◌*ℤ◌}
use lib.Signed.{◌≤ℤ◌, le_z_yes}
use borrow.Author.Tests.{leb-true, ltb-true, ltb-false, lt-ltb, le-leb, le-ltb}
use Rattle.paper.specs.Command.{Step, up, down, Define, counting, varying}
use Rattle.paper.specs.Set.{amount, value_at, holds, holds_to, all_hold}
use Rattle.paper.proofs.Law.{and_left, and_right, and_both}
use Rattle.paper.proofs.Test.{tests}

-- what the test of a step down says
holds_down : (len n start i : ℕ) → (holds len (down n) start i ≡ true) ↔ ((i * n ≤ start) × (start - i * n < 10 ^ len))
unfolding holds
holds_down len n start i = (
  λ e. (leb-true _ _ (and_left (leb (i * n) start) _ e), ltb-true _ _ (and_right (leb (i * n) start) _ e)),
  λ p. and_both _ _ (le-leb _ _ p.0) (lt-ltb _ _ p.1),
)

-- a counter that holds in the first set and in the last holds in every set between
pub holds_between : (len : ℕ) (by : Step) (start last i : ℕ) → holds len by start 0 ≡ true → holds len by start last ≡ true → i ≤ last → holds len by start i ≡ true
unfolding holds
holds_between len (up n) start last i p q h = let grows = mul-le-mul_right n h in omega tests
holds_between len (down n) start last i p q h =
    let grows = mul-le-mul_right n h in
    let first = (holds_down len n start 0).0 p in
    let final = (holds_down len n start last).0 q in
    (holds_down len n start i).1 (omega arith)

-- to test the first set and the last is to test every set
pub holds_everywhere : (len : ℕ) (by : Step) (start last : ℕ) → (holds len by start 0 && holds len by start last ≡ true) ↔ ((i : ℕ) → i ≤ last → holds len by start i ≡ true)
holds_everywhere len by start last = (
  λ e i. holds_between len by start last i (and_left _ _ e) (and_right (holds len by start 0) _ e),
  λ every. and_both _ _ (every 0 zero-le) (every last (le_refl last)),
)

-- a definition that holds to the last set holds to every set before it
pub holds_to_between : (last i : ℕ) (d : Define) (a : List ℕ) → holds_to last d a ≡ true → i ≤ last → holds_to i d a ≡ true
unfolding holds_to
holds_to_between last i (counting n len letter by prompt) a e h =
    let first = and_left _ _ e in
    let final = and_right (holds len by (amount 0 a) 0) _ e in
    and_both _ _ first (holds_between len by (amount 0 a) last i first final h)
holds_to_between last i (varying n len letter prompt) a e h = refl

-- counters that hold to the last set hold to every set before it
pub hold_in_every_set : (last i : ℕ) (ds : List Define) (answers : List (List ℕ)) → all_hold last ds answers ≡ true → i ≤ last → all_hold i ds answers ≡ true
unfolding all_hold
hold_in_every_set last i [] answers e h = refl
hold_in_every_set last i (d ∷ ds) [] e h = refl
hold_in_every_set last i (d ∷ ds) (a ∷ more) e h =
    and_both _ _
    (holds_to_between last i d a (and_left _ _ e) h)
    (hold_in_every_set last i ds more (and_right (holds_to last d a) _ e) h)

-- a step with its sign
unfoldable pub signed : Step → ℤ
signed (up n) = pos n
signed (down n) = neg_ℤ (pos n)

-- a counter's value in set i as an integer: start plus i times step
unfoldable pub integer_at : Step → ℕ → ℕ → ℤ
integer_at by start i = pos start +ℤ pos i *ℤ signed by

-- a multiple of a negative number
times_down : (i n : ℕ) → pos i *ℤ neg_ℤ (pos n) ≡ neg_ℤ (pos (i * n))
times_down i zero = rw mul-zero
times_down i (suc n) = refl

-- a sum with a negative number is a difference
plus_down : (a k : ℕ) → pos a +ℤ neg_ℤ (pos k) ≡ sub_ℕ a k
plus_down a zero = rw (add-zero, le-ltb, sub-zero, zero-le)
plus_down a (suc k) = refl

-- a step down is a difference
down_integer : (n start i : ℕ) → integer_at (down n) start i ≡ sub_ℕ start (i * n)
unfolding integer_at signed
down_integer n start i = ap (λ z. pos start +ℤ z) (times_down i n) ∙ plus_down start (i * n)

-- a difference that is no less than 0
apart : (a k : ℕ) → k ≤ a → sub_ℕ a k ≡ pos (a - k)
apart a k h = rw (le-ltb a k h)

-- what holds is the natural number that the paper's value is
pub holds_value : (len : ℕ) (by : Step) (start i : ℕ) → holds len by start i ≡ true → integer_at by start i ≡ pos (value_at by start i)
unfolding value_at integer_at signed
holds_value len (up n) start i e = refl
holds_value len (down n) start i e = down_integer n start i ∙ apart start (i * n) ((holds_down len n start i).0 e).0

-- an integer that is a natural number, and below a bound
natural : (z : ℤ) (most : ℕ) → 0 < most → (pos 0 ≤ℤ z) → (z ≤ℤ pos (most - 1)) → (v : ℕ) × (z ≡ pos v) × (v < most)
natural (pos v) most h p q = let l = leb→le v (most - 1) q.le in (v, refl, omega arith)
natural (negsuc v) most h p q = absurd p.le

-- a difference that is a natural number is no less than 0
apart_only : (a k v : ℕ) → sub_ℕ a k ≡ pos v → (k ≤ a) × (a - k ≡ v)
apart_only a k v e = go (ltb a k) refl e
  where
    go : (t : Bool) → ltb a k ≡ t → cond t (negsuc (k - suc a)) (pos (a - k)) ≡ pos v → (k ≤ a) × (a - k ≡ v)
    go true l e = absurd (pos-ne-negsuc v (k - suc a) (sym e))
    go false l e = (ltb-false a k l, cc)

-- a counter holds if its integer is a natural number below 10^len
pub natural_holds : (len : ℕ) (by : Step) (start i v : ℕ) → integer_at by start i ≡ pos v → v < 10 ^ len → holds len by start i ≡ true
unfolding holds integer_at signed
natural_holds len (up n) start i v e h =
    let same' : start + i * n ≡ v = cc in
    lt-ltb (start + i * n) (10 ^ len) (omega arith)
natural_holds len (down n) start i v e h =
    let difference = apart_only start (i * n) v (sym (down_integer n start i) ∙ e) in
    (holds_down len n start i).1 (omega arith)

-- what holds is below 10^len
pub holds_below : (len : ℕ) (by : Step) (start i : ℕ) → holds len by start i ≡ true → value_at by start i < 10 ^ len
unfolding holds value_at
holds_below len (up n) start i e = ltb-true _ _ e
holds_below len (down n) start i e = ((holds_down len n start i).0 e).1

-- the test is the rule: the counter's value is neither below 0 nor above 10^len - 1
pub holds_integer : (len : ℕ) (by : Step) (start i : ℕ) → (holds len by start i ≡ true) ↔ ((pos 0 ≤ℤ integer_at by start i) × (integer_at by start i ≤ℤ pos (10 ^ len - 1)))
holds_integer len by start i = (
  λ e.
      let small = holds_below len by start i e in
      rw (holds_value len by start i e) (le_z_yes (le→leb 0 (value_at by start i) zero-le), le_z_yes (le→leb (value_at by start i) (10 ^ len - 1) (omega arith))),
  λ p.
      let z = natural (integer_at by start i) (10 ^ len) (one-le-pow len 10 (omega arith)) p.0 p.1 in
      natural_holds len by start i z.0 z.1 z.2,
)
