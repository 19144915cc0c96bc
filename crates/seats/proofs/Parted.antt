-- The numbers of thirty sessions: each session's stand at its own part, and writing a part changes that session alone.
use Prim.Native.Nat.{ℕ, suc, ◌+◌, ◌*◌, ◌<◌}
use mathlib.Core.Path.{◌≡◌, refl, ◌∙◌, ap}
use mathlib.Core.List.{List, [], ◌∷◌, ◌++◌}
use native.Mathlib.Omega.{arith}
use lib.ListN.{length, take, drop, get_or, set, get_or-append}
use lib.Seq.{length-take-le, get_or-append-add}
use borrow.Author.Tests.{eq-eqb}
use Rattle.paper.specs.Class.{seat}
use Rattle.paper.proofs.Apart.{seat_own, seat_other}
use Rattle.session.specs.declared.state.Held.{Held}
use Rattle.seats.specs.Numbers.{code_of, held_in}
use Rattle.seats.specs.Seats.{numbers_of}
use Rattle.seats.proofs.Flat.{flat_length, flat_alike, flat_write}

-- a session has ten numbers
pub held_length : (h : Held) → length (held_in h) ≡ 10
unfolding held_in
held_length h = refl

-- thirty have three hundred
pub numbers_length : (h : ℕ → Held) → length (numbers_of h) ≡ 300
unfolding numbers_of
numbers_length h = flat_length (λ k. held_in (h k)) 10 0 30 (λ k m n. held_length (h k))

-- sessions that are the same below thirty have the same numbers
pub numbers_alike : (g h : ℕ → Held) → ((k : ℕ) → k < 30 → g k ≡ h k) → numbers_of g ≡ numbers_of h
unfolding numbers_of
numbers_alike g h e = flat_alike (λ k. held_in (g k)) (λ k. held_in (h k)) 0 30 (λ k l m. ap held_in (e k m))

-- writing a session's numbers at its part changes that session alone
pub numbers_seat : (h : ℕ → Held) (t : ℕ) (x : Held) → t < 30
    → numbers_of (seat t x h) ≡ take (t * 10) (numbers_of h) ++ (held_in x ++ drop (suc t * 10) (numbers_of h))
unfolding numbers_of
numbers_seat h t x l =
    let here : 0 + t ≡ t = omega arith in
    let own : seat t x h t ≡ x = seat_own t x h t (eq-eqb t t refl) in
    rw (here, own) at
    (flat_write (λ k. held_in (h k)) (λ k. held_in (seat t x h k)) 10 0 30 t (λ k m n. held_length (h k)) (λ k n. ap held_in (seat_other t x h k (rw here at n))) l)

-- the numbers before a part, the part itself, and those behind it
pub numbers_split : (h : ℕ → Held) (t : ℕ) → t < 30
    → numbers_of h ≡ take (t * 10) (numbers_of h) ++ (held_in (h t) ++ drop (suc t * 10) (numbers_of h))
unfolding numbers_of
numbers_split h t l =
    let here : 0 + t ≡ t = omega arith in
    rw here at (flat_write (λ k. held_in (h k)) (λ k. held_in (h k)) 10 0 30 t (λ k m n. held_length (h k)) (λ k n. refl) l)

-- how many stand before it
pub before_length : (h : ℕ → Held) (t : ℕ) → t < 30 → length (take (t * 10) (numbers_of h)) ≡ t * 10
before_length h t l = length-take-le (t * 10) (numbers_of h) (omega (arith, numbers_length h))

-- what stands in the middle of three lists is read there
middle_at : (xs a b d : List ℕ) (n i : ℕ) → xs ≡ a ++ (b ++ d) → length a ≡ n → i < length b → get_or xs (n + i) 0 ≡ get_or b i 0
middle_at xs a b d n i e l m = rw (e, ← l) (get_or-append-add a (b ++ d) i 0 ∙ get_or-append b d 0 i m)

-- and written there
set_behind : (a b : List ℕ) (i v : ℕ) → set (a ++ b) (length a + i) v ≡ a ++ set b i v
set_behind [] b i v = let here : 0 + i ≡ i = omega arith in rw here
set_behind (x ∷ a) b i v =
    let on : suc (length a) + i ≡ suc (length a + i) = omega arith in rw on (ap (λ xs. x ∷ xs) (set_behind a b i v))

pub middle_set : (xs a b : List ℕ) (n i v : ℕ) → xs ≡ a ++ b → length a ≡ n → set xs (n + i) v ≡ a ++ set b i v
middle_set xs a b n i v e l = rw (e, ← l) (set_behind a b i v)

-- a number of a session, where it stands
pub numbers_at : (h : ℕ → Held) (t i : ℕ) → t < 30 → i < 10 → get_or (numbers_of h) (t * 10 + i) 0 ≡ get_or (held_in (h t)) i 0
numbers_at h t i l m =
    middle_at (numbers_of h) (take (t * 10) (numbers_of h)) (held_in (h t)) (drop (suc t * 10) (numbers_of h)) (t * 10) i (numbers_split h t l) (before_length h t l) (rw (held_length (h t)) m)

-- the tag, the form and the start
module _ (held : List ℕ) (h : ℕ → Held) (e : held ≡ numbers_of h) (t : ℕ) (l : t < 30) where
  pub tag_at : get_or held (t * 10) 0 ≡ (code_of (h t).mode).tag
  unfolding held_in
  tag_at = let here : t * 10 ≡ t * 10 + 0 = omega arith in rw (e, here) (numbers_at h t 0 l (omega arith))

  pub form_at_place : get_or held (t * 10 + 4) 0 ≡ (h t).form
  unfolding held_in
  form_at_place = rw e (numbers_at h t 4 l (omega arith))

  pub start_at : get_or held (t * 10 + 5) 0 ≡ (h t).start
  unfolding held_in
  start_at = rw e (numbers_at h t 5 l (omega arith))
