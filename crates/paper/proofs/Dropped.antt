-- Dropping CR and 1AH: a line without them stays whole, and dropping twice is dropping once.
use Prim.Native.Nat.{ℕ, zero, suc}
use mathlib.Core.Path.{◌≡◌, refl, sym, ◌∙◌, ap}
use mathlib.Core.Bool.{Bool, true, false, not, ◌||◌, false≢true}
use mathlib.Core.List.{List, [], ◌∷◌, ◌++◌}
use native.Mathlib.Omega.{arith}
use lib.ListN.{take}
use lib.Dec.{eqb, ltb}
use borrow.Author.Tests.{eqb-true, lt-ltb}
use Rattle.paper.specs.Byte.{every, any}
use Rattle.paper.specs.Line.{is_dropped, kept, control}
use Rattle.paper.specs.Command.{Command, in_range}
use Rattle.paper.specs.Write.{normal}
use Rattle.paper.proofs.Law.{if_true, if_false, and_left, and_right}
use Rattle.paper.proofs.Test.{either}
use Rattle.paper.proofs.RoundTrip.{normal_control}

-- what is kept of two texts
pub kept_append : (s t : List ℕ) → kept (s ++ t) ≡ kept s ++ kept t
unfolding kept
kept_append [] t = refl
kept_append (b ∷ s) t =
    either (is_dropped b)
    (λ y. if_true _ _ _ y ∙ kept_append s t ∙ rw (if_true (is_dropped b) (kept s) (b ∷ kept s) y))
    (λ n. if_false _ _ _ n ∙ ap (λ x. b ∷ x) (kept_append s t) ∙ rw (if_false (is_dropped b) (kept s) (b ∷ kept s) n))

-- a byte that is not dropped
unfoldable pub stays : ℕ → Bool
stays b = not (is_dropped b)

-- a line of such bytes stays whole
pub kept_stays : (s : List ℕ) → every stays s ≡ true → kept s ≡ s
unfolding kept every stays
kept_stays [] e = refl
kept_stays (b ∷ s) e =
    either (is_dropped b)
    (λ y. let never : ◌≡◌ {A = Bool} false true = rw y at (and_left (not (is_dropped b)) _ e) in absurd (false≢true never))
    (λ n. if_false _ _ _ n ∙ ap (λ x. b ∷ x) (kept_stays s (and_right (not (is_dropped b)) _ e)))

-- what is kept are such bytes
pub stays_kept : (s : List ℕ) → every stays (kept s) ≡ true
unfolding kept every stays
stays_kept [] = refl
stays_kept (b ∷ s) = either (is_dropped b) (λ y. rw (if_true (is_dropped b) _ _ y) (stays_kept s)) (λ n. rw (if_false (is_dropped b) _ _ n, n, stays_kept s))

-- the first of them are
pub stays_take : (n : ℕ) (s : List ℕ) → every stays s ≡ true → every stays (take n s) ≡ true
unfolding every
stays_take zero s e = refl
stays_take (suc n) [] e = refl
stays_take (suc n) (b ∷ s) e = rw (and_left (stays b) _ e, stays_take n s (and_right (stays b) _ e))

-- a byte that is dropped is below 20H
dropped_low : (b : ℕ) → is_dropped b ≡ true → ltb b 0x20 ≡ true
unfolding is_dropped
dropped_low b e = either (eqb b 0x0d) (λ y. lt-ltb b 0x20 (omega (arith, eqb-true b 0x0d y))) (λ n. lt-ltb b 0x20 (omega (arith, eqb-true b 0x1a (rw n at e))))

-- a line without a byte below 20H
pub stays_clear : (s : List ℕ) → control s ≡ false → every stays s ≡ true
unfolding control any every stays
stays_clear [] e = refl
stays_clear (b ∷ s) e =
    either (is_dropped b)
    (λ y. let never : ◌≡◌ {A = Bool} true false = rw (dropped_low b y) at e in absurd (false≢true (sym never)))
    (λ n. rw (n, stays_clear s (none (ltb b 0x20) _ e)))
  where
    none : (a c : Bool) → (a || c) ≡ false → c ≡ false
    none true c h = absurd (false≢true (sym h))
    none false c h = h

pub kept_clear : (s : List ℕ) → control s ≡ false → kept s ≡ s
kept_clear s e = kept_stays s (stays_clear s e)

-- a line in normal form
pub kept_normal : (width : ℕ) (c : Command) → in_range width c ≡ true → kept (normal c) ≡ normal c
kept_normal width c e = kept_clear (normal c) (normal_control width c e)
