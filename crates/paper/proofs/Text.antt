-- Laws of the small words on texts: tests that every byte passes, over texts put together, and what they say of control bytes.
use Prim.Native.Nat.{ℕ, ◌≤◌}
use mathlib.Core.Path.{◌≡◌, refl, sym}
use mathlib.Core.Bool.{Bool, true, false, ◌&&◌, and_assoc, or-true, false≢true}
use mathlib.Core.List.{List, [], ◌∷◌, ◌++◌}
use native.Mathlib.Omega.{arith}
use lib.Dec.{leb, ltb, eqb}
use borrow.Author.Tests.{leb-true, le-ltb, le-leb, eqb-true}
use Rattle.paper.specs.Byte.{every, any, among, between, same}
use Rattle.paper.specs.Line.{control}
use Rattle.paper.proofs.Law.{and_left, and_right, and_both}

-- a test on two texts put together is the test on each
pub every_append : (test : ℕ → Bool) (s t : List ℕ) → every test (s ++ t) ≡ (every test s && every test t)
unfolding every
every_append test [] t = refl
every_append test (b ∷ s) t = rw (every_append test s t) (sym (and_assoc (test b) (every test s) (every test t)))

-- a weaker test passes where a stronger one does
pub every_weaker : (p q : ℕ → Bool) → ((b : ℕ) → p b ≡ true → q b ≡ true) → (s : List ℕ) → every p s ≡ true → every q s ≡ true
unfolding every
every_weaker p q w [] e = refl
every_weaker p q w (b ∷ s) e =
    and_both (q b) (every q s) (w b (and_left (p b) (every p s) e)) (every_weaker p q w s (and_right (p b) (every p s) e))

-- a byte below 20H behind others is a control byte of the whole
pub control_behind : (x : List ℕ) (b : ℕ) (y : List ℕ) → ltb b 0x20 ≡ true → control (x ++ (b ∷ y)) ≡ true
unfolding control any
control_behind [] b y e = rw e
control_behind (c ∷ x) b y e = rw (control_behind x b y e) (or-true (ltb c 0x20))

-- a byte that is no control byte
abbrev pub clear : ℕ → Bool
clear b = leb 0x20 b

-- a text of such bytes has no control byte
pub clear_control : (s : List ℕ) → every clear s ≡ true → control s ≡ false
unfolding control any every
clear_control [] e = refl
clear_control (b ∷ s) e =
    rw (le-ltb b 0x20 (leb-true 0x20 b (and_left (clear b) (every clear s) e))) (clear_control s (and_right (clear b) (every clear s) e))

-- bytes between two others are clear if the lower is
pub clear_between : (lo hi : ℕ) → 0x20 ≤ lo → (s : List ℕ) → every (between lo hi) s ≡ true → every clear s ≡ true
clear_between lo hi l = every_weaker (between lo hi) clear λ b e. weaker b e
  where
    weaker : (b : ℕ) → between lo hi b ≡ true → clear b ≡ true
    weaker b e = le-leb 0x20 b (omega (arith, leb-true lo b (and_left (leb lo b) (leb b hi) (unfold between in e))))

-- a byte that is one of a text's passes a test that all of them pass
pub among_every : (test : ℕ → Bool) (s : List ℕ) (b : ℕ) → every test s ≡ true → among s b ≡ true → test b ≡ true
unfolding among any every
among_every test [] b e a = absurd (false≢true a)
among_every test (c ∷ s) b e a = go (eqb b c) refl (among_every test s b (and_right (test c) (every test s) e))
  where
    go : (t : Bool) → eqb b c ≡ t → (among s b ≡ true → test b ≡ true) → test b ≡ true
    go true q ih = rw (eqb-true b c q) (and_left (test c) (every test s) e)
    go false q ih = ih (rw q at a)

-- two texts that are found the same are equal
pub same_eq : (s t : List ℕ) → same s t ≡ true → s ≡ t
unfolding same
same_eq [] [] e = refl
same_eq [] (c ∷ t) e = absurd (false≢true e)
same_eq (b ∷ s) [] e = absurd (false≢true e)
same_eq (b ∷ s) (c ∷ t) e =
    rw (eqb-true b c (and_left (eqb b c) (same s t) e), same_eq s t (and_right (eqb b c) (same s t) e))
