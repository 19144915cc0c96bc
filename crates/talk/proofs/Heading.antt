-- The first line of a record: its letters and its numbers are writes, one behind the other.
use Prim.Native.Nat.{ℕ, ◌^◌, ◌≤◌, ◌<◌}
use mathlib.Core.Path.{◌≡◌, refl}
use mathlib.Core.List.{List, [], ◌∷◌, ◌++◌, append-nil}
use native.Mathlib.Omega.{arith}
use lib.ListN.{length}
use Rattle.paper.specs.Byte.{bytes, decimal}
use Rattle.paper.specs.Refusal as R
use Rattle.paper.specs.ClassProgram.{listed, head_of, ok_head, no_head}
use Rattle.paper.proofs.Number.{decimal_is_within}
use Rattle.command.specs.View.{refusal_of}
use Rattle.command.specs.Numbered.{first, number_of}
use Rattle.command.specs.declared.Refusal.{Refusal}
use Rattle.command.specs.declared.Refusal.TheVariants as W
use Rattle.text.specs.Write.{Writes}
use Rattle.text.proofs.Written.{writes_then}

-- 64 bits are at most 20 digits
pub digits_few : (n : ℕ) → n < 2 ^ 64 → length (decimal n) ≤ 20
digits_few n h = decimal_is_within 20 n (omega arith) (omega arith)

-- a space, and the number behind it
pub spaced_number : (old : List ℕ) (at n : ℕ) (mid : List ℕ) (a : ℕ) (new : List ℕ) (r : ℕ) → Writes old at (32 ∷ []) mid a → Writes mid a (decimal n) new r
    → Writes old at (listed (n ∷ [])) new r
unfolding listed
spaced_number old at n mid a new r p q = rw append-nil (writes_then old at _ mid a _ new r p q)

-- a number, and others behind it
listed_then : (old : List ℕ) (at n : ℕ) (mid : List ℕ) (a : ℕ) (more new : List ℕ) (r : ℕ) → Writes old at (listed (n ∷ [])) mid a → Writes mid a (listed more) new r
    → Writes old at (listed (n ∷ more)) new r
unfolding listed
listed_then old at n mid a more new r p q = writes_then old at (32 ∷ decimal n) mid a _ new r (rw append-nil at p) q

-- three numbers
pub three_listed : (old : List ℕ) (at : ℕ) (b₁ : List ℕ) (a : ℕ) (b₂ : List ℕ) (b : ℕ) (new : List ℕ) (r x y z : ℕ) → Writes old at (listed (x ∷ [])) b₁ a
    → Writes b₁ a (listed (y ∷ [])) b₂ b → Writes b₂ b (listed (z ∷ [])) new r → Writes old at (listed (x ∷ y ∷ z ∷ [])) new r
three_listed old at b₁ a b₂ b new r x y z p q u =
    listed_then old at x b₁ a _ new r p (listed_then b₁ a y b₂ b _ new r q u)

-- two letters, the numbers and LF
head_told : (old : List ℕ) (at : ℕ) (b₁ : List ℕ) (a : ℕ) (b₂ : List ℕ) (b : ℕ) (b₃ : List ℕ) (end : ℕ) (new : List ℕ) (r x y : ℕ) (ns : List ℕ)
    → Writes old at (x ∷ []) b₁ a → Writes b₁ a (y ∷ []) b₂ b → Writes b₂ b (listed ns) b₃ end → Writes b₃ end (10 ∷ []) new r
    → Writes old at ((x ∷ y ∷ []) ++ listed ns ++ (10 ∷ [])) new r
head_told old at b₁ a b₂ b b₃ end new r x y ns p u v w =
    let word = writes_then old at _ b₁ a _ b₂ b p u in
    let most = writes_then old at _ b₂ b _ b₃ end word v in
    writes_then old at _ b₃ end _ new r most w

-- of an accepted call
pub ok_told : (old : List ℕ) (at : ℕ) (b₁ : List ℕ) (o : ℕ) (b₂ : List ℕ) (k : ℕ) (b₃ : List ℕ) (end : ℕ) (new : List ℕ) (r t left len : ℕ)
    → Writes old at (111 ∷ []) b₁ o → Writes b₁ o (107 ∷ []) b₂ k → Writes b₂ k (listed (t ∷ left ∷ len ∷ [])) b₃ end → Writes b₃ end (10 ∷ []) new r
    → Writes old at (ok_head t left len) new r
unfolding ok_head head_of bytes
ok_told old at b₁ o b₂ k b₃ end new r t left len = head_told old at b₁ o b₂ k b₃ end new r 111 107 (t ∷ left ∷ len ∷ [])

-- the refusals that give one number, which is their own: all but the ninth
figures_one : (why : Refusal) → ((line : ℕ) → why ≡ W.Unsound line → ⊥) → R.figures (refusal_of why) ≡ number_of (refusal_of why) ∷ []
unfolding R.figures refusal_of number_of first
figures_one W.TooLong h = refl
figures_one W.ControlByte h = refl
figures_one W.NotNow h = refl
figures_one W.Unknown h = refl
figures_one W.Malformed h = refl
figures_one W.OutOfRange h = refl
figures_one W.Overfull h = refl
figures_one W.IsSpoiled h = refl
figures_one (W.Unsound line) h = absurd (h line refl)
figures_one W.NameTaken h = refl
figures_one W.NoRoom h = refl
figures_one W.Absent h = refl
figures_one W.Unfit h = refl
figures_one W.Overrun h = refl
figures_one W.TooShort h = refl
figures_one W.NotPrinting h = refl
figures_one W.OthersCollect h = refl
figures_one W.NoTablet h = refl
figures_one W.HeldOpen h = refl

-- one number
pub one_figure : (old : List ℕ) (at n : ℕ) (new : List ℕ) (r : ℕ) (why : Refusal) → ((line : ℕ) → why ≡ W.Unsound line → ⊥) → n ≡ number_of (refusal_of why)
    → Writes old at (listed (n ∷ [])) new r → Writes old at (listed (R.figures (refusal_of why))) new r
one_figure old at n new r why h e w = rw (figures_one why h, ← e) w

-- two
pub two_figures : (old : List ℕ) (at n : ℕ) (mid : List ℕ) (a line : ℕ) (new : List ℕ) (r : ℕ) (why : Refusal) → why ≡ W.Unsound line → n ≡ number_of (refusal_of why)
    → Writes old at (listed (n ∷ [])) mid a → Writes mid a (listed (line ∷ [])) new r → Writes old at (listed (R.figures (refusal_of why))) new r
unfolding refusal_of R.figures number_of first
two_figures old at n mid a line new r why e h p q =
    let nine : n ≡ 9 = rw e at h in
    rw e (listed_then old at 9 mid a _ new r (rw nine at p) q)

-- of a refused one
pub no_told : (old : List ℕ) (at : ℕ) (b₁ : List ℕ) (n : ℕ) (b₂ : List ℕ) (o : ℕ) (b₃ : List ℕ) (end : ℕ) (new : List ℕ) (r : ℕ) (q : R.Refusal)
    → Writes old at (110 ∷ []) b₁ n → Writes b₁ n (111 ∷ []) b₂ o → Writes b₂ o (listed (R.figures q)) b₃ end → Writes b₃ end (10 ∷ []) new r
    → Writes old at (no_head q) new r
unfolding no_head head_of bytes
no_told old at b₁ n b₂ o b₃ end new r q = head_told old at b₁ n b₂ o b₃ end new r 110 111 (R.figures q)
