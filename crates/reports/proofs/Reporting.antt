-- A refusal's line of the report: its numbers, each with the byte behind it.
use Prim.Native.Nat.{ℕ, ◌+◌, ◌^◌, ◌≤◌, ◌<◌}
use mathlib.Core.Path.{◌≡◌, refl}
use mathlib.Core.List.{List, [], ◌∷◌, ◌++◌, append_assoc}
use native.Mathlib.Omega.{arith}
use lib.ListN.{length}
use Rattle.std.specs.Prelude.{Result, Ok, Err}
use Rattle.paper.specs.Byte.{decimal}
use Rattle.paper.specs.Refusal as R
use Rattle.paper.specs.Program.{spaced, err_of}
use Rattle.paper.proofs.Number.{decimal_is_within}
use Rattle.command.specs.View.{refusal_of}
use Rattle.command.specs.Answer.{Reports}
use Rattle.command.specs.declared.Refusal.{Refusal}
use Rattle.command.specs.declared.Refusal.TheVariants as W
use Rattle.text.specs.Write.{Writes}
use Rattle.text.proofs.Written.{writes_none, writes_then}
use Rattle.command.specs.Numbered.{first, number_of}

-- a number of 64 bits has at most 20 digits
pub digits_few : (n : ℕ) → n < 2 ^ 64 → length (decimal n) ≤ 20
digits_few n h = decimal_is_within 20 n (omega arith) (omega arith)

-- the refusals that give one number, which is their own: all but the ninth
figures_one : (why : Refusal) → ((line : ℕ) → why ≡ W.Unsound line → ⊥) → R.figures (refusal_of why) ≡ number_of (refusal_of why) ∷ []
unfolding R.figures refusal_of number_of first
figures_one W.TooLong h = refl
figures_one W.ControlByte h = refl
figures_one W.NotNow h = refl
figures_one W.Unknown h = refl
figures_one W.Malformed h = refl
figures_one W.OutOfRange h = refl
figures_one W.Overfull h = refl
figures_one W.IsSpoiled h = refl
figures_one (W.Unsound line) h = absurd (h line refl)
figures_one W.NameTaken h = refl
figures_one W.NoRoom h = refl
figures_one W.Absent h = refl
figures_one W.Unfit h = refl
figures_one W.Overrun h = refl
figures_one W.TooShort h = refl
figures_one W.NotPrinting h = refl
figures_one W.OthersCollect h = refl
figures_one W.NoTablet h = refl
figures_one W.HeldOpen h = refl

-- the line of a refusal that gives one number
pub report_one : (old : List ℕ) (at k : ℕ) (mid : List ℕ) (a n : ℕ) (new : List ℕ) (r : ℕ) (why : Refusal) → ((line : ℕ) → why ≡ W.Unsound line → ⊥)
    → n ≡ number_of (refusal_of why) → Writes old at (decimal k ++ (32 ∷ [])) mid a → Writes mid a (decimal n ++ (10 ∷ [])) new r
    → Writes old at (err_of k (R.refused (refusal_of why))) new r
unfolding err_of spaced
report_one old at k mid a n new r why h e p q =
    let whole = writes_then old at _ mid a _ new r p q in
    rw (figures_one why h, ← e) (simp append_assoc (simp append_assoc at whole))

-- the line of one that gives two
pub report_two : (old : List ℕ) (at k : ℕ) (mid : List ℕ) (a : ℕ) (more : List ℕ) (b line : ℕ) (new : List ℕ) (r : ℕ) (why : Refusal) → why ≡ W.Unsound line
    → Writes old at (decimal k ++ (32 ∷ [])) mid a → Writes mid a (decimal 9 ++ (32 ∷ [])) more b → Writes more b (decimal line ++ (10 ∷ [])) new r
    → Writes old at (err_of k (R.refused (refusal_of why))) new r
unfolding err_of spaced refusal_of R.figures
report_two old at k mid a more b line new r why e p q s =
    let whole = writes_then old at _ more b _ new r (writes_then old at _ mid a _ more b p q) s in
    rw e (simp append_assoc (simp append_assoc at whole))

-- an accepted answer adds nothing
pub report_none : (old : List ℕ) (at k : ℕ) (answer : Result ℕ Refusal) (len : ℕ) → answer ≡ Ok len → at + 64 ≤ length old
    → (p : R.Answer) → Reports answer p → Writes old at (err_of k p) old at
unfolding Reports err_of
report_none old at k answer len e h (R.accepted bytes) m = writes_none old at (omega arith)
report_none old at k answer len e h (R.refused r) m = absurd (rw e at m)

-- a refusal adds its line
pub report_line : (old : List ℕ) (at k : ℕ) (answer : Result ℕ Refusal) (why : Refusal) (new : List ℕ) (r : ℕ) → answer ≡ Err why
    → Writes old at (err_of k (R.refused (refusal_of why))) new r → (p : R.Answer) → Reports answer p → Writes old at (err_of k p) new r
unfolding Reports err_of
report_line old at k answer why new r e w (R.accepted bytes) m = absurd (rw e at m)
report_line old at k answer why new r e w (R.refused q) m =
    let same : refusal_of why ≡ q = rw e at m in
    rw same at w
