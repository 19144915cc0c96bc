-- What waits of a line from its start, and why it is refused.
use Prim.Native.Nat.{ℕ, ◌≤◌}
use mathlib.Core.Path.{◌≡◌, refl, sym, ◌∙◌, ap}
use mathlib.Core.Bool.{Bool, true, false}
use mathlib.Core.List.{List, [], ◌++◌}
use native.Mathlib.Omega.{arith}
use lib.ListN.{length, take, length-take}
use borrow.Author.Tests.{ne_eqb}
use Rattle.paper.specs.Byte.{when◌then◌else◌}
use Rattle.paper.specs.Line.{kept}
use Rattle.paper.proofs.Law.{if_false}
use Rattle.paper.proofs.Test.{clash}
use Rattle.command.specs.declared.Refusal.TheVariants as W
use Rattle.wait.specs.Waiting.{WaitingIn, ComesIn, Waits, Waiting, Comes, Gathered, fault_of}

-- of no line nothing waits
waits_none : (memory : List ℕ) → length memory ≡ 257 → Waits [] memory 0
waits_none memory l = record { front = refl; counts = refl; room = l }

pub waiting_none : (memory : List ℕ) → length memory ≡ 257 → Waiting memory 0
waiting_none memory l = record { line = []; waits = waits_none memory l }

-- then what is kept of a line
pub waits_kept : (old s new : List ℕ) (n : ℕ) → length old ≡ 257 → Comes old 0 s new n → Waits (kept s) new n
waits_kept old s new n l c = c.comes [] (waits_none old l)

-- that lies within its memory
pub kept_inside : (old s new : List ℕ) (n : ℕ) → length old ≡ 257 → Comes old 0 s new n → n ≤ length new
kept_inside old s new n l c = let w = waits_kept old s new n l c in omega (arith, w.counts, w.room, length-take 257 (kept s))

pub kept_counts : (old s new : List ℕ) (n : ℕ) → length old ≡ 257 → Comes old 0 s new n → n ≡ length (take n new)
kept_counts old s new n l c = let w = waits_kept old s new n l c in w.counts ∙ ap length (sym w.front)

-- why it is refused, as the code tells it
pub fault_long : (n : ℕ) → n ≡ 257 → W.TooLong ≡ fault_of n
unfolding fault_of when◌then◌else◌
fault_long n e = rw e

pub fault_control : (n : ℕ) → (n ≡ 257 → ⊥) → W.ControlByte ≡ fault_of n
unfolding fault_of
fault_control n e = sym (if_false _ _ _ (ne_eqb n 257 e))

-- `gather`: of a line that lies elsewhere nothing waits
pub gathers_none : (room : ℕ) (old : List ℕ) (len : ℕ) (rest : List ℕ) (whole : Bool) → whole ≡ true → Gathered room old len rest whole old 0
gathers_none room old len rest whole y = record { inside = omega arith; size = refl; none = λ z. (refl, refl); more = λ n. absurd (clash y n) }

-- or more of a line comes
pub gathers_more : (room : ℕ) (old : List ℕ) (len : ℕ) (rest : List ℕ) (whole : Bool) (new : List ℕ) (n : ℕ) → whole ≡ false → WaitingIn room old len → ComesIn room old len rest new n → Gathered room old len rest whole new n
gathers_more room old len rest whole new n m w c =
    let h = c.comes w.line w.waits in
    record {
      inside = omega (arith, h.counts, h.room, length-take room (w.line ++ kept rest));
      size = h.room ∙ sym w.waits.room;
      none = λ y. absurd (clash y m);
      more = λ z. c;
    }
