-- The search among the other tablets: below the number that it has come to, none passes.
use Prim.Native.Nat.{ℕ, zero, suc, ◌+◌, ◌*◌, ◌≤◌, ◌<◌}
use mathlib.Core.Path.{◌≡◌, refl, sym}
use mathlib.Core.Bool.{Bool, true, false, not, ◌&&◌, ◌||◌}
use mathlib.Core.List.{List}
use native.Mathlib.Omega.{arith}
use native.Mathlib.Numerals.{add-one}
use lib.ListN.{get_or}
use lib.Dec.{eqb, leb}
use borrow.Author.Tests.{eq-eqb, ne_eqb, leb-true, leb-false}
use Rattle.paper.specs.Byte.{between}
use Rattle.paper.proofs.Test.{either}
use Rattle.session.specs.declared.state.Held.{Held}
use Rattle.seats.specs.Seats.{numbers_of, is_at, beside_below}
use Rattle.seats.proofs.Parted.{tag_at, form_at_place}

or_passes : (a : Bool) → (a || true) ≡ true
or_passes true = refl
or_passes false = refl

-- one that passes below a bound passes below any greater one
beside_more : (n m t : ℕ) (test : ℕ → Bool) → n ≤ m → beside_below n t test ≡ true → beside_below m t test ≡ true
unfolding beside_below
beside_more n zero t test l e = let same : n ≡ 0 = omega arith in rw same at e
beside_more n (suc m) t test l e =
    either (leb n m)
    (λ y. rw (beside_more n m t test (leb-true n m y) e) (or_passes (not (eqb m t) && test m)))
    (λ o. let above = leb-false n m o in let same : n ≡ suc m = omega arith in rw same at e)

-- no session below a number passes, but perhaps the tablet's own
pub record Passed (held : List ℕ) (t low high first last k : ℕ) : Type 0 where
  pub none : (h : ℕ → Held) → held ≡ numbers_of h → beside_below k t (λ j. is_at low high first last (h j)) ≡ false

module _ (held : List ℕ) (t low high first last : ℕ) where
  pub passed_begins : Passed held t low high first last 0
  unfolding beside_below
  passed_begins = record { none = λ h e. refl }

  -- what is read at a place is what is asked of the session
  at_place : (k : ℕ) → k < 30 → (h : ℕ → Held) → held ≡ numbers_of h
      → (between low high (get_or held (k * 10) 0) && between first last (get_or held (k * 10 + 4) 0)) ≡ is_at low high first last (h k)
  unfolding is_at
  at_place k l h p = rw (tag_at held h p k l, form_at_place held h p k l)

  pub passed_own : (k : ℕ) → Passed held t low high first last k → k ≡ t → Passed held t low high first last (k + 1)
  unfolding beside_below
  passed_own k w e = record { none = λ h p. rw (add-one k, eq-eqb k t e) (w.none h p) }

  pub passed_turns : (k : ℕ) (r : Bool) → Passed held t low high first last k → k < 30 → (k ≡ t → ⊥) → r ≡ (between low high (get_or held (k * 10) 0) && between first last (get_or held (k * 10 + 4) 0)) → r ≡ false
      → Passed held t low high first last (k + 1)
  unfolding beside_below
  passed_turns k r w l o e f = record { none = λ h p. rw (add-one k, ne_eqb k t o, ← at_place k l h p, ← e, f) (w.none h p) }

  pub passed_found : (k : ℕ) (r : Bool) → Passed held t low high first last k → k < 30 → (k ≡ t → ⊥) → r ≡ (between low high (get_or held (k * 10) 0) && between first last (get_or held (k * 10 + 4) 0)) → r ≡ true
      → (h : ℕ → Held) → held ≡ numbers_of h → true ≡ beside_below 30 t (λ j. is_at low high first last (h j))
  unfolding beside_below
  passed_found k r w l o e f h p =
      let here : beside_below (suc k) t (λ j. is_at low high first last (h j)) ≡ true = rw (ne_eqb k t o, ← at_place k l h p, ← e, f) in
      sym (beside_more (suc k) 30 t (λ j. is_at low high first last (h j)) (omega arith) here)

  pub passed_ends : (k : ℕ) → Passed held t low high first last k → k ≡ 30 → (h : ℕ → Held) → held ≡ numbers_of h → false ≡ beside_below 30 t (λ j. is_at low high first last (h j))
  passed_ends k w end h p = sym (rw end at (w.none h p))
