-- The search for the next in Printing: what is left to search gives what was to be found.
use Prim.Native.Nat.{ℕ, suc, ◌+◌, ◌-◌, ◌*◌, ◌≤◌, ◌<◌}
use mathlib.Core.Path.{◌≡◌, refl, sym, ◌∙◌, ap}
use mathlib.Core.Bool.{Bool, true, false}
use mathlib.Core.List.{List}
use mathlib.Core.Option.{none, some}
use Rattle.std.proofs.Common.{Some, None}
use native.Mathlib.Omega.{arith}
use native.Mathlib.Numerals.{add-one}
use lib.ListN.{get_or}
use lib.Dec.{ltb, eqb}
use borrow.Author.Tests.{lt-ltb, le-ltb, ltb-true, eq-eqb, ne_eqb}
use Rattle.paper.specs.Class.{onward, first_after}
use Rattle.paper.proofs.Law.{if_true, if_false, by_test}
use Rattle.session.specs.declared.state.Held.{Held}
use Rattle.seats.specs.Numbers.{code_of}
use Rattle.seats.specs.Seats.{numbers_of, option_of}
use Rattle.seats.proofs.Parted.{tag_at}

-- the number after another
pub onward_up : (k : ℕ) → k < 29 → k + 1 ≡ onward k
unfolding onward
onward_up k l = add-one k ∙ sym (if_true _ _ _ (lt-ltb k 29 l))

pub onward_round : (k : ℕ) → 29 ≤ k → 0 ≡ onward k
unfolding onward
onward_round k l = sym (if_false _ _ _ (le-ltb k 29 l))

pub onward_below : (k : ℕ) → onward k < 30
unfolding onward
onward_below k = by_test (λ m. m < 30) (ltb k 29) (suc k) 0 (λ y. let low = ltb-true k 29 y in omega arith) (λ n. omega arith)

-- one step of the search
first_here : (test : ℕ → Bool) (n k : ℕ) → test (onward k) ≡ true → first_after test (suc n) k ≡ some (onward k)
unfolding first_after
first_here test n k e = rw (e, first_after)

first_later : (test : ℕ → Bool) (n k : ℕ) → test (onward k) ≡ false → first_after test (suc n) k ≡ first_after test n (onward k)
unfolding first_after
first_later test n k e = rw (e, first_after)

-- so many were asked before a number, and the others give what was to be found
pub record Asking (held : List ℕ) (last k asked : ℕ) : Type 0 where
  pub same : (h : ℕ → Held) → held ≡ numbers_of h → first_after (λ j. eqb (code_of (h j).mode).tag 6) 30 last ≡ first_after (λ j. eqb (code_of (h j).mode).tag 6) (30 - asked) k

module _ (held : List ℕ) (last : ℕ) where
  pub asking_begins : Asking held last last 0
  asking_begins = record { same = λ h e. refl }

  pub asking_turns : (k asked next : ℕ) → Asking held last k asked → asked < 30 → next ≡ onward k → (get_or held (next * 10) 0 ≡ 6 → ⊥) → Asking held last next (asked + 1)
  asking_turns k asked next w l e o =
      record {
        same = λ h p.
            let more : 30 - asked ≡ suc (30 - (asked + 1)) = omega arith in
            let not' : eqb (code_of (h (onward k)).mode).tag 6 ≡ false = rw (← tag_at held h p (onward k) (onward_below k), ← e) (ne_eqb _ 6 o) in
            w.same h p ∙ ap (λ m. first_after (λ j. eqb (code_of (h j).mode).tag 6) m k) more ∙ rw e (first_later (λ j. eqb (code_of (h j).mode).tag 6) (30 - (asked + 1)) k not');
      }

  pub asking_found : (k asked next : ℕ) → Asking held last k asked → asked < 30 → next ≡ onward k → get_or held (next * 10) 0 ≡ 6
      → (h : ℕ → Held) → held ≡ numbers_of h → Some next ≡ option_of (first_after (λ j. eqb (code_of (h j).mode).tag 6) 30 last)
  unfolding option_of
  asking_found k asked next w l e o h p =
      let more : 30 - asked ≡ suc (30 - (asked + 1)) = omega arith in
      let is : eqb (code_of (h (onward k)).mode).tag 6 ≡ true = rw (← tag_at held h p (onward k) (onward_below k), ← e) (eq-eqb _ 6 o) in
      let found = w.same h p ∙ ap (λ m. first_after (λ j. eqb (code_of (h j).mode).tag 6) m k) more ∙ first_here (λ j. eqb (code_of (h j).mode).tag 6) (30 - (asked + 1)) k is in
      rw found (ap Some e)

  pub asking_ends : (k asked : ℕ) → Asking held last k asked → 30 ≤ asked → (h : ℕ → Held) → held ≡ numbers_of h → None ≡ option_of (first_after (λ j. eqb (code_of (h j).mode).tag 6) 30 last)
  unfolding option_of first_after
  asking_ends k asked w l h p =
      let end : 30 - asked ≡ 0 = omega arith in
      let none' : first_after (λ j. eqb (code_of (h j).mode).tag 6) 30 last ≡ none = w.same h p ∙ ap (λ m. first_after (λ j. eqb (code_of (h j).mode).tag 6) m k) end in
      rw none'
