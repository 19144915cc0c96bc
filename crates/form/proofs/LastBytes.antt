-- The first and the last bytes of a line that draws tell its ending.
use mathlib.Core.Path.{◌≡◌, refl, sym, ◌∙◌, ap}
use mathlib.Core.Bool.{Bool, true, false}
use mathlib.Core.List.{List, [], ◌∷◌, ◌++◌}
use Prim.Native.Nat.{ℕ, ◌+◌, ◌-◌, ◌*◌, ◌/◌, ◌%◌, ◌≤◌, ◌<◌}
use native.Mathlib.Omega.{arith}
use lib.ListN.{length, get_or, length-append}
use lib.Dec.{eqb}
use borrow.Author.Tests.{leb-true}
use Rattle.std.specs.Prelude.{Option, Some, None}
use Rattle.paper.specs.Byte.{bytes}
use Rattle.paper.specs.Command as P
use Rattle.paper.specs.Command.{draw_ranges, value_range, all_of}
use Rattle.paper.specs.Write.{line_text, value_text, two}
use Rattle.paper.proofs.Number.{decimal_small}
use Rattle.paper.proofs.Test.{Passed}
use Rattle.command.specs.View.{width}
use Rattle.form.specs.Plan.{shows_of}
use Rattle.form.specs.Ending.{value_ending, ending_of}
use Rattle.form.specs.declared.ending.Ending.{Ending}
use Rattle.form.proofs.Naming.{back, back_append, mark, Names, Naming, plain, named, naming}

-- a counter is one of ten, a variable one of sixteen
pub counter_few : (n : ℕ) → Passed (value_range (P.counter n)) → n < 10
unfolding value_range
counter_few n h = omega (arith, leb-true n 9 h.0)

pub variable_few : (n : ℕ) → Passed (value_range (P.variable n)) → n < 16
unfolding value_range
variable_few n h = omega (arith, leb-true n 15 h.0)

-- the bytes that name a value
pub counter_text : (n : ℕ) → n < 10 → value_text (P.counter n) ≡ 67 ∷ (48 + n) ∷ []
unfolding value_text bytes
counter_text n h = rw (decimal_small n h)

pub variable_text : (n : ℕ) → value_text (P.variable n) ≡ 86 ∷ (48 + n / 10) ∷ (48 + n % 10) ∷ []
unfolding value_text two bytes
variable_text n = refl

-- the last bytes of a line that ends in a counter
counter_bytes : (line u : List ℕ) (b n : ℕ) → n < 10 → line ≡ u ++ (b ∷ value_text (P.counter n)) → (length line ≡ length u + 3) × (back line 1 ≡ 48 + n) × (back line 2 ≡ 67) × (back line 3 ≡ b)
counter_bytes line u b n h e =
    let is : line ≡ u ++ (b ∷ 67 ∷ (48 + n) ∷ []) = e ∙ ap (λ x. u ++ (b ∷ x)) (counter_text n h) in
    (ap length is ∙ length-append u _, back_append line u _ 1 is (omega arith), back_append line u _ 2 is (omega arith), back_append line u _ 3 is (omega arith))

-- and of one that ends in a variable
variable_bytes : (line u : List ℕ) (b n : ℕ) → line ≡ u ++ (b ∷ value_text (P.variable n)) → (length line ≡ length u + 4) × (back line 1 ≡ 48 + n % 10) × (back line 2 ≡ 48 + n / 10) × (back line 4 ≡ b)
variable_bytes line u b n e =
    let is : line ≡ u ++ (b ∷ 86 ∷ (48 + n / 10) ∷ (48 + n % 10) ∷ []) = e ∙ ap (λ x. u ++ (b ∷ x)) (variable_text n) in
    (ap length is ∙ length-append u _, back_append line u _ 1 is (omega arith), back_append line u _ 2 is (omega arith), back_append line u _ 4 is (omega arith))

-- a value behind a byte that tells whether it stands alone
record Behind (b : ℕ) (value : P.Value) (r : Option Ending) : Type 0 where
  opens : Bool
  marked : b ≡ mark opens
  ending : Some (value_ending value opens) ≡ r

-- the byte is a comma where it does
behind_test : (b : ℕ) (value : P.Value) (r : Option Ending) → Behind b value r → Some (value_ending value (eqb b 44)) ≡ r
unfolding mark
behind_test b value r k = go k.opens k.marked k.ending
  where
    go : (opens : Bool) → b ≡ mark opens → Some (value_ending value opens) ≡ r → Some (value_ending value (eqb b 44)) ≡ r
    go true m h = rw m h
    go false m h = rw m h

module _ (line : List ℕ) (d : P.Draw) (e : line ≡ line_text (P.draw d)) (g : all_of (draw_ranges width d) ≡ true) where
  -- a line that names a value is a text of 4 bytes or more, and does not end in a quote
  names_long : (value : P.Value) (opens : Bool) → Names d value opens → (4 ≤ length line) × (get_or line 0 0 ≡ 65) × (back line 1 ≡ 34 → ⊥)
  names_long (P.counter n) opens k =
      let is : line ≡ (65 ∷ k.front) ++ (mark opens ∷ value_text (P.counter n)) = e ∙ k.is in
      let last = counter_bytes line (65 ∷ k.front) (mark opens) n (counter_few n (k.range g)) is in
      (omega (arith, last.0), ap (λ s. get_or s 0 0) is, λ q. omega (arith, last.1))
  names_long (P.variable n) opens k =
      let is : line ≡ (65 ∷ k.front) ++ (mark opens ∷ value_text (P.variable n)) = e ∙ k.is in
      let last = variable_bytes line (65 ∷ k.front) (mark opens) n is in
      (omega (arith, last.0), ap (λ s. get_or s 0 0) is, λ q. omega (arith, last.1))

  -- so a line that is not so names none
  whole : ((4 ≤ length line) × (get_or line 0 0 ≡ 65) × (back line 1 ≡ 34 → ⊥) → ⊥) → None ≡ ending_of (shows_of d)
  whole f = go (naming d)
    where
      go : Naming d → None ≡ ending_of (shows_of d)
      go (plain p) = sym p.ending
      go (named value opens k) = absurd (f (names_long value opens k))

  pub whole_short : length line < 4 → None ≡ ending_of (shows_of d)
  whole_short h = whole λ k. omega (arith, k.0)

  pub whole_other : (get_or line 0 0 ≡ 65 → ⊥) → None ≡ ending_of (shows_of d)
  whole_other h = whole λ k. h k.1

  pub whole_closed : back line 1 ≡ 34 → None ≡ ending_of (shows_of d)
  whole_closed h = whole λ k. k.2 h

  module _ (first : get_or line 0 0 ≡ 65) (unclosed : back line 1 ≡ 34 → ⊥) where
    -- a text that does not end in a quote and has a `C` before its last byte ends in a counter
    counter_behind : (n : ℕ) → back line 2 ≡ 67 → n ≡ back line 1 - 48 → Behind (back line 3) (P.counter n) (ending_of (shows_of d))
    counter_behind n c h = go (naming d)
      where
        go : Naming d → Behind (back line 3) (P.counter n) (ending_of (shows_of d))
        go (plain p) = absurd (unclosed (ap (λ s. back s 1) e ∙ p.closed (ap (λ s. get_or s 0 0) (sym e) ∙ first)))
        go (named (P.counter m) opens k) =
            let last = counter_bytes line (65 ∷ k.front) (mark opens) m (counter_few m (k.range g)) (e ∙ k.is) in
            let same : n ≡ m = omega (arith, last.1) in
            record { opens = opens; marked = last.3; ending = ap (λ x. Some (value_ending (P.counter x) opens)) same ∙ sym k.ending }
        go (named (P.variable m) opens k) =
            let last = variable_bytes line (65 ∷ k.front) (mark opens) m (e ∙ k.is) in
            absurd (omega (arith, last.2, variable_few m (k.range g)))

    pub counter_ends : (n : ℕ) (r : Ending) → back line 2 ≡ 67 → n ≡ back line 1 - 48 → r ≡ value_ending (P.counter n) (eqb (back line 3) 44) → Some r ≡ ending_of (shows_of d)
    counter_ends n r c h is = ap Some is ∙ behind_test _ (P.counter n) _ (counter_behind n c h)

    -- and else in a variable
    variable_behind : (tens ones : ℕ) → (back line 2 ≡ 67 → ⊥) → tens ≡ back line 2 - 48 → ones ≡ back line 1 - 48 → Behind (back line 4) (P.variable (tens * 10 + ones)) (ending_of (shows_of d))
    variable_behind tens ones c t o = go (naming d)
      where
        go : Naming d → Behind (back line 4) (P.variable (tens * 10 + ones)) (ending_of (shows_of d))
        go (plain p) = absurd (unclosed (ap (λ s. back s 1) e ∙ p.closed (ap (λ s. get_or s 0 0) (sym e) ∙ first)))
        go (named (P.counter m) opens k) = absurd (c (counter_bytes line (65 ∷ k.front) (mark opens) m (counter_few m (k.range g)) (e ∙ k.is)).2)
        go (named (P.variable m) opens k) =
            let last = variable_bytes line (65 ∷ k.front) (mark opens) m (e ∙ k.is) in
            let same : tens * 10 + ones ≡ m = omega (arith, last.1, last.2) in
            record { opens = opens; marked = last.3; ending = ap (λ x. Some (value_ending (P.variable x) opens)) same ∙ sym k.ending }

    pub variable_ends : (tens ones : ℕ) (r : Ending) → (back line 2 ≡ 67 → ⊥) → tens ≡ back line 2 - 48 → ones ≡ back line 1 - 48 → r ≡ value_ending (P.variable (tens * 10 + ones)) (eqb (back line 4) 44) → Some r ≡ ending_of (shows_of d)
    variable_ends tens ones r c t o is = ap Some is ∙ behind_test _ (P.variable (tens * 10 + ones)) _ (variable_behind tens ones c t o)
