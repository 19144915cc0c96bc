-- A line by the rules of a sound form: its place among the lines, and the value that it shows or defines.
use Prim.Native.Nat.{ℕ, zero, suc, ◌≤◌, ◌<◌}
use mathlib.Core.Path.{◌≡◌, refl, sym, ◌∙◌, ap}
use mathlib.Core.Bool.{Bool, true, false, not, and-true, false≢true}
use mathlib.Core.List.{List, [], append-nil}
use mathlib.Core.Option.{none}
use native.Mathlib.Omega.{arith}
use lib.ListN.{get_or, set}
use lib.Dec.{ltb, leb, eqb}
use borrow.Author.Tests.{lt-ltb, le-ltb, ne_eqb, lt-leb}
use Rattle.std.specs.Prelude.{Option, Some, None, IsSome}
use Rattle.std.specs.Option as Known
use Rattle.paper.specs.Command as P
use Rattle.paper.specs.Command.{all, all_of, in_range, ranges, draw_ranges, define_ranges}
use Rattle.paper.specs.Form.{asked, value_of, len_of, defined, is_some, is_size, is_direction, drawing, in_place, draw_sound, value_sound, rules}
use Rattle.paper.specs.Write.{line_text}
use Rattle.paper.proofs.Test.{held, tests}
use Rattle.text.specs.Place.{byte_at}
use Rattle.command.specs.View.{width}
use Rattle.command.specs.declared.Step.{Step}
use Rattle.form.specs.Asked.{define_of, line_of}
use Rattle.form.specs.Sound.{place_in, slot_of, len_noted, Agrees, Judges}
use Rattle.form.specs.declared.asked.Define.{Define}
use Rattle.form.specs.declared.asked.Define.TheVariants.{Counter, Variable}
use Rattle.form.proofs.Lines.{Tells}
use Rattle.form.proofs.Defined.{letter_of, first_byte}
use Rattle.form.proofs.Slots.{place_some, noted_at, noted_none, noted_some, agrees_more}

-- what is said of a line that draws, in range and below the definitions whose lens are noted
abbrev pub Drawn : List (Option ℕ) → List ℕ → (List P.Define → P.Draw → Type 0) → Type 0
Drawn lens s K = (d : P.Draw) (above : List P.Define) → s ≡ line_text (P.draw d) → all_of (draw_ranges width d) ≡ true → Agrees lens above → K above d

-- the places of the lines in a form, where so many lines stand above: `Q`, `Z` and any other
record Places (k : ℕ) : Type 0 where
  size : (p₁ p₂ : ℕ) → eqb k 0 ≡ in_place k (P.draw (P.size p₁ p₂))
  direction : (d : ℕ) → eqb k 1 ≡ in_place k (P.draw (P.direction d))
  other : (l : P.FormLine) → drawing is_size l ≡ false → drawing is_direction l ≡ false → ltb 1 k ≡ in_place k l

-- they are as the paper says
places : (k : ℕ) → Places k
unfolding in_place drawing is_size is_direction
places zero = record { size = λ _ _. refl; direction = λ _. refl; other = λ l s d. sym s }
places (suc zero) = record { size = λ _ _. refl; direction = λ _. refl; other = λ l s d. sym d }
places (suc (suc k)) = record {
  size = λ _ _. ne_eqb (suc (suc k)) 0 (omega arith);
  direction = λ _. ne_eqb (suc (suc k)) 1 (omega arith);
  other = λ l s d. rw (s, d) (lt-ltb 1 (suc (suc k)) (omega arith));
}

-- a line that names no value is judged by its place
plain_rules : (k : ℕ) (above : List P.Define) (d : P.Draw) (b : Bool) → draw_sound above d ≡ [] → b ≡ in_place k (P.draw d) → b ≡ all (rules k above (P.draw d))
unfolding rules value_sound all
plain_rules k above d b n e = e ∙ rw (n, and-true)

-- one that begins with Q is the first
pub size_rules : (k : ℕ) (s : List ℕ) (b : ℕ) → b ≡ byte_at s 0 → b ≡ 81 → (d : P.Draw) (above : List P.Define) → s ≡ line_text (P.draw d) → eqb k 0 ≡ all (rules k above (P.draw d))
unfolding draw_sound letter_of
size_rules k s b e c (P.size p₁ p₂) above q = plain_rules k above _ _ refl ((places k).size p₁ p₂)
size_rules k s b e c (P.direction d) above q = let f : b ≡ 90 = first_byte s b _ e q in absurd (omega arith)
size_rules k s b e c (P.put t content) above q = let f : b ≡ 65 = first_byte s b _ e q in absurd (omega arith)
size_rules k s b e c (P.bar pen x y w t) above q = let f : b ≡ 76 = first_byte s b _ e q in absurd (omega arith)
size_rules k s b e c (P.frame x₁ y₁ t x₂ y₂) above q = let f : b ≡ 88 = first_byte s b _ e q in absurd (omega arith)

-- one that begins with Z is the second
pub direction_rules : (k : ℕ) (s : List ℕ) (b : ℕ) → b ≡ byte_at s 0 → b ≡ 90 → (d : P.Draw) (above : List P.Define) → s ≡ line_text (P.draw d) → eqb k 1 ≡ all (rules k above (P.draw d))
unfolding draw_sound letter_of
direction_rules k s b e c (P.size p₁ p₂) above q = let f : b ≡ 81 = first_byte s b _ e q in absurd (omega arith)
direction_rules k s b e c (P.direction d) above q = plain_rules k above _ _ refl ((places k).direction d)
direction_rules k s b e c (P.put t content) above q = let f : b ≡ 65 = first_byte s b _ e q in absurd (omega arith)
direction_rules k s b e c (P.bar pen x y w t) above q = let f : b ≡ 76 = first_byte s b _ e q in absurd (omega arith)
direction_rules k s b e c (P.frame x₁ y₁ t x₂ y₂) above q = let f : b ≡ 88 = first_byte s b _ e q in absurd (omega arith)

-- any other stands below the first two
neither : (s : List ℕ) (b : ℕ) (d : P.Draw) → b ≡ byte_at s 0 → (b ≡ 81 → ⊥) → (b ≡ 90 → ⊥) → s ≡ line_text (P.draw d) → (is_size d ≡ false) × (is_direction d ≡ false)
unfolding letter_of is_size is_direction
neither s b (P.size p₁ p₂) e n m q = absurd (n (first_byte s b _ e q))
neither s b (P.direction d) e n m q = absurd (m (first_byte s b _ e q))
neither s b (P.put t content) e n m q = (refl, refl)
neither s b (P.bar pen x y w t) e n m q = (refl, refl)
neither s b (P.frame x₁ y₁ t x₂ y₂) e n m q = (refl, refl)

early : (k : ℕ) (above : List P.Define) (l : P.FormLine) → drawing is_size l ≡ false → drawing is_direction l ≡ false → k < 2 → false ≡ all (rules k above l)
unfolding rules all
early k above l s d h = rw (← (places k).other l s d, le-ltb 1 k (omega arith))

pub early_rules : (k : ℕ) (s : List ℕ) (b : ℕ) → b ≡ byte_at s 0 → (b ≡ 81 → ⊥) → (b ≡ 90 → ⊥) → k < 2 → (d : P.Draw) (above : List P.Define) → s ≡ line_text (P.draw d) → leb 2 k ≡ all (rules k above (P.draw d))
unfolding drawing
early_rules k s b e n m h d above q = let f = neither s b d e n m q in lt-leb 2 k h ∙ early k above (P.draw d) f.0 f.1 h

-- and is judged there by the value that it shows
pub late_rules : (k : ℕ) (lens : List (Option ℕ)) (s : List ℕ) (b : ℕ) (t : Bool) → b ≡ byte_at s 0 → (b ≡ 81 → ⊥) → (b ≡ 90 → ⊥) → 2 ≤ k → Drawn lens s (λ above d. t ≡ all (draw_sound above d)) → Drawn lens s (λ above d. t ≡ all (rules k above (P.draw d)))
unfolding rules value_sound all drawing
late_rules k lens s b t e n m h r d above q g a =
    let f = neither s b d e n m q in
    r d above q g a ∙ rw (← (places k).other (P.draw d) f.0 f.1, lt-ltb 1 k (omega arith))

-- a definition is neither of the first two lines
pub define_early : (k : ℕ) (lens : List (Option ℕ)) → k < 2 → (d : P.Define) (above : List P.Define) → Judges k above (P.define d) false lens
unfolding drawing
define_early k lens h d above = record { judged = early k above (P.define d) refl refl h; notes = λ e. absurd (false≢true e) }

-- below them it is judged by those above it
define_rules : (k : ℕ) (above : List P.Define) (d : P.Define) → 2 ≤ k → all (rules k above (P.define d)) ≡ not (is_some (defined (value_of d) above))
unfolding rules value_sound all drawing
define_rules k above d h = rw (← (places k).other (P.define d) refl refl, lt-ltb 1 k (omega arith), and-true)

-- what is there has a value, and what is not has none
some_len : (o : Option ℕ) → Known.is_some o ≡ true → (len : ℕ) × (o ≡ Some len)
some_len None h = cc
some_len (Some len) h = (len, refl)

none_len : (o : Option ℕ) → Known.is_some o ≡ false → o ≡ None
none_len None h = refl
none_len (Some len) h = cc

module _ (k : ℕ) (lens : List (Option ℕ)) (given : Option ℕ) (slot : ℕ) (is : given ≡ Some slot) (was : Option ℕ) (known : was ≡ get_or lens slot None) (there : Bool) (tells : there ≡ Known.is_some was) where
  -- what was noted of a value
  noted_was : (v : P.Value) (above : List P.Define) → given ≡ slot_of v → Agrees lens above → len_noted (defined v above) ≡ was
  noted_was v above p a = sym (known ∙ noted_at lens above v slot a (sym is ∙ p))

  -- a value is defined twice
  pub define_twice : 2 ≤ k → there ≡ true → (d : P.Define) (above : List P.Define) → given ≡ slot_of (value_of d) → Agrees lens above → Judges k above (P.define d) false lens
  define_twice late y d above p a =
      let (len, some) = some_len was (sym tells ∙ y) in
      let noted : len_noted (defined (value_of d) above) ≡ Some len = noted_was (value_of d) above p a ∙ some in
      record {
        judged = sym (define_rules k above d late ∙ rw (noted_some (defined (value_of d) above) len noted) refl);
        notes = λ q. absurd (false≢true q);
      }

  -- a value is defined for the first time, and its len is noted
  pub define_notes : 2 ≤ k → there ≡ false → (len : ℕ) (new : List (Option ℕ)) → new ≡ set lens slot (Some len) → (d : P.Define) (above : List P.Define) → given ≡ slot_of (value_of d) → len ≡ len_of d → IsSome given → Agrees lens above → Judges k above (P.define d) true new
  unfolding asked is_some
  define_notes late n len new set_to d above p q s a =
      let noted : len_noted (defined (value_of d) above) ≡ None = noted_was (value_of d) above p a ∙ none_len was (sym tells ∙ n) in
      let first : defined (value_of d) above ≡ none = noted_none (defined (value_of d) above) noted in
      record {
        judged = sym (define_rules k above d late ∙ rw first);
        notes = λ _. rw (set_to, q) (agrees_more lens above d slot a first (sym p ∙ is));
      }

-- a definition in range has a place
define_range : (d : P.Define) → in_range width (P.keep (P.define d)) ≡ true → IsSome (slot_of (value_of d))
unfolding in_range ranges define_ranges value_of slot_of
define_range (P.counting n len letter by prompt) e =
    let h = held (define_ranges (P.counting n len letter by prompt)) e in
    let few : n ≤ 9 = omega (tests, h.0.0) in
    rw (← place_some 0 9 n few) refl
define_range (P.varying n len letter prompt) e =
    let h = held (define_ranges (P.varying n len letter prompt)) e in
    let few : n ≤ 15 = omega (tests, h.0.0) in
    rw (← place_some 10 15 n few) refl

-- what is said of a definition in range that was read
abbrev pub Told : Define → List (Option ℕ) → (List P.Define → P.Define → Type 0) → Type 0
Told define lens K = (d : P.Define) (above : List P.Define) → define ≡ define_of d → in_range width (P.keep (P.define d)) ≡ true → Agrees lens above → K above d

module _ (k : ℕ) (old new : List (Option ℕ)) (slot : Option ℕ) (len : ℕ) (r : Bool)
    (judges : (d : P.Define) (above : List P.Define) → slot ≡ slot_of (value_of d) → len ≡ len_of d → IsSome slot → Agrees old above → Judges k above (P.define d) r new) where
  -- a definition is judged by its place and its len
  define_judged : (d : P.Define) (above : List P.Define) → slot ≡ slot_of (value_of d) → len ≡ len_of d → in_range width (P.keep (P.define d)) ≡ true → Agrees old above → Judges k above (P.define d) r new
  define_judged d above p m i a = judges d above p m (rw p (define_range d i)) a

  -- a counter's
  pub counter_judged : (define : Define) (n : ℕ) (step : Step) → define ≡ Counter n len step → slot ≡ place_in 0 9 n → Told define old (λ above d. Judges k above (P.define d) r new)
  unfolding define_of value_of len_of slot_of
  counter_judged define n step e p (P.counting n' len' letter by prompt) above q i a =
      let same : n ≡ n' = cc in define_judged _ above (p ∙ ap (place_in 0 9) same) (cc) i a
  counter_judged define n step e p (P.varying n' len' letter prompt) above q i a = let z : ◌≡◌ {A = ℕ} 0 1 = cc in absurd (omega arith)

  -- a variable's
  pub variable_judged : (define : Define) (n : ℕ) → define ≡ Variable n len → slot ≡ place_in 10 15 n → Told define old (λ above d. Judges k above (P.define d) r new)
  unfolding define_of value_of len_of slot_of
  variable_judged define n e p (P.counting n' len' letter by prompt) above q i a = let z : ◌≡◌ {A = ℕ} 0 1 = cc in absurd (omega arith)
  variable_judged define n e p (P.varying n' len' letter prompt) above q i a =
      let same : n ≡ n' = cc in define_judged _ above (p ∙ ap (place_in 10 15) same) (cc) i a

-- what the check of a line promises
abbrev pub Checks : ℕ → List ℕ → List (Option ℕ) → Bool → List (Option ℕ) → Type 0
Checks k line old r new =
    (l : P.FormLine) (above : List P.Define) → line ≡ line_text l → in_range width (P.keep l) ≡ true → Agrees old above → Judges k above l r new

-- a line that is told to draw defines nothing more
pub draw_judged : (k : ℕ) (lens : List (Option ℕ)) (s : List ℕ) (told : Option Define) (r : Bool) → told ≡ None → Tells s told → Drawn lens s (λ above d. r ≡ all (rules k above (P.draw d))) → Checks k s lens r lens
unfolding line_of in_range ranges asked
draw_judged k lens s told r e t j (P.draw d) above q i a = record { judged = j d above q i a; notes = λ _. rw append-nil a }
draw_judged k lens s told r e t j (P.define d) above q i a = let other = t (P.define d) q i in cc

-- one that is told to define is judged as its definition
pub told_judged : (k : ℕ) (old new : List (Option ℕ)) (s : List ℕ) (told : Option Define) (define : Define) (r : Bool) → told ≡ Some define → Tells s told → Told define old (λ above d. Judges k above (P.define d) r new) → Checks k s old r new
unfolding line_of
told_judged k old new s told define r e t j (P.draw d) above q i a = let other = t (P.draw d) q i in cc
told_judged k old new s told define r e t j (P.define d) above q i a = let is = t (P.define d) q i in j d above (cc) i a
