-- The lines of a sound form stay in range when their values are put in: going down the form, each value that an `A` names
-- is defined above it, what it shows fits that definition, and the rule of 100 bytes leaves room for the string before it.
use Prim.Native.Nat.{ℕ, suc, ◌+◌, ◌≤◌}
use mathlib.Core.Path.{◌≡◌, refl, sym}
use mathlib.Core.Bool.{Bool, true, ◌&&◌, and_assoc, false≢true}
use mathlib.Core.List.{List, [], ◌∷◌, ◌++◌, append_assoc}
use mathlib.Core.Option.{Option, none, some, some-injective, some-ne-none}
use native.Mathlib.Omega.{arith}
use lib.ListN.{length, length-append}
use borrow.Author.Tests.{leb-true, le-leb}
use Rattle.paper.specs.Byte.{when◌then◌else◌}
use Rattle.paper.specs.Command.{Value, Content, text, shown, joined, Draw, size, direction, put, bar, frame, Define, counting, varying, FormLine, draw, define, texts, content_ranges, setting_ranges, draw_ranges, define_ranges, ranges, all, all_of, in_range}
use Rattle.paper.specs.Form.{asked, value_of, len_of, same_value, defined, is_some, room_for, content_sound, draw_sound, value_sound, in_place, rules, first_broken}
use Rattle.paper.specs.Set.{all_hold, value_in, filled, placed, drawn}
use Rattle.paper.specs.State.{all_in, fitting}
use Rattle.paper.proofs.Law.{and_left, and_right, and_both}
use Rattle.paper.proofs.Text.{every_append}
use Rattle.paper.proofs.Test.{Passed, Held, passed, held, either, tests}
use Rattle.paper.proofs.Split.{all_range}
use Rattle.paper.proofs.Shown.{Shown, value_in_fits}

-- a sound form's first line passes its rules, and the lines below it are sound under its definition
pub broken_cons : (k : ℕ) (above : List Define) (l : FormLine) (ls : List FormLine) → first_broken k above (l ∷ ls) ≡ none → (in_place k l ≡ true) × Passed (value_sound above l) × (first_broken (suc k) (above ++ asked (l ∷ [])) ls ≡ none)
unfolding first_broken rules
broken_cons k above l ls e =
    either (all (rules k above l))
    (λ y. let each = passed (rules k above l) y in (each.0, each.1, rw (y, first_broken) at e))
    (λ n. absurd (some-ne-none _ (rw (n, first_broken) at e)))

-- the definitions of a form are that of its first line and then those below
asked_cons : (above : List Define) (l : FormLine) (ls : List FormLine) → above ++ asked (l ∷ ls) ≡ (above ++ asked (l ∷ [])) ++ asked ls
unfolding asked
asked_cons above (draw d) ls = sym (append_assoc above [] (asked ls))
asked_cons above (define d) ls = sym (append_assoc above (d ∷ []) (asked ls))

-- definitions further down leave a value's definition as it is: the first wins
pub defined_more : (v : Value) (above more : List Define) (d : Define) → defined v above ≡ some d → defined v (above ++ more) ≡ some d
unfolding defined when◌then◌else◌
defined_more v [] more d e = absurd (some-ne-none _ (sym e))
defined_more v (b ∷ above) more d e =
    either (same_value v (value_of b)) (λ y. rw y (rw y at e)) (λ n. rw n (defined_more v above more d (rw n at e)))

-- a definition in range has a len of at most 99
pub len_range : (d : Define) → Held (define_ranges d) → len_of d ≤ 99
unfolding define_ranges len_of
len_range (counting n len letter by prompt) h = omega (tests, h.1.0.1.0)
len_range (varying n len letter prompt) h = omega (tests, h.1.0.1.0)

-- and so has each definition of a form in range
defined_len : (width : ℕ) (ls : List FormLine) (v : Value) (d : Define) → all_in width ls ≡ true → defined v (asked ls) ≡ some d → len_of d ≤ 99
unfolding all_in asked defined in_range ranges when◌then◌else◌
defined_len width [] v d e f = absurd (some-ne-none _ (sym f))
defined_len width (draw b ∷ ls) v d e f = defined_len width ls v d (and_right (all_of (draw_ranges width b)) _ e) f
defined_len width (define b ∷ ls) v d e f =
    either (same_value v (value_of b))
    (λ y. rw (← some-injective _ _ (rw y at f)) (len_range b (held (define_ranges b) (and_left _ _ e))))
    (λ n. defined_len width ls v d (and_right (all_of (define_ranges b)) _ e) (rw n at f))

-- values that show what fits their definitions
pub record Serves (ds : List Define) (values : Value → List ℕ) : Type 0 where
  pub each : (v : Value) (d : Define) → defined v ds ≡ some d → Shown (len_of d) (values v)
  pub few : (v : Value) (d : Define) → defined v ds ≡ some d → len_of d ≤ 99

-- fitting answers serve the form's definitions in a set within its counters
pub answers_serve : (width : ℕ) (ls : List FormLine) (answers : List (List ℕ)) (i : ℕ) → all_in width ls ≡ true → fitting (asked ls) answers ≡ true → all_hold i (asked ls) answers ≡ true → Serves (asked ls) (value_in (asked ls) answers i)
answers_serve width ls answers i e f h = record {
  each = λ v d p. value_in_fits (asked ls) answers i v d f h p;
  few = λ v d p. defined_len width ls v d e p;
}

-- what serves all definitions serves those above a line
serves_above : (above more : List Define) (values : Value → List ℕ) → Serves (above ++ more) values → Serves above values
serves_above above more values s = record {
  each = λ v d p. s.each v d (defined_more v above more d p);
  few = λ v d p. s.few v d (defined_more v above more d p);
}

-- something is there
some_of : (o : Option Define) → is_some o ≡ true → (d : Define) × (o ≡ some d)
unfolding is_some
some_of none e = absurd (false≢true e)
some_of (some d) e = (d, refl)

-- the text that a sound `A` in range shows has at most 100 bytes, each of which a label shows
pub filled_range : (above : List Define) (values : Value → List ℕ) (c : Content) → Serves above values → Held (content_ranges c) → Passed (content_sound above c) → Shown 100 (filled values c)
unfolding content_ranges texts content_sound filled room_for
filled_range above values (text s) serves h p = record { short = leb-true _ _ h.0.0; visible = h.0.1.0 }
filled_range above values (shown v) serves h p =
    let (d, q) = some_of (defined v above) p.0 in
    let has = serves.each v d q in
    record { short = omega (arith, has.short, serves.few v d q); visible = has.visible }
filled_range above values (joined s v) serves h p =
    let (d, q) = some_of (defined v above) p.0 in
    let has = serves.each v d q in
    let room : length s + len_of d ≤ 100 = leb-true _ _ (rw q at p.1.0) in
    record {
      short = rw length-append (omega (arith, has.short));
      visible = rw (every_append, h.0.1.0, has.visible);
    }

-- tests of two lists of lists
pub all_of_append : (ps qs : List (List Bool)) → all_of (ps ++ qs) ≡ (all_of ps && all_of qs)
unfolding all_of
all_of_append [] qs = refl
all_of_append (p ∷ ps) qs = rw (all_of_append ps qs) (sym (and_assoc (all p) (all_of ps) (all_of qs)))

-- a text that is shown is in the range of an `A`'s content
text_range : (s : List ℕ) → Shown 100 s → all_of (content_ranges (text s)) ≡ true
unfolding content_ranges texts all_of all
text_range s h = rw (le-leb _ _ h.short, h.visible)

-- so a sound line in range is in range with its value in place
pub placed_range : (width : ℕ) (above : List Define) (values : Value → List ℕ) (d : Draw) → Serves above values → all_of (draw_ranges width d) ≡ true → Passed (draw_sound above d) → all_of (draw_ranges width (placed values d)) ≡ true
unfolding draw_ranges draw_sound placed
placed_range width above values (size p₁ p₂) serves e p = e
placed_range width above values (direction d) serves e p = e
placed_range width above values (put s c) serves e p =
    let before = all_of (setting_ranges width s) in
    let both = rw (all_of_append (setting_ranges width s) (content_ranges c)) at e in
    let full = filled_range above values c serves (held (content_ranges c) (and_right before _ both)) p in
    rw (all_of_append, and_left before _ both, text_range (filled values c) full)
placed_range width above values (bar pen x y w t) serves e p = e
placed_range width above values (frame x₁ y₁ t x₂ y₂) serves e p = e

-- and the lines that a sound form draws are in range
pub drawn_range : (width k : ℕ) (above : List Define) (values : Value → List ℕ) (ls : List FormLine) → Serves (above ++ asked ls) values → all_in width ls ≡ true → first_broken k above ls ≡ none → all_range width (drawn values ls) ≡ true
unfolding all_in drawn all_range in_range ranges value_sound
drawn_range width k above values [] serves e b = refl
drawn_range width k above values (draw d ∷ ls) serves e b =
    let (place, sound, below) = broken_cons k above (draw d) ls b in
    and_both _ _
    (placed_range width above values d (serves_above above _ values serves) (and_left _ _ e) sound)
    (drawn_range width (suc k) _ values ls (rw asked_cons at serves) (and_right (all_of (draw_ranges width d)) _ e) below)
drawn_range width k above values (define d ∷ ls) serves e b =
    let (place, sound, below) = broken_cons k above (define d) ls b in
    drawn_range width (suc k) _ values ls (rw asked_cons at serves) (and_right (all_of (define_ranges d)) _ e) below
