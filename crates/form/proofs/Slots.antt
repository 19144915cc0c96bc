-- The lens of the definitions above a line: each value has a place of its own, and a definition more is one more len.
use Prim.Native.Nat.{ℕ, ◌+◌, ◌≤◌, ◌<◌}
use mathlib.Core.Path.{◌≡◌, refl, sym, ◌∙◌, ap}
use mathlib.Core.Bool.{Bool, true, false, and-true}
use mathlib.Core.List.{List, [], ◌∷◌, ◌++◌}
use mathlib.Core.Option as M
use mathlib.Core.Option.{none, some}
use native.Mathlib.Omega.{arith}
use native.Mathlib.Decide.{dec_lt}
use lib.ListN.{length, get_or, set, replicate, length-set, length-replicate, get_or-replicate, get_or-eq_default}
use lib.Seq.{set_out, get_or-set_same, get_or-set_other}
use lib.Dec.{ltb, leb}
use borrow.Author.Tests.{leb-true, ltb-true, ltb-false, lt-ltb, le-ltb, eq-eqb}
use Rattle.std.specs.Prelude.{Option, Some, None}
use Rattle.paper.specs.Command as P
use Rattle.paper.specs.Command.{all, value_range}
use Rattle.paper.specs.Form.{value_of, len_of, same_value, defined, is_some, room_for, content_sound}
use Rattle.paper.proofs.Law.{if_true, if_false}
use Rattle.paper.proofs.Test.{Passed, either, clash}
use Rattle.form.specs.Plan.{number_of}
use Rattle.form.specs.Sound.{place_in, slot_of, len_in, len_noted, Agrees}
use Rattle.form.proofs.Distinct.{same_value_equal}

-- a number past the last has no place
pub place_none : (first last n : ℕ) → last < n → None ≡ place_in first last n
unfolding place_in
place_none first last n h = sym (if_true _ _ _ (lt-ltb last n h))

-- any other has its own
pub place_some : (first last n : ℕ) → n ≤ last → Some (first + n) ≡ place_in first last n
unfolding place_in
place_some first last n h = sym (if_false _ _ _ (le-ltb last n h))

-- and a value in range has its number as its place
pub place_number : (v : P.Value) → Passed (value_range v) → Some (number_of v) ≡ slot_of v
unfolding number_of slot_of value_range
place_number (P.counter n) h = let same : 0 + n ≡ n = omega arith in ap Some (sym same) ∙ place_some 0 9 n (leb-true n 9 h.0)
place_number (P.variable n) h = place_some 10 15 n (leb-true n 15 h.0)

-- so a number with a place is not past the last
place_below : (first last n slot : ℕ) → place_in first last n ≡ Some slot → (n ≤ last) × (first + n ≡ slot)
place_below first last n slot e =
    either (ltb last n)
    (λ y. let none : None ≡ Some slot = place_none first last n (ltb-true last n y) ∙ e in cc)
    (λ no. let few : n ≤ last = ltb-false last n no in let some : Some (first + n) ≡ Some slot = place_some first last n few ∙ e in (few, cc))

-- a place is one of 26
pub slot_small : (v : P.Value) (slot : ℕ) → slot_of v ≡ Some slot → slot < 26
unfolding slot_of
slot_small (P.counter n) slot e = let b = place_below 0 9 n slot e in omega arith
slot_small (P.variable n) slot e = let b = place_below 10 15 n slot e in omega arith

-- values with one place are the same
place_same : (v w : P.Value) (slot : ℕ) → slot_of v ≡ Some slot → slot_of w ≡ Some slot → same_value v w ≡ true
unfolding same_value slot_of
place_same (P.counter n) (P.counter m) slot e f =
    let a = place_below 0 9 n slot e in let b = place_below 0 9 m slot f in eq-eqb n m (omega arith)
place_same (P.counter n) (P.variable m) slot e f =
    let a = place_below 0 9 n slot e in let b = place_below 10 15 m slot f in absurd (omega arith)
place_same (P.variable n) (P.counter m) slot e f =
    let a = place_below 10 15 n slot e in let b = place_below 0 9 m slot f in absurd (omega arith)
place_same (P.variable n) (P.variable m) slot e f =
    let a = place_below 10 15 n slot e in let b = place_below 10 15 m slot f in eq-eqb n m (omega arith)

-- past the last place nothing is noted
pub past_noted : (lens : List (Option ℕ)) (slot len : ℕ) → length lens ≤ slot → lens ≡ set lens slot (Some len)
past_noted lens slot len h = sym (set_out lens slot (Some len) h)

-- a definition more is that of its value, if there was none
defined_last : (v : P.Value) (above : List P.Define) (d : P.Define) → defined v above ≡ none → same_value v (value_of d) ≡ true → defined v (above ++ (d ∷ [])) ≡ some d
unfolding defined
defined_last v [] d n e = if_true _ _ _ e
defined_last v (b ∷ above) d n e =
    either (same_value v (value_of b))
    (λ y. let z : none ≡ some b = sym n ∙ if_true _ _ _ y in cc)
    (λ no. if_false _ _ _ no ∙ defined_last v above d (sym (if_false _ _ _ no) ∙ n) e)

-- and leaves those of other values as they are
defined_other : (v : P.Value) (above : List P.Define) (d : P.Define) → same_value v (value_of d) ≡ false → defined v (above ++ (d ∷ [])) ≡ defined v above
unfolding defined
defined_other v [] d e = if_false _ _ _ e
defined_other v (b ∷ above) d e = rw (defined_other v above d e)

-- what is noted at the place of a value
pub noted_at : (lens : List (Option ℕ)) (above : List P.Define) (v : P.Value) (slot : ℕ) → Agrees lens above → Some slot ≡ slot_of v → get_or lens slot None ≡ len_noted (defined v above)
unfolding len_in
noted_at lens above v slot a p = ap (len_in lens) p ∙ a.noted v

-- a line that defines a value has its len noted
pub agrees_more : (lens : List (Option ℕ)) (above : List P.Define) (d : P.Define) (slot : ℕ) → Agrees lens above → defined (value_of d) above ≡ none → slot_of (value_of d) ≡ Some slot
    → Agrees (set lens slot (Some (len_of d))) (above ++ (d ∷ []))
unfolding len_in len_noted
agrees_more lens above d slot a n p = record { whole = length-set lens _ _ ∙ a.whole; noted = λ v. either (same_value v (value_of d)) (same v) (other v (slot_of v) refl) }
  where
    same : (v : P.Value) → same_value v (value_of d) ≡ true → len_in (set lens slot (Some (len_of d))) (slot_of v) ≡ len_noted (defined v (above ++ (d ∷ [])))
    same v e =
        let is : v ≡ value_of d = same_value_equal v (value_of d) e in
        rw (defined_last v above d (rw is n) e, is, p) (get_or-set_same lens slot (Some (len_of d)) None (omega (arith, a.whole, slot_small (value_of d) slot p)))

    other : (v : P.Value) (o : Option ℕ) → slot_of v ≡ o → same_value v (value_of d) ≡ false → len_in (set lens slot (Some (len_of d))) (slot_of v) ≡ len_noted (defined v (above ++ (d ∷ [])))
    other v None q e = let was = rw q at (a.noted v) in rw (q, defined_other v above d e) was
    other v (Some at) q e =
        let was = rw q at (a.noted v) in
        rw (q, defined_other v above d e, get_or-set_other lens slot at (Some (len_of d)) None (λ i. clash (place_same v (value_of d) slot (q ∙ ap Some i) p) e)) was

-- where no len is noted none is at any place
nones : (n i : ℕ) → ◌≡◌ {A = Option ℕ} (get_or (replicate n None) i None) None
nones n i =
    elim (dec_lt i n) [
      | yes h ↦ get_or-replicate n i None None h
      | no h ↦ get_or-eq_default (replicate n None) None (rw length-replicate (omega arith))
    ]

-- the lens begin with none
pub agrees_none : Agrees (replicate 26 None) []
unfolding len_in len_noted defined
agrees_none = record { whole = length-replicate {A = Option ℕ} 26 None; noted = λ v. at (slot_of v) }
  where
    at : (o : Option ℕ) → len_in (replicate 26 None) o ≡ None
    at None = refl
    at (Some slot) = nones 26 slot

-- where none is noted there is no definition
pub noted_none : (o : M.Option P.Define) → len_noted o ≡ None → o ≡ none
unfolding len_noted
noted_none none e = refl
noted_none (some d) e = cc

-- and a len is that of a definition
pub noted_some : (o : M.Option P.Define) (len : ℕ) → len_noted o ≡ Some len → is_some o ≡ true
unfolding len_noted is_some
noted_some none len e = cc
noted_some (some d) len e = refl

-- a content that shows a value
pub shown_none : (above : List P.Define) (v : P.Value) → len_noted (defined v above) ≡ None → false ≡ all (content_sound above (P.shown v))
unfolding content_sound all is_some
shown_none above v e = rw (noted_none (defined v above) e) refl

pub shown_some : (above : List P.Define) (v : P.Value) (len : ℕ) → len_noted (defined v above) ≡ Some len → true ≡ all (content_sound above (P.shown v))
unfolding content_sound all
shown_some above v len e = rw (noted_some (defined v above) len e) refl

-- a content that joins a string and a value
pub joined_none : (above : List P.Define) (s : List ℕ) (v : P.Value) → len_noted (defined v above) ≡ None → false ≡ all (content_sound above (P.joined s v))
unfolding content_sound all is_some
joined_none above s v e = rw (noted_none (defined v above) e) refl

joined_room : (s : List ℕ) (o : M.Option P.Define) (len n : ℕ) → len_noted o ≡ Some len → n ≡ length s → leb (n + len) 100 ≡ all (is_some o ∷ room_for s o ∷ [])
unfolding len_noted is_some room_for all
joined_room s none len n e q = cc
joined_room s (some d) len n e q = let same : len_of d ≡ len = cc in rw (q, same, and-true) refl

pub joined_some : (above : List P.Define) (s : List ℕ) (v : P.Value) (len n : ℕ) (r : Bool) → len_noted (defined v above) ≡ Some len → n ≡ length s → r ≡ leb (n + len) 100 → r ≡ all (content_sound above (P.joined s v))
unfolding content_sound
joined_some above s v len n r e q k = k ∙ joined_room s (defined v above) len n e q
