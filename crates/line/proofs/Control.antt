-- Control bytes: the code's walk over the bytes of a text, until one is below 20H or none is left.
use Prim.Native.Nat.{ℕ, suc, ◌+◌, ◌≤◌, ◌<◌}
use mathlib.Core.Path.{◌≡◌, refl, sym, ◌∙◌}
use mathlib.Core.Bool.{Bool, true, false}
use mathlib.Core.List.{List, [], ◌∷◌}
use native.Mathlib.Omega.{arith}
use lib.ListN.{length, take, drop, get_or, drop_of_length-le, take-append-drop}
use lib.Seq.{drop-cons, take-length}
use borrow.Author.Tests.{le-leb, lt-leb, lt-ltb}
use Rattle.paper.specs.Byte.{between, every, when◌then◌else◌}
use Rattle.paper.specs.Line.{control}
use Rattle.paper.specs.Command.{is_shown}
use Rattle.paper.proofs.Law.{and_both, by_test}
use Rattle.paper.proofs.Text.{control_behind}
use Rattle.text.specs.Place.{from}
use Rattle.line.specs.Shown.{clear_part}

-- the clear part from a byte on: a shown byte is one more of it
pub clear_turns : (text : List ℕ) (i : ℕ) → i < length text → 32 ≤ get_or text i 0 → get_or text i 0 < 256 → length (clear_part (from text i)) ≡ 1 + length (clear_part (from text (i + 1)))
unfolding clear_part from is_shown between when◌then◌else◌
clear_turns text i h low high =
    let next : i + 1 ≡ suc i = omega arith in
    rw (next, drop-cons text i 0 h, le-leb 32 (get_or text i 0) low, le-leb (get_or text i 0) 255 (omega arith)) (omega arith)

-- a byte below 20H ends it
pub clear_here : (text : List ℕ) (i : ℕ) → i < length text → get_or text i 0 < 32 → length (clear_part (from text i)) ≡ 0
unfolding clear_part from is_shown between when◌then◌else◌
clear_here text i h low = rw (drop-cons text i 0 h, lt-leb 32 (get_or text i 0) low)

-- and so does the end of the text
pub clear_none : (text : List ℕ) (i : ℕ) → length text ≤ i → length (clear_part (from text i)) ≡ 0
unfolding clear_part from
clear_none text i h = rw (drop_of_length-le text {i = i} h)

-- all bytes of it are shown
pub clear_shown : (s : List ℕ) → every is_shown (clear_part s) ≡ true
unfolding clear_part every when◌then◌else◌
clear_shown [] = refl
clear_shown (b ∷ s) = go (is_shown b) refl (clear_shown s)
  where
    go : (t : Bool) → is_shown b ≡ t → every is_shown (clear_part s) ≡ true → every is_shown (when t then (b ∷ clear_part s) else []) ≡ true
    go true e ih = and_both (is_shown b) _ e ih
    go false e ih = refl

-- and they stand at the front of the text
pub clear_take : (s : List ℕ) → take (length (clear_part s)) s ≡ clear_part s
unfolding clear_part when◌then◌else◌
clear_take [] = refl
clear_take (b ∷ s) = go (is_shown b) (clear_take s)
  where
    go : (t : Bool) → take (length (clear_part s)) s ≡ clear_part s → take (length (when t then (b ∷ clear_part s) else [])) (b ∷ s) ≡ (when t then (b ∷ clear_part s) else [])
    go true e = rw e
    go false e = refl

-- no more than there are
clear_few : (s : List ℕ) → length (clear_part s) ≤ length s
unfolding clear_part
clear_few [] = omega arith
clear_few (b ∷ s) =
    by_test (λ x. length x ≤ suc (length s)) (is_shown b) (b ∷ clear_part s) [] (λ y. let few = clear_few s in omega arith) (λ n. omega arith)

-- so where they are all there is
pub clear_whole : (s : List ℕ) (r : ℕ) → r ≡ 0 + length (clear_part (from s 0)) → r ≡ length s → every is_shown s ≡ true
unfolding from
clear_whole s r e w =
    let all : length (clear_part s) ≡ length s = omega (arith, e, w) in
    let same : clear_part s ≡ s = sym (clear_take s) ∙ rw all (take-length s) in
    rw same at (clear_shown s)

-- a byte below 20H makes the line one with a control byte
pub control_here : (s : List ℕ) (i : ℕ) → i < length s → get_or s i 0 < 32 → control s ≡ true
control_here s i h low =
    rw (← take-append-drop i s, drop-cons s i 0 h) (control_behind (take i s) (get_or s i 0) (drop (suc i) s) (lt-ltb (get_or s i 0) 32 low))

-- where a text is not clear as a whole, a control byte ends its clear part
pub clear_short : (s : List ℕ) (r : ℕ) → r ≡ 0 + length (clear_part (from s 0)) → (r < length s → get_or s r 0 < 32) → (r ≡ length s → ⊥) → control s ≡ true
unfolding from
clear_short s r e low other =
    let inside : r < length s = omega (arith, e, clear_few s, other) in
    control_here s r inside (low inside)
