-- The room of the answers: no number of a sound form is defined twice, so ten counters and sixteen variables are all that
-- can be answered, and a definition takes a place that was free above it.
use Prim.Native.Nat.{ℕ, zero, suc, ◌+◌, ◌≤◌, ◌<◌}
use mathlib.Core.Path.{◌≡◌, refl}
use mathlib.Core.Bool.{true, false≢true}
use mathlib.Core.List.{List, [], ◌∷◌, ◌++◌}
use mathlib.Core.Option.{Option, none, some, some-ne-none}
use native.Mathlib.Omega.{arith}
use lib.ListN.{length, take, length-append}
use lib.Dec.{eqb}
use borrow.Author.Tests.{eqb-true, eqb-false, eq-eqb, not-true}
use Rattle.paper.specs.Byte.{when◌then◌else◌}
use Rattle.paper.specs.Command.{Value, counter, variable, Define, counting, varying, FormLine, draw, define, draw_ranges, define_ranges, ranges, all_of, in_range}
use Rattle.paper.specs.Form.{asked, value_of, len_of, same_value, defined, value_sound, first_broken, unsound_at}
use Rattle.paper.specs.Set.{fits}
use Rattle.paper.specs.State.{all_in, Storable, fitting}
use Rattle.paper.proofs.Invariant.{not_some}
use Rattle.paper.proofs.Law.{and_left, and_right}
use Rattle.paper.proofs.Test.{Held, held, either, tests}
use Rattle.paper.proofs.Filled.{broken_cons, defined_more}
use Rattle.command.specs.View.{width}
use Rattle.set.specs.Answers.{answers_text}
use Rattle.set.proofs.Defining.{fits_len}

-- the room that is left for a value: all of it, or none where it is defined
unfoldable slot : ℕ → Option Define → ℕ
slot size none = size
slot size (some d) = 0

-- the room that is left for the first values of a kind
unfoldable slots : (ℕ → Value) → (size count : ℕ) → List Define → ℕ
slots kind size zero above = 0
slots kind size (suc k) above = slots kind size k above + slot size (defined (kind k) above)

-- a value's room is at most its size
slot_most : (size : ℕ) (o : Option Define) → slot size o ≤ size
unfolding slot
slot_most size none = omega arith
slot_most size (some d) = omega arith

-- with more definitions less is left for a value
slot_less : (size : ℕ) (v : Value) (above more : List Define) (o : Option Define) → defined v above ≡ o → slot size (defined v (above ++ more)) ≤ slot size o
unfolding slot
slot_less size v above more none e = slot_most size (defined v (above ++ more))
slot_less size v above more (some d) e = rw (defined_more v above more d e) (omega arith)

-- and for a kind
slots_less : (kind : ℕ → Value) (size count : ℕ) (above more : List Define) → slots kind size count (above ++ more) ≤ slots kind size count above
unfolding slots
slots_less kind size zero above more = omega arith
slots_less kind size (suc k) above more =
    omega (arith, slots_less kind size k above more, slot_less size (kind k) above more _ refl)

-- a value has a definition below those that lack it
defined_here : (v : Value) (above : List Define) (d : Define) → same_value v (value_of d) ≡ true → defined v above ≡ none → defined v (above ++ (d ∷ [])) ≡ some d
unfolding defined when◌then◌else◌
defined_here v [] d s e = rw s
defined_here v (b ∷ above) d s e =
    either (same_value v (value_of b)) (λ y. absurd (some-ne-none _ (rw y at e))) (λ n. rw n (defined_here v above d s (rw n at e)))

-- a definition takes its value's room
slots_taken : (kind : ℕ → Value) (size count n : ℕ) (above : List Define) (d : Define) → same_value (kind n) (value_of d) ≡ true → n < count → defined (kind n) above ≡ none
    → slots kind size count (above ++ (d ∷ [])) + size ≤ slots kind size count above
unfolding slots slot
slots_taken kind size zero n above d s h e = absurd (omega arith)
slots_taken kind size (suc k) n above d s h e =
    either (eqb n k)
    (λ y.
    let is : n ≡ k = eqb-true n k y in
    let first : defined (kind k) above ≡ none = rw (← is) e in
    let after : defined (kind k) (above ++ (d ∷ [])) ≡ some d = defined_here (kind k) above d (rw (← is) s) first in
    rw (first, after) (omega (arith, slots_less kind size k above (d ∷ []))))
    (λ no'.
    let other : n < k = omega (arith, eqb-false n k no') in
    omega (arith, slots_taken kind size k n above d s other e, slot_less size (kind k) above (d ∷ []) _ refl))

-- the room that is left for answers below some definitions
unfoldable left : List Define → ℕ
left above = slots counter 10 10 above + slots variable 100 16 above

-- more definitions leave less
left_less : (above more : List Define) → left (above ++ more) ≤ left above
unfolding left
left_less above more = omega (arith, slots_less counter 10 10 above more, slots_less variable 100 16 above more)

-- one that is new and in range leaves less by its len, and by one more
left_taken : (above : List Define) (d : Define) → Held (define_ranges d) → defined (value_of d) above ≡ none → left (above ++ (d ∷ [])) + len_of d + 1 ≤ left above
unfolding left value_of len_of same_value define_ranges
left_taken above (counting n len letter by prompt) h e =
    let d = counting n len letter by prompt in
    omega
    (tests, h.1.0.1.0, slots_taken counter 10 10 n above d (eq-eqb n n refl) (omega (tests, h.0.0)) e, slots_less variable 100 16 above (d ∷ []))
left_taken above (varying n len letter prompt) h e =
    let d = varying n len letter prompt in
    omega
    (tests, h.1.0.1.0, slots_taken variable 100 16 n above d (eq-eqb n n refl) (omega (tests, h.0.0)) e, slots_less counter 10 10 above (d ∷ []))

-- answers to the first definitions of a form's lines have the room that is left above them
given_room : (k : ℕ) (above : List Define) (ls : List FormLine) (given : List (List ℕ)) → all_in width ls ≡ true → first_broken k above ls ≡ none
    → fitting (take (length given) (asked ls)) given ≡ true → length (answers_text given) ≤ left above
unfolding all_in asked fitting answers_text in_range ranges value_sound
given_room k above [] [] i b f = omega arith
given_room k above [] (a ∷ more) i b f = absurd (false≢true f)
given_room k above (draw d ∷ ls) given i b f =
    let (place, sound, below) = broken_cons k above (draw d) ls b in
    omega (arith, given_room (suc k) (above ++ []) ls given (and_right (all_of (draw_ranges width d)) _ i) below f, left_less above [])
given_room k above (define d ∷ ls) [] i b f = omega arith
given_room k above (define d ∷ ls) (a ∷ more) i b f =
    let (place, sound, below) = broken_cons k above (define d) ls b in
    let rest = given_room (suc k) (above ++ (d ∷ [])) ls more (and_right (all_of (define_ranges d)) _ i) below (and_right (fits d a) _ f) in
    let taken = left_taken above d (held (define_ranges d) (and_left _ _ i)) (not_some _ (not-true _ sound.0)) in
    omega (arith, length-append a (answers_text more), rest, taken, fits_len d a (and_left _ _ f))

-- at first all is left
left_first : left [] ≡ 1700
unfolding left slots slot defined
left_first = refl

-- the answers to a sound form have at most 1,700 bytes
pub answers_room : (ls : List FormLine) (given : List (List ℕ)) → Storable width ls → fitting (take (length given) (asked ls)) given ≡ true → length (answers_text given) ≤ 1700
unfolding unsound_at
answers_room ls given h f = omega (arith, given_room 0 [] ls given h.inside h.sound f, left_first)
