-- A string without an escape reads as it lies: where its text is as long as the bytes up to its closing quote, those are its text.
use Prim.Native.Nat.{ℕ, zero, suc, ◌+◌, ◌-◌, ◌≤◌}
use mathlib.Core.Path.{◌≡◌, refl, sym, ◌∙◌, ap}
use mathlib.Core.List.{List, ◌∷◌}
use native.Mathlib.Omega.{arith}
use lib.ListN.{length, take, drop, get_or}
use Rattle.text.specs.Place.{from, text_at, Closes, literal}
use Rattle.text.specs.declared.read.Span.{Span}
use Rattle.text.proofs.Quote.{Ends, leaves, length_from, from_cons}
use Rattle.text.proofs.Content.{closes_ends, closes_steps}
use Rattle.command.specs.View.{text_in}
use Rattle.store.specs.Packed.{Store}
use Rattle.store.specs.Lent.{Finds}
use Rattle.std.specs.Prelude.{Option}
use Rattle.store.specs.declared.Found.{Found}
use Rattle.session.specs.Outcome.{Named}

-- a string's text is no longer than the bytes up to its closing quote
text_fits : (s : List ℕ) (i end : ℕ) → Closes s i end → i + length (text_at s i) ≤ end
text_fits s i end h =
    let ends : Ends (from s i) (text_at s i) (from s (end + 1)) = (leaves (from s i)).0 _ _ h.closes in
    omega (arith, ends.sizes, length_from s i, length_from s (end + 1), h.inside)

-- where it is as long, each of those bytes is one of the text
text_lies : (n : ℕ) (s : List ℕ) (i end : ℕ) → Closes s i end → i + n ≡ end → length (text_at s i) ≡ n → take n (from s i) ≡ text_at s i
text_lies zero s i end h e l = sym (closes_ends s i end h (omega arith))
text_lies (suc n) s i end h e l =
    let step = closes_steps s i end (literal s i) h (omega arith) refl in
    let here : literal s i ≡ i = omega (arith, ap length step.content, text_fits s (literal s i + 1) end step.left, step.onward) in
    let content : text_at s i ≡ get_or s i 0 ∷ text_at s (i + 1) = rw here at step.content in
    let left : Closes s (i + 1) end = rw here at step.left in
    let rest = text_lies n s (i + 1) end left (omega arith) (omega (arith, ap length content)) in
    rw (from_cons s i (omega (arith, h.inside)), content, rest)

-- a name starts no later than its closing quote
pub name_starts : (s : List ℕ) (string : Span) → Named s string → string.start ≤ string.end
name_starts s string h = omega (arith, text_fits s string.start string.end h.holds.closes)

-- what is found under a name's bytes as they lie is found under the name, if it has no escape
pub bare_finds : (store : Store) (s : List ℕ) (string : Span) (found : Option Found) → Named s string → string.end - string.start ≡ string.len
    → Finds store (take (string.end - string.start) (drop string.start s)) found → Finds store (text_in s string) found
unfolding text_in from
bare_finds store s string found h e f =
    let lies = text_lies (string.end - string.start) s string.start string.end h.holds.closes (omega (arith, name_starts s string h)) (sym h.holds.counted ∙ sym e) in
    rw lies at f
