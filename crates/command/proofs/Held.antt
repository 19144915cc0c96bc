-- Tests that every byte of a string passes: as the code walks over the string, and where every byte of its line does.
use Prim.Native.Nat.{ℕ, zero, suc, ◌+◌, ◌≤◌, ◌<◌}
use mathlib.Core.Path.{◌≡◌, refl, sym, ◌∙◌}
use mathlib.Core.Bool.{Bool, true, false}
use mathlib.Core.List.{List, [], ◌∷◌}
use native.Mathlib.Omega.{arith}
use native.Mathlib.Decide.{dec_lt}
use lib.ListN.{length, get_or}
use Rattle.paper.specs.Byte.{every}
use Rattle.paper.specs.Command.{is_shown}
use Rattle.paper.proofs.Law.{and_left, and_right, and_both}
use Rattle.text.specs.Place.{text_at, Closes, literal}
use Rattle.text.specs.declared.read.Span.{Span}
use Rattle.text.proofs.Content.{Steps, closes_ends, closes_steps}
use Rattle.command.specs.View.{text_in, Standing, ContentStands, Shown, ContentShown}
use Rattle.command.specs.declared.Content.{Content}
use Rattle.command.specs.declared.Content.TheVariants as C

-- the code's walk over a string's bytes with a test: one more passes
pub walk_turns : (test : ℕ → Bool) (s : List ℕ) (start i end r : ℕ) → every test (text_at s start) ≡ every test (text_at s i) → Steps s i end r → test (get_or s r 0) ≡ true → every test (text_at s start) ≡ every test (text_at s (r + 1))
unfolding every
walk_turns test s start i end r e h p = e ∙ rw (h.content, p)

-- one fails, and so not all pass
pub walk_stops : (test : ℕ → Bool) (s : List ℕ) (start i end r : ℕ) → every test (text_at s start) ≡ every test (text_at s i) → Steps s i end r → test (get_or s r 0) ≡ false → false ≡ every test (text_at s start)
unfolding every
walk_stops test s start i end r e h p = sym (e ∙ rw (h.content, p))

-- all passed
pub walk_ends : (test : ℕ → Bool) (s : List ℕ) (start i end : ℕ) → every test (text_at s start) ≡ every test (text_at s i) → Closes s i end → end ≤ i → true ≡ every test (text_at s start)
unfolding every
walk_ends test s start i end e h l = sym (e ∙ rw (closes_ends s i end h l))

-- a byte of a text that passes a test passes it
every_at : (test : ℕ → Bool) (s : List ℕ) (i : ℕ) → every test s ≡ true → i < length s → test (get_or s i 0) ≡ true
unfolding every
every_at test [] i e h = absurd (omega arith)
every_at test (b ∷ s) zero e h = and_left (test b) (every test s) e
every_at test (b ∷ s) (suc i) e h = every_at test s i (and_right (test b) (every test s) e) (omega arith)

-- a string that closes in a line that passes a test passes it, from any place at most so many bytes before its end
closes_every : (test : ℕ → Bool) (s : List ℕ) (end n i : ℕ) → every test s ≡ true → Closes s i end → end ≤ i + n → every test (text_at s i) ≡ true
unfolding every
closes_every test s end zero i e h l = rw (closes_ends s i end h (omega arith))
closes_every test s end (suc n) i e h l =
    elim (dec_lt i end) [
      | yes k ↦ goes (closes_steps s i end (literal s i) h k refl) (closes_every test s end n (literal s i + 1) e)
      | no k ↦ rw (closes_ends s i end h (omega arith))
    ]
  where
    goes : Steps s i end (literal s i) → (Closes s (literal s i + 1) end → end ≤ literal s i + 1 + n → every test (text_at s (literal s i + 1)) ≡ true) → every test (text_at s i) ≡ true
    goes step ih =
        rw step.content
        (and_both (test (get_or s (literal s i) 0)) (every test (text_at s (literal s i + 1)))
        (every_at test s (literal s i) e (omega (arith, h.inside, step.inside)))
        (ih step.left (omega (arith, step.onward))))

-- a string that stands in a line that passes a test passes it
pub standing_every : (test : ℕ → Bool) (s : List ℕ) (string : Span) → Standing s string → every test s ≡ true → every test (text_in s string) ≡ true
unfolding text_in
standing_every test s string h e = closes_every test s string.end string.end string.start e h.holds.closes (omega arith)

-- a string that stands in a shown line is shown
pub standing_shown : (s : List ℕ) (string : Span) → Standing s string → every is_shown s ≡ true → every is_shown (text_in s string) ≡ true
standing_shown s string h e = standing_every is_shown s string h e

-- and has the length that it says
standing_told : (s : List ℕ) (string : Span) → Standing s string → every is_shown s ≡ true → Shown s string
standing_told s string h e = record { counted = h.holds.counted; shown = standing_shown s string h e }

-- and so does the string of a content
pub content_is_shown : (s : List ℕ) (c : Content) → ContentStands s c → every is_shown s ≡ true → ContentShown s c
unfolding ContentStands ContentShown
content_is_shown s (C.Text string) h e = standing_told s string h e
content_is_shown s (C.Counter n) h e = tt
content_is_shown s (C.Variable n) h e = tt
content_is_shown s (C.TextCounter string n) h e = standing_told s string h e
content_is_shown s (C.TextVariable string n) h e = standing_told s string h e
