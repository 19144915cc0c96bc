-- Names and the star as the code reads them off the line: its walk over a string's bytes tests each byte of the content,
-- and the string's length is the content's.
use Prim.Native.Nat.{ℕ, ◌+◌, ◌≤◌, ◌<◌}
use mathlib.Core.Path.{◌≡◌, sym, ◌∙◌, ap}
use mathlib.Core.Bool.{Bool, false, and-true, and-false}
use mathlib.Core.List.{List, [], ◌∷◌}
use native.Mathlib.Omega.{arith}
use native.Mathlib.Decide.{dec_lt}
use lib.ListN.{length, get_or}
use lib.Dec.{eqb}
use borrow.Author.Tests.{le-leb, lt-leb}
use Rattle.paper.specs.Byte.{bytes, every, same}
use Rattle.paper.specs.Command.{is_name_byte, is_name, star}
use Rattle.paper.proofs.Test.{either}
use Rattle.paper.proofs.Text.{same_eq}
use Rattle.text.specs.Place.{byte_at, text_at, Closes, literal}
use Rattle.text.specs.declared.read.Span.{Span}
use Rattle.text.proofs.Content.{Steps, closes_steps, closes_ends}
use Rattle.command.specs.View.{text_in, Holds}

-- a string that has some starts before its closing quote
text_starts : (s : List ℕ) (i end : ℕ) → Closes s i end → 1 ≤ length (text_at s i) → i < end
text_starts s i end h l =
    elim (dec_lt i end) [ yes k ↦ k | no k ↦ absurd (let none = closes_ends s i end h (omega arith) in let l' = rw none at l in omega arith) ]

-- what the answer about a name's byte says of the byte in the line
pub name_byte : (s : List ℕ) (r : ℕ) (t u : Bool) → t ≡ is_name_byte (get_or s r 0) → t ≡ u → is_name_byte (get_or s r 0) ≡ u
name_byte s r t u q e = sym q ∙ e

-- a name without a byte
pub name_empty : (s : List ℕ) (name : Span) → Holds s name → name.len < 1 → false ≡ is_name (text_in s name)
unfolding is_name
name_empty s name h l = rw (lt-leb 1 (length (text_in s name)) (omega (arith, h.counted)))

-- a name with too many
pub name_long : (s : List ℕ) (name : Span) → Holds s name → 16 < name.len → false ≡ is_name (text_in s name)
unfolding is_name
name_long s name h l = rw (lt-leb (length (text_in s name)) 16 (omega (arith, h.counted)), and-false)

-- of any other its bytes decide
pub name_judged : (s : List ℕ) (name : Span) (r : Bool) → Holds s name → 1 ≤ name.len → name.len ≤ 16 → r ≡ every is_name_byte (text_at s name.start) → r ≡ is_name (text_in s name)
unfolding is_name text_in
name_judged s name r h low high e =
    e ∙ rw (le-leb 1 (length (text_in s name)) (omega (arith, h.counted)), le-leb (length (text_in s name)) 16 (omega (arith, h.counted)))

-- a text of another length is not the star
pub star_not : (s : List ℕ) (name : Span) → Holds s name → (name.len ≡ 1 → ⊥) → false ≡ same (text_in s name) star
unfolding star bytes
star_not s name h k = sym (either (same (text_in s name) star) (λ e. absurd (k (h.counted ∙ rw (same_eq (text_in s name) star e)))) (λ e. e))

-- the first byte of a string that has one
pub star_starts : (s : List ℕ) (name : Span) → Holds s name → name.len ≡ 1 → name.start < name.end
unfolding text_in
star_starts s name h k = text_starts s name.start name.end h.closes (omega (arith, h.counted))

-- of a text of one byte the byte decides
pub star_judged : (s : List ℕ) (name : Span) (r b : ℕ) → Holds s name → name.len ≡ 1 → r ≡ literal s name.start → b ≡ byte_at s r → eqb b 42 ≡ same (text_in s name) star
unfolding star bytes text_in same byte_at
star_judged s name r b h k e p =
    let step : Steps s name.start name.end r = closes_steps s name.start name.end r h.closes (star_starts s name h k) e in
    rw (step.content, ← p) (go (text_at s (r + 1)) (omega (arith, h.counted, ap length step.content)))
  where
    go : (x : List ℕ) → length x ≡ 0 → eqb b 42 ≡ same (b ∷ x) (42 ∷ [])
    go [] q = sym (and-true (eqb b 42))
    go (c ∷ x) q = absurd (omega arith)
