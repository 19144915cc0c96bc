-- The content of a string, byte by byte: its escaping falls into the escaping of its bytes, and each step of the code's walk
-- over the line, past a backslash where one stands, takes one byte of the content.
use mathlib.Core.Path.{◌≡◌, refl, sym, ◌∙◌, ap}
use mathlib.Core.Bool.{Bool, true, false, ◌||◌}
use mathlib.Core.Logic.{◌⊎◌, inl, inr}
use mathlib.Core.List.{List, [], ◌∷◌, ◌++◌}
use Prim.Native.Nat.{ℕ, suc, ◌+◌, ◌-◌, ◌≤◌, ◌<◌}
use native.Mathlib.Omega.{arith}
use native.Mathlib.Numerals.{add-one}
use lib.ListN.{length, drop, get_or, drop_of_length-le, length-append}
use lib.Seq.{drop-cons}
use lib.Dec.{eqb}
use native.Mathlib.Decide.{ℕ_discrete}
use borrow.Author.Tests.{ne_eqb}
use Rattle.paper.specs.Byte.{when◌then◌else◌}
use Rattle.paper.specs.Line.{Got, got, bad, followed, give, within, plain, quote, backslash, escape}
use Rattle.text.specs.Place.{byte_at, from, text_at, content_of, Closes, literal}
use Rattle.text.specs.Write.{Writes, mark_of}
use Rattle.text.proofs.Written.{writes_none, writes_length, writes_then}
use Rattle.text.proofs.Quote.{Ends, leaves, length_from, plain_quote, plain_backslash, plain_other, escaped_other}

-- escaping one text behind another
pub escape_append : (x y : List ℕ) → escape (x ++ y) ≡ escape x ++ escape y
unfolding escape when◌then◌else◌
escape_append [] y = refl
escape_append (b ∷ x) y = go (eqb b quote || eqb b backslash) (escape_append x y)
  where
    go : (t : Bool) → escape (x ++ y) ≡ escape x ++ escape y → (when t then (backslash ∷ b ∷ escape (x ++ y)) else (b ∷ escape (x ++ y))) ≡ (when t then (backslash ∷ b ∷ escape x) else (b ∷ escape x)) ++ escape y
    go true e = rw e
    go false e = rw e

-- a byte is escaped by what goes before it
pub escape_marked : (b : ℕ) → escape (b ∷ []) ≡ mark_of b ++ (b ∷ [])
unfolding escape mark_of when◌then◌else◌
escape_marked b = go (eqb b quote || eqb b backslash)
  where
    go : (t : Bool) → (when t then (backslash ∷ b ∷ []) else (b ∷ [])) ≡ (when t then (backslash ∷ []) else []) ++ (b ∷ [])
    go true = refl
    go false = refl

pub escape_length : (b : ℕ) → length (escape (b ∷ [])) ≡ length (mark_of b) + 1
escape_length b = rw (escape_marked b) (length-append (mark_of b) (b ∷ []))

-- a backslash goes before a backslash or a quote
pub mark_either : (b : ℕ) → (b ≡ 34) ⊎ (b ≡ 92) → mark_of b ≡ 92 ∷ []
unfolding mark_of when◌then◌else◌
mark_either b (inl e) = rw e
mark_either b (inr e) = rw e

-- and nothing before any other byte
mark_other : (b : ℕ) → ((b ≡ 34) ⊎ (b ≡ 92) → ⊥) → mark_of b ≡ []
unfolding mark_of when◌then◌else◌
mark_other b h = rw (mark_of, ne_eqb b 34 λ e. h (inl e), ne_eqb b 92 λ e. h (inr e))

-- the code's answer at a backslash: the literal byte is the next
pub literal_next : (s : List ℕ) (at : ℕ) → get_or s at 0 ≡ 92 → at + 1 ≡ literal s at
unfolding literal byte_at when◌then◌else◌
literal_next s at e = rw e

-- and at any other byte: it is the byte itself
pub literal_here : (s : List ℕ) (at : ℕ) → (get_or s at 0 ≡ 92 → ⊥) → at ≡ literal s at
unfolding literal byte_at when◌then◌else◌
literal_here s at h = rw (literal, ne_eqb (get_or s at 0) 92 h)

-- a string that closes is shorter than the bytes up to its closing quote
closes_sizes : (s : List ℕ) (i end : ℕ) → Closes s i end → length (text_at s i) + (length s - (end + 1)) < length s - i
closes_sizes s i end h =
    let ends : Ends (from s i) (text_at s i) (from s (end + 1)) = (leaves (from s i)).0 _ _ h.closes in
    rw (← length_from s i, ← length_from s (end + 1)) ends.sizes

-- at its closing quote a string has no content
pub closes_ends : (s : List ℕ) (i end : ℕ) → Closes s i end → end ≤ i → text_at s i ≡ []
closes_ends s i end h l = none (text_at s i) (omega (arith, h.inside, closes_sizes s i end h))
  where
    none : (x : List ℕ) → length x < 1 → x ≡ []
    none [] p = refl
    none (b ∷ x) p = absurd (omega arith)

-- a step over a string's bytes: the literal byte is the next of the content, and the rest of the string stands behind it
pub record Steps (s : List ℕ) (i end r : ℕ) : Type 0 where
  pub content : text_at s i ≡ get_or s r 0 ∷ text_at s (r + 1)
  pub left : Closes s (r + 1) end
  pub inside : r < end
  pub onward : i ≤ r

-- a byte of the content is such a step
within_steps : (s : List ℕ) (i end r : ℕ) → Closes s i end → i ≤ r → plain (from s i) ≡ within (get_or s r 0) (plain (from s (r + 1))) → Steps s i end r
unfolding within followed give text_at content_of
within_steps s i end r h l e = go (plain (from s (r + 1))) refl (sym e ∙ h.closes)
  where
    go : (g : Got (List ℕ)) → plain (from s (r + 1)) ≡ g → within (get_or s r 0) g ≡ got (text_at s i) (from s (end + 1)) → Steps s i end r
    go (got t rest) q p =
        let same : t ≡ text_at s (r + 1) = sym (ap content_of q) in
        let whole : text_at s i ≡ get_or s r 0 ∷ t = cc in
        let behind : rest ≡ from s (end + 1) = cc in
        let left : Closes s (r + 1) end = record { closes = q ∙ rw (← same, behind); inside = h.inside } in
        record {
          content = whole ∙ rw same;
          left = left;
          inside = omega (arith, h.inside, closes_sizes s (r + 1) end left);
          onward = l;
        }
    go bad q p = let z : ◌≡◌ {A = ℕ} 0 1 = cc in absurd (omega arith)

-- before its closing quote the code steps over a string byte by byte
pub closes_steps : (s : List ℕ) (i end r : ℕ) → Closes s i end → i < end → r ≡ literal s i → Steps s i end r
closes_steps s i end r h l e =
    elim (ℕ_discrete (get_or s i 0) 34) [
      | yes q ↦ absurd (never q)
      | no q ↦ elim (ℕ_discrete (get_or s i 0) 92) [ yes k ↦ behind k | no k ↦ other q k ]
    ]
  where
    here : i < length s
    here = omega (arith, h.inside)

    never : get_or s i 0 ≡ 34 → ⊥
    never q =
        let closed : got [] (from s (i + 1)) ≡ got (text_at s i) (from s (end + 1)) = sym (plain_quote s i here q) ∙ h.closes in
        let same : from s (i + 1) ≡ from s (end + 1) = cc in
        omega (arith, h.inside, length_from s (i + 1), length_from s (end + 1), ap length same)

    behind : get_or s i 0 ≡ 92 → Steps s i end r
    behind k =
        let next : r ≡ i + 1 = e ∙ sym (literal_next s i k) in
        rw next (within_steps s i end (i + 1) h (omega arith) (plain_backslash s i here k ∙ escaped_other s (i + 1) (omega (arith, h.inside))))

    other : (get_or s i 0 ≡ 34 → ⊥) → (get_or s i 0 ≡ 92 → ⊥) → Steps s i end r
    other q k =
        let same : r ≡ i = e ∙ sym (literal_here s i k) in
        rw same (within_steps s i end i h (omega arith) (plain_other s i here q k))

-- what such a step writes: the literal byte, and then the rest of the content
pub steps_escape : (s : List ℕ) (i end r : ℕ) → Steps s i end r → escape (text_at s i) ≡ escape (get_or s r 0 ∷ []) ++ escape (text_at s (r + 1))
steps_escape s i end r h = ap escape h.content ∙ escape_append (get_or s r 0 ∷ []) (text_at s (r + 1))

-- at the closing quote nothing is left to write
pub closes_escape : (s : List ℕ) (i end : ℕ) → Closes s i end → end ≤ i → escape (text_at s i) ≡ []
unfolding escape
closes_escape s i end h l = ap escape (closes_ends s i end h l)

-- a text from a place within it: the byte there is written, and then the rest
pub escape_next : (s : List ℕ) (i : ℕ) → i < length s → escape (drop i s) ≡ escape (get_or s i 0 ∷ []) ++ escape (drop (i + 1) s)
escape_next s i h = rw (drop-cons s i 0 h, add-one) (escape_append (get_or s i 0 ∷ []) (drop (suc i) s))

-- past the end nothing is left to write
pub escape_past : (s : List ℕ) (i : ℕ) → length s ≤ i → escape (drop i s) ≡ []
unfolding escape
escape_past s i h = rw (drop_of_length-le s {i = i} h)

-- the code's answers: before a backslash or a quote a backslash
pub put_either : (old : List ℕ) (at : ℕ) (new : List ℕ) (next b : ℕ) → (b ≡ 34) ⊎ (b ≡ 92) → Writes old at (92 ∷ []) new next → Writes old at (mark_of b) new next
put_either old at new next b e w = rw (mark_either b e) w

-- before any other byte nothing
pub put_unmarked : (old : List ℕ) (at b : ℕ) → ((b ≡ 34) ⊎ (b ≡ 92) → ⊥) → at + length (mark_of b) ≤ length old → Writes old at (mark_of b) old at
put_unmarked old at b h l = rw (mark_other b h) (writes_none old at (omega (arith, ap length (mark_other b h))))

-- and behind it there is room for the byte
pub marked_room : (old : List ℕ) (at : ℕ) (mid : List ℕ) (place b : ℕ) → at + length (escape (b ∷ [])) ≤ length old → Writes old at (mark_of b) mid place → place < length mid
marked_room old at mid place b l w = omega (arith, l, w.ends, escape_length b, writes_length old at _ mid place w)

-- which goes there
pub put_marked : (old : List ℕ) (at : ℕ) (mid : List ℕ) (place : ℕ) (new : List ℕ) (next b : ℕ) → Writes old at (mark_of b) mid place → Writes mid place (b ∷ []) new next → Writes old at (escape (b ∷ [])) new next
put_marked old at mid place new next b p q = rw (escape_marked b) (writes_then old at _ mid place _ new next p q)
