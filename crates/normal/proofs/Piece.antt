-- The pieces of a normal form, one behind the other: what writes that meet have written together, and how much room each of them has.
use mathlib.Core.Path.{◌≡◌, refl, ◌∙◌, ap}
use mathlib.Core.List.{List, [], ◌∷◌, ◌++◌, append_assoc}
use Prim.Native.Nat.{ℕ, ◌+◌, ◌≤◌}
use native.Mathlib.Omega.{arith}
use lib.ListN.{length, length-append}
use Rattle.paper.specs.Byte.{decimal}
use Rattle.paper.specs.Line.{escape, quoted}
use Rattle.paper.specs.Command as P
use Rattle.paper.specs.Write.{commas, commaed, setting_text, content_text, value_text, step_text}
use Rattle.text.specs.Write.{Writes}
use Rattle.text.proofs.Written.{writes_none, writes_then}
use Rattle.command.specs.View.{step_of}
use Rattle.command.specs.declared.Step.{Step}
use Rattle.normal.specs.Normal.{Room}

-- a byte, and a text behind it
pub byte_then : (a : List ℕ) (i b : ℕ) (m : List ℕ) (j : ℕ) (v d : List ℕ) (k : ℕ) → Writes a i (b ∷ []) m j → Writes m j v d k → Writes a i (b ∷ v) d k
byte_then a i b m j v d k p q = writes_then a i (b ∷ []) m j v d k p q

-- two bytes, and a text behind them
pub pair_then : (a : List ℕ) (i b c : ℕ) (m : List ℕ) (j : ℕ) (v d : List ℕ) (k : ℕ) → Writes a i (b ∷ c ∷ []) m j → Writes m j v d k → Writes a i (b ∷ c ∷ v) d k
pair_then a i b c m j v d k p q = writes_then a i (b ∷ c ∷ []) m j v d k p q

-- a part, and the comma behind it
pub part_ends : (a : List ℕ) (i : ℕ) (u m : List ℕ) (j : ℕ) (d : List ℕ) (k : ℕ) → Writes a i u m j → Writes m j (44 ∷ []) d k → Writes a i (commaed (u ∷ [])) d k
unfolding commaed
part_ends a i u m j d k p q = writes_then a i u m j (44 ∷ []) d k p q

-- a part with its comma, and more such parts
pub commaed_then : (a : List ℕ) (i : ℕ) (u m : List ℕ) (j : ℕ) (us : List (List ℕ)) (d : List ℕ) (k : ℕ) → Writes a i (commaed (u ∷ [])) m j → Writes m j (commaed us) d k → Writes a i (commaed (u ∷ us)) d k
unfolding commaed
commaed_then a i u m j us d k p q = rw append_assoc at (writes_then a i (u ++ (44 ∷ [])) m j (commaed us) d k p q)

-- parts with a comma behind each, and then parts with a comma between each two
commas_join : (us : List (List ℕ)) (v : List ℕ) (vs : List (List ℕ)) → commaed us ++ commas (v ∷ vs) ≡ commas (us ++ (v ∷ vs))
unfolding commaed commas
commas_join [] v vs = refl
commas_join (u ∷ []) v vs = simp append_assoc
commas_join (u ∷ w ∷ us) v vs = simp (append_assoc, ← commas_join (w ∷ us) v vs)

-- such writes, behind some letters
joins : (bs : List ℕ) (us : List (List ℕ)) (v : List ℕ) (vs : List (List ℕ)) (a : List ℕ) (i : ℕ) (m : List ℕ) (j : ℕ) (d : List ℕ) (k : ℕ) → Writes a i (bs ++ commaed us) m j → Writes m j (commas (v ∷ vs)) d k → Writes a i (bs ++ commas (us ++ (v ∷ vs))) d k
joins bs us v vs a i m j d k p q =
    rw (← commas_join us v vs, ← append_assoc bs) (writes_then a i (bs ++ commaed us) m j (commas (v ∷ vs)) d k p q)

-- one part with its comma, and the parts behind it
pub part_then : (a : List ℕ) (i : ℕ) (u m : List ℕ) (j : ℕ) (v : List ℕ) (vs : List (List ℕ)) (d : List ℕ) (k : ℕ) → Writes a i (commaed (u ∷ [])) m j → Writes m j (commas (v ∷ vs)) d k → Writes a i (commas (u ∷ v ∷ vs)) d k
part_then a i u m j v vs d k p q = joins [] (u ∷ []) v vs a i m j d k p q

-- three of them
pub three_then : (a : List ℕ) (i : ℕ) (s t u m : List ℕ) (j : ℕ) (v : List ℕ) (vs : List (List ℕ)) (d : List ℕ) (k : ℕ) → Writes a i (commaed (s ∷ t ∷ u ∷ [])) m j → Writes m j (commas (v ∷ vs)) d k → Writes a i (commas (s ∷ t ∷ u ∷ v ∷ vs)) d k
three_then a i s t u m j v vs d k p q = joins [] (s ∷ t ∷ u ∷ []) v vs a i m j d k p q

-- three of them behind a letter
pub head_then : (a : List ℕ) (i b : ℕ) (s t u m : List ℕ) (j : ℕ) (v : List ℕ) (vs : List (List ℕ)) (d : List ℕ) (k : ℕ) → Writes a i (b ∷ commaed (s ∷ t ∷ u ∷ [])) m j → Writes m j (commas (v ∷ vs)) d k → Writes a i (b ∷ commas (s ∷ t ∷ u ∷ v ∷ vs)) d k
head_then a i b s t u m j v vs d k p q = joins (b ∷ []) (s ∷ t ∷ u ∷ []) v vs a i m j d k p q

-- the last part has no comma behind it
pub commas_last : (a : List ℕ) (i : ℕ) (u d : List ℕ) (k : ℕ) → Writes a i u d k → Writes a i (commas (u ∷ [])) d k
unfolding commas
commas_last a i u d k p = p

-- a string between its quotes
pub string_ends : (a : List ℕ) (i : ℕ) (t m : List ℕ) (j : ℕ) (e : List ℕ) (h : ℕ) (d : List ℕ) (k : ℕ) → Writes a i (34 ∷ []) m j → Writes m j (escape t) e h → Writes e h (34 ∷ []) d k → Writes a i (quoted t) d k
unfolding quoted
string_ends a i t m j e h d k p q r = byte_then a i 34 m j (escape t ++ (34 ∷ [])) d k p (writes_then m j (escape t) e h (34 ∷ []) d k q r)

-- the place and the look of a text
pub setting_then : (a : List ℕ) (i : ℕ) (s : P.Setting) (m : List ℕ) (j : ℕ) (d : List ℕ) (k : ℕ) → Writes a i (commaed (decimal s.x ∷ decimal s.y ∷ decimal s.r ∷ [])) m j → Writes m j (commaed (decimal s.f ∷ decimal s.h ∷ decimal s.v ∷ (s.m ∷ []) ∷ [])) d k → Writes a i (setting_text s) d k
unfolding setting_text commaed
setting_then a i s m j d k p q = simp append_assoc at (writes_then a i _ m j _ d k p q)

-- writes that meet
pub ruleset pieces = (byte_then, part_ends, commaed_then, part_then, commas_last, string_ends, setting_then, writes_then)

-- the length of parts with a comma behind each
commaed_length : (u v : List ℕ) (us : List (List ℕ)) → length (commaed (u ∷ v ∷ us)) ≡ length (commaed (u ∷ [])) + length (commaed (v ∷ us))
unfolding commaed
commaed_length u v us = simp length-append (omega arith)

-- the length of parts with a comma between each two
commas_length : (us : List (List ℕ)) (v : List ℕ) → length (commas (us ++ (v ∷ []))) ≡ length (commaed us) + length v
unfolding commas
commas_length us v = rw (← commas_join us v []) (length-append (commaed us) v)

-- room for a part and its comma
pub part_room : (a : List ℕ) (i : ℕ) (u : List ℕ) → Room a i (commaed (u ∷ [])) → i + (length u + 1) ≤ length a
unfolding commaed
part_room a i u r = omega (arith, simp length-append at r.fits)

-- for two such parts
pub two_room : (a : List ℕ) (i : ℕ) (u v : List ℕ) → Room a i (commaed (u ∷ v ∷ [])) → i + (length (commaed (u ∷ [])) + length (commaed (v ∷ []))) ≤ length a
two_room a i u v r = omega (arith, simp commaed_length at r.fits)

-- for three
pub three_room : (a : List ℕ) (i : ℕ) (u v w : List ℕ) → Room a i (commaed (u ∷ v ∷ w ∷ [])) → i + (length (commaed (u ∷ [])) + length (commaed (v ∷ [])) + length (commaed (w ∷ []))) ≤ length a
three_room a i u v w r = omega (arith, simp commaed_length at r.fits)

-- for four
pub four_room : (a : List ℕ) (i : ℕ) (t u v w : List ℕ) → Room a i (commaed (t ∷ u ∷ v ∷ w ∷ [])) → i + (length (commaed (t ∷ [])) + length (commaed (u ∷ [])) + length (commaed (v ∷ [])) + length (commaed (w ∷ []))) ≤ length a
four_room a i t u v w r = omega (arith, simp commaed_length at r.fits)

-- for the place and the look of a text
pub setting_room : (a : List ℕ) (i : ℕ) (s : P.Setting) → Room a i (setting_text s) → i + (length (commaed (decimal s.x ∷ decimal s.y ∷ decimal s.r ∷ [])) + length (commaed (decimal s.f ∷ decimal s.h ∷ decimal s.v ∷ (s.m ∷ []) ∷ []))) ≤ length a
unfolding setting_text
setting_room a i s r = simp commaed_length (omega (arith, simp commaed_length at r.fits))

-- for a string between its quotes
pub string_room : (a : List ℕ) (i : ℕ) (t : List ℕ) → Room a i (quoted t) → i + (length (escape t) + 2) ≤ length a
unfolding quoted
string_room a i t r = omega (arith, simp length-append at r.fits)

-- for a string and a value behind it
pub joined_room : (a : List ℕ) (i : ℕ) (t : List ℕ) (v : P.Value) → Room a i (content_text (P.joined t v)) → i + (length (quoted t) + length (value_text v)) ≤ length a
unfolding content_text
joined_room a i t v r = omega (arith, simp length-append at r.fits)

-- for a letter and two texts
pub text_room : (a : List ℕ) (i b : ℕ) (u v : List ℕ) → Room a i (b ∷ (u ++ v)) → i + (1 + length u + length v) ≤ length a
text_room a i b u v r = omega (arith, simp length-append at r.fits)

-- for a letter and two parts, a comma between them
pub pair_room : (a : List ℕ) (i b : ℕ) (u v : List ℕ) → Room a i (b ∷ commas (u ∷ v ∷ [])) → i + (1 + length (commaed (u ∷ [])) + length v) ≤ length a
pair_room a i b u v r = omega (arith, commas_length (u ∷ []) v, r.fits)

-- for a letter and four
pub varying_room : (a : List ℕ) (i b : ℕ) (t u v w : List ℕ) → Room a i (b ∷ commas (t ∷ u ∷ v ∷ w ∷ [])) → i + (1 + length (commaed (t ∷ u ∷ v ∷ [])) + length w) ≤ length a
varying_room a i b t u v w r = omega (arith, commas_length (t ∷ u ∷ v ∷ []) w, r.fits)

-- for two letters and four
pub bar_room : (a : List ℕ) (i b c : ℕ) (t u v w : List ℕ) → Room a i (b ∷ c ∷ commas (t ∷ u ∷ v ∷ w ∷ [])) → i + (2 + length (commaed (t ∷ u ∷ v ∷ [])) + length w) ≤ length a
bar_room a i b c t u v w r = omega (arith, varying_room a (i + 1) c t u v w (record { fits = omega (arith, r.fits) }))

-- for a letter and five
pub five_room : (a : List ℕ) (i b : ℕ) (s t u v w : List ℕ) → Room a i (b ∷ commas (s ∷ t ∷ u ∷ v ∷ w ∷ [])) → i + (1 + length (commaed (s ∷ t ∷ u ∷ [])) + length (commaed (v ∷ [])) + length w) ≤ length a
five_room a i b s t u v w r =
    omega (arith, simp length-append at (ap length (commas_join (s ∷ t ∷ u ∷ []) v (w ∷ []))), commas_length (v ∷ []) w, r.fits)

-- for a letter and three parts, a comma behind each
pub head_room : (a : List ℕ) (i b : ℕ) (u v w : List ℕ) → Room a i (b ∷ commaed (u ∷ v ∷ w ∷ [])) → i + (1 + length (commaed (u ∷ [])) + length (commaed (v ∷ w ∷ []))) ≤ length a
head_room a i b u v w r = omega (arith, commaed_length u v (w ∷ []), r.fits)

-- room by arithmetic
pub ruleset rooms = (arith, part_room, two_room, three_room, four_room, setting_room, string_room, joined_room, text_room, pair_room, varying_room, bar_room, five_room, head_room)

-- room for a text under another name
pub room_is : (a : List ℕ) (i : ℕ) (u v : List ℕ) → Room a i u → v ≡ u → Room a i v
room_is a i u v r e = rw e r

-- a text written under another name
pub writes_is : (a : List ℕ) (i : ℕ) (u v d : List ℕ) (k : ℕ) → Writes a i u d k → u ≡ v → Writes a i v d k
writes_is a i u v d k w e = rw e at w

-- a step by its case
pub step_is : (step x : Step) (u : List ℕ) → step ≡ x → u ≡ step_text (step_of x) → u ≡ step_text (step_of step)
step_is step x u e p = p ∙ rw e

-- an empty text is written by writing nothing
pub writes_empty : (a u : List ℕ) → [] ≡ u → Writes a 0 u a 0
writes_empty a u e = rw (← e) (writes_none a 0 (omega arith))
