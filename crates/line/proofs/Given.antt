-- Lines up to their end: what may stand behind the last part, and the ranges by the code's tests.
use mathlib.Core.Path.{◌≡◌, refl, ◌∙◌}
use mathlib.Core.Bool.{Bool, true, false, ◌||◌, false≢true}
use mathlib.Core.List.{List, [], ◌∷◌}
use mathlib.Core.Logic.{◌⊎◌, inl, inr}
use Prim.Native.Nat.{ℕ, ◌+◌, ◌≤◌, ◌<◌}
use native.Mathlib.Omega.{arith}
use lib.Dec.{eqb}
use lib.ListN.{length, drop_of_length-le}
use lib.Seq.{drop-cons}
use borrow.Author.Tests.{eq-eqb, ne_eqb, eqb-true}
use Rattle.std.specs.Prelude.{Some, None}
use Rattle.paper.specs.Byte.{bytes, every, any, among}
use Rattle.paper.specs.Line.{Got, got, bad, followed, ended, byte, comma, number, string}
use Rattle.paper.specs.Command as P
use Rattle.paper.specs.Command.{is_shown, in_range, ranges, all_of, define_ranges, draw_ranges, setting_ranges, content_ranges, filing_ranges, all, is_name, star}
use Rattle.paper.specs.Read.{copies_of}
use Rattle.paper.proofs.Law.{if_true, if_false}
use Rattle.paper.proofs.Test.{held}
use Rattle.paper.proofs.Part.{or_else_got, or_else_bad}
use Rattle.text.specs.Place.{byte_at, from}
use Rattle.text.proofs.Place.{one_fails, one_passes}
use Rattle.text.specs.declared.read.Parsed.{Parsed}
use Rattle.text.specs.declared.read.Span.{Span}
use Rattle.command.specs.View.{width, text_in, Standing, ContentStands, ContentShown}
use Rattle.command.specs.declared.Content.{Content}
use Rattle.command.proofs.Judge.{put_ranges}
use Rattle.command.proofs.Held.{standing_shown, content_is_shown}
use Rattle.line.specs.Part.{Found, ReadsContent, last_string, LastAt}

-- something stands behind the last part
pub ended_more : {A : Type 0} (s : List ℕ) (p : A) (at : ℕ) → at < length s → ended p (from s at) ≡ bad
unfolding from ended
ended_more s p at h = rw (drop-cons s at 0 h)

-- nothing does
pub ended_here : {A : Type 0} (s : List ℕ) (p : A) (at : ℕ) → length s ≤ at → ended p (from s at) ≡ got p []
unfolding from ended
ended_here s p at h = rw (drop_of_length-le s {i = at} h)

-- where more follows nothing ends
pub ended_cons : {A : Type 0} (p : A) (b : ℕ) (x : List ℕ) → ended p (b ∷ x) ≡ bad
unfolding ended
ended_cons p b x = refl

-- a string ends the line
pub string_read : (s : List ℕ) (at : ℕ) (span : Span) → LastAt s at (Some span) → string (from s at) ≡ got (text_in s span) (from s (span.end + 1))
unfolding LastAt
string_read s at span h = h.reads

pub string_last : (s : List ℕ) (at : ℕ) (span : Span) → LastAt s at (Some span) → length s ≤ span.end + 1
unfolding LastAt
string_last s at span h = h.last

pub string_stands : (s : List ℕ) (at : ℕ) (span : Span) → LastAt s at (Some span) → Standing s span
unfolding LastAt
string_stands s at span h = h.stands

pub string_counted : (s : List ℕ) (at : ℕ) (span : Span) → LastAt s at (Some span) → span.len ≡ length (text_in s span)
unfolding LastAt
string_counted s at span h = h.stands.holds.counted

pub string_shown : (s : List ℕ) (at : ℕ) (span : Span) → LastAt s at (Some span) → every is_shown s ≡ true → every is_shown (text_in s span) ≡ true
unfolding LastAt
string_shown s at span h e = standing_shown s span h.stands e

-- none does, or something follows it
pub string_none : (s : List ℕ) (at : ℕ) → LastAt s at None → (string (from s at) ≡ bad) ⊎ ((t : List ℕ) × (b : ℕ) × (x : List ℕ) × (string (from s at) ≡ got t (b ∷ x)))
unfolding LastAt last_string followed ended
string_none s at h = go (string (from s at)) h
  where
    go : (g : Got (List ℕ)) → followed g (λ t. ended t) ≡ bad → (g ≡ bad) ⊎ ((t : List ℕ) × (b : ℕ) × (x : List ℕ) × (g ≡ got t (b ∷ x)))
    go (got t []) p = let z : ◌≡◌ {A = ℕ} 0 1 = cc in absurd (omega arith)
    go (got t (b ∷ x)) p = inr (t, b, x, refl)
    go bad p = inl refl

-- a bar's ranges are those of any pen
pub bar_ranges : (pen : P.Pen) (x y w t : ℕ) → in_range width (P.keep (P.draw (P.bar pen x y w t))) ≡ in_range width (P.keep (P.draw (P.bar P.black x y w t)))
unfolding in_range ranges draw_ranges
bar_ranges pen x y w t = refl

-- the copies of a print: none are given, and it is one
pub copies_one : (s : List ℕ) (n at : ℕ) → length s ≤ at → copies_of n (from s at) ≡ got (P.print n 1) []
unfolding copies_of from ended
copies_one s n at h = rw (drop_of_length-le s {i = at} h, or_else_got (ended (P.print n 1)) _ [] (P.print n 1) [] refl)

-- something stands behind the sets, and the copies are behind a comma
copies_more : (s : List ℕ) (n at : ℕ) → at < length s → copies_of n (from s at) ≡ followed (comma (from s at)) (λ _ y. followed (number y) (λ c. ended (P.print n c)))
unfolding copies_of from ended
copies_more s n at h = or_else_bad (ended (P.print n 1)) _ (from s at) (rw (drop-cons s at 0 h))

-- there is no comma
pub copies_lack : (s : List ℕ) (n at : ℕ) → at < length s → (byte_at s at ≡ 44 → ⊥) → copies_of n (from s at) ≡ bad
unfolding comma byte followed
copies_lack s n at h k = copies_more s n at h ∙ rw (one_fails (λ c. eqb c 44) s at (ne_eqb (byte_at s at) 44 k))

-- there is one, and the copies are the number behind it
pub copies_go : (s : List ℕ) (n at : ℕ) → at < length s → byte_at s at ≡ 44 → copies_of n (from s at) ≡ followed (number (from s (at + 1))) (λ c. ended (P.print n c))
unfolding comma byte followed
copies_go s n at h q = copies_more s n at h ∙ rw (one_passes (λ c. eqb c 44) s at (eq-eqb (byte_at s at) 44 q) h)

-- the letter that a line with a prompt must have is `N`
letter_n : (l : ℕ) → among (bytes "N") l ≡ true → l ≡ 78
unfolding among any bytes
letter_n l e = go (eqb l 78) refl e
  where
    go : (t : Bool) → eqb l 78 ≡ t → (t || false) ≡ true → l ≡ 78
    go true q k = eqb-true l 78 q
    go false q k = absurd (false≢true k)

-- a counter in its ranges has it
pub counting_letter : (n len l : ℕ) (by : P.Step) (t : List ℕ) → in_range width (P.keep (P.define (P.counting n len l by t))) ≡ true → l ≡ 78
unfolding in_range ranges define_ranges
counting_letter n len l by t e = letter_n l (held _ e).1.1.0.0

-- and so has a variable
pub varying_letter : (n len l : ℕ) (t : List ℕ) → in_range width (P.keep (P.define (P.varying n len l t))) ≡ true → l ≡ 78
unfolding in_range ranges define_ranges
varying_letter n len l t e = letter_n l (held _ e).1.1.0.0

-- in a shown line a content that was read is shown
pub content_told : (s : List ℕ) (g : Got P.Content) (p : Parsed Content) → ReadsContent s g (Some p) → every is_shown s ≡ true → ContentShown s p.value
unfolding Found
content_told s g p h e = content_is_shown s p.value h.stands e

-- and so its strings stand there
pub content_stands : (s : List ℕ) (g : Got P.Content) (p : Parsed Content) → ReadsContent s g (Some p) → ContentStands s p.value
unfolding Found
content_stands s g p h = h.stands

pub ruleset lines = (ended_more, ended_here, ended_cons, string_read, string_last, string_stands, string_counted, string_shown, string_none, bar_ranges, copies_one, copies_lack, copies_go, content_told, content_stands, put_ranges, counting_letter, varying_letter, if_true, if_false)
