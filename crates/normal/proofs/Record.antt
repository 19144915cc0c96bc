-- A record that is written: its strings close in the source, its letters and numbers are small, and its normal form has room in a buffer of 256 bytes.
use mathlib.Core.Path.{◌≡◌, refl, sym, ◌∙◌}
use mathlib.Core.Bool.{true, ◌&&◌, false≢true}
use mathlib.Core.List.{List, [], ◌∷◌}
use Prim.Native.Nat.{ℕ, ◌≤◌, ◌<◌}
use native.Mathlib.Omega.{arith}
use lib.ListN.{length}
use lib.Dec.{eqb, ltb}
use borrow.Author.Tests.{eqb-true, ltb-true}
use Rattle.std.specs.Prelude.{Option, Some, None}
use Rattle.paper.specs.Byte.{bytes, every, among}
use Rattle.paper.specs.Line.{plain}
use Rattle.paper.specs.Command as P
use Rattle.paper.specs.Read as Read
use Rattle.paper.specs.Write.{content_text}
use Rattle.paper.proofs.Law.{and_left, and_right}
use Rattle.paper.proofs.Test.{tests, held}
use Rattle.paper.proofs.Text.{among_every}
use Rattle.paper.proofs.RoundTrip.{normal_227}
use Rattle.text.specs.Place.{from, closing, Closes}
use Rattle.text.specs.declared.read.Span.{Span}
use Rattle.text.specs.declared.read.Closing.{Closing}
use Rattle.text.proofs.Quote.{closing_at}
use Rattle.command.specs.View.{width, text_in, content_of, setting_of, put_of, view_of, Holds}
use Rattle.command.proofs.Judge.{put_ranges}
use Rattle.command.specs.declared.Content.{Content}
use Rattle.command.specs.declared.Content.TheVariants as C
use Rattle.command.specs.declared.Put.{Put}
use Rattle.command.specs.declared.Command.{Command}
use Rattle.command.specs.declared.Command.TheVariants as M
use Rattle.normal.specs.Normal.{Room, closes_with, held_at, content_held, record_held, readable, reading_text}

-- a string that is found at its place holds in the source
pub held_holds : (s : List ℕ) (string : Span) → held_at s string ≡ true → Holds s string
unfolding held_at closes_with text_in
held_holds s string e = go (closing s 0 (plain (from s string.start))) refl e
  where
    go : (r : Option Closing) → r ≡ closing s 0 (plain (from s string.start)) → closes_with string.end string.len r ≡ true → Holds s string
    go (Some c) p q =
        let there : c.end ≡ string.end = eqb-true c.end string.end (and_left (eqb c.end string.end) (eqb c.len string.len) q) in
        let long : c.len ≡ string.len = eqb-true c.len string.len (and_right (eqb c.end string.end) (eqb c.len string.len) q) in
        let found = closing_at s string.start string.end string.len (Some c) p (rw (← there, ← long) refl) in
        record { closes = found.0; counted = found.1 }
    go None p q = absurd (false≢true q)

-- a content by its case
pub content_is : (s : List ℕ) (content x : Content) (u : List ℕ) → content ≡ x → u ≡ content_text (content_of s x) → u ≡ content_text (content_of s content)
content_is s content x u e p = p ∙ rw e

-- the string of a content closes
pub content_closes : (s : List ℕ) (content x : Content) (string : Span) → content_held s content ≡ true → content ≡ x → content_held s x ≡ held_at s string → Closes s string.start string.end
content_closes s content x string h e p = (held_holds s string (sym p ∙ rw e at h)).closes

-- the number of a variable
pub variable_small : (s : List ℕ) (content : Content) (n : ℕ) → P.all_of (P.content_ranges (content_of s content)) ≡ true → content ≡ C.Variable n → n < 100
unfolding P.content_ranges content_of P.value_range
variable_small s content n h e = omega (tests, (held _ (rw e at h)).0.0)

-- and of one behind a string
pub joined_small : (s : List ℕ) (content : Content) (string : Span) (n : ℕ) → P.all_of (P.content_ranges (content_of s content)) ≡ true → content ≡ C.TextVariable string n → n < 100
unfolding P.content_ranges content_of P.value_range
joined_small s content string n h e = omega (tests, (held _ (rw e at h)).1.0.0)

-- a text in range: its parameters are, and its content
text_ranges : (s : List ℕ) (p : Put) → P.in_range width (put_of s p) ≡ true → (P.all_of (P.setting_ranges width (setting_of p.setting)) && P.all_of (P.content_ranges (content_of s p.content))) ≡ true
unfolding put_of
text_ranges s p e = sym (put_ranges (setting_of p.setting) (content_of s p.content)) ∙ e

-- the ranges of its content
pub text_content : (s : List ℕ) (p : Put) → P.in_range width (put_of s p) ≡ true → P.all_of (P.content_ranges (content_of s p.content)) ≡ true
text_content s p e =
    and_right (P.all_of (P.setting_ranges width (setting_of p.setting))) (P.all_of (P.content_ranges (content_of s p.content))) (text_ranges s p e)

-- a letter that is one of a few is a byte
letter_small : (letters : List ℕ) (b : ℕ) → every (λ c. ltb c 256) letters ≡ true → among letters b ≡ true → b < 256
letter_small letters b e a = ltb-true b 256 (among_every (λ c. ltb c 256) letters b e a)

-- its mood is a byte
pub text_mood : (s : List ℕ) (p : Put) → P.in_range width (put_of s p) ≡ true → p.setting.m < 256
unfolding P.setting_ranges setting_of bytes every
text_mood s p e =
    letter_small (bytes "NR") p.setting.m refl
    (held (P.setting_ranges width (setting_of p.setting)) (and_left (P.all_of (P.setting_ranges width (setting_of p.setting))) (P.all_of (P.content_ranges (content_of s p.content))) (text_ranges s p e))).1.1.1.1.1.1.0.0

-- a record by its case
pub view_is : (s : List ℕ) (c x : Command) (u : List ℕ) → c ≡ x → u ≡ reading_text (view_of s x) → u ≡ reading_text (view_of s c)
view_is s c x u e p = p ∙ rw e

-- the string of a record closes
pub record_closes : (s : List ℕ) (c x : Command) (string : Span) → record_held s c ≡ true → c ≡ x → record_held s x ≡ held_at s string → Closes s string.start string.end
record_closes s c x string h e p = (held_holds s string (sym p ∙ rw e at h)).closes

-- a direction's letter is a byte
pub direction_small : (s : List ℕ) (c : Command) (d : ℕ) → readable (view_of s c) ≡ true → c ≡ M.Direction d → d < 256
unfolding readable view_of P.in_range P.ranges P.draw_ranges bytes every
direction_small s c d h e = letter_small (bytes "TB") d refl (held ((among (bytes "TB") d ∷ []) ∷ []) (rw e at h)).0.0

-- a variable's number has two digits
pub varying_small : (s : List ℕ) (c : Command) (n len : ℕ) (prompt : Span) → readable (view_of s c) ≡ true → c ≡ M.Varying n len prompt → n < 100
unfolding readable view_of P.in_range P.ranges P.define_ranges
varying_small s c n len prompt h e = omega (tests, (held (P.ranges width (P.keep (P.define (P.varying n len 78 (text_in s prompt))))) (rw e at h)).0.0)

-- a text record has its content's string
pub text_held : (s : List ℕ) (c : Command) (p : Put) → record_held s c ≡ true → c ≡ M.Text p → content_held s p.content ≡ true
unfolding record_held
text_held s c p h e = rw e at h

-- and is in range
pub text_is_in_range : (s : List ℕ) (c : Command) (p : Put) → readable (view_of s c) ≡ true → c ≡ M.Text p → P.in_range width (put_of s p) ≡ true
unfolding readable view_of
text_is_in_range s c p h e = rw e at h

-- the normal form of what some line reads as has at most 227 bytes
reading_length : (r : Read.Reading) → readable r ≡ true → length (reading_text r) ≤ 227
unfolding readable reading_text
reading_length (Read.command c) e = normal_227 c e
reading_length (Read.unread r) e = omega arith

-- and so it has room
pub line_room : (out s : List ℕ) (c : Command) (u : List ℕ) → 256 ≤ length out → readable (view_of s c) ≡ true → u ≡ reading_text (view_of s c) → Room out 0 u
line_room out s c u l h e = rw e (record { fits = omega (arith, reading_length (view_of s c) h) })
