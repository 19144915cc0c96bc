-- The judges of a record: whether its strings stand in the source and its ranges hold, by the tests that the code makes.
use mathlib.Core.Path.{◌≡◌, refl, sym, ◌∙◌}
use mathlib.Core.Bool.{Bool, true, false, ◌&&◌, and-true, and-false}
use mathlib.Core.List.{List, [], ◌∷◌}
use Prim.Native.Nat.{ℕ, ◌≤◌, ◌<◌}
use native.Mathlib.Omega.{arith}
use lib.ListN.{length}
use lib.Dec.{eqb}
use borrow.Author.Tests.{lt-leb, le-leb}
use Rattle.std.specs.Prelude.{Option, Some, None}
use Rattle.std.specs.Option.{option_eq}
use Rattle.paper.specs.Byte.{between, every, same}
use Rattle.paper.specs.Command as P
use Rattle.paper.proofs.Law.{and_left, and_right, and_both}
use Rattle.paper.proofs.Test.{held}
use Rattle.text.specs.Place.{Closes}
use Rattle.text.specs.declared.read.Span.{Span}
use Rattle.text.specs.declared.read.Closing.{Closing}
use Rattle.command.specs.View.{width, text_in, content_of, setting_of, put_of, view_of, Holds, Shown, ContentShown}
use Rattle.command.specs.declared.Content.{Content}
use Rattle.command.specs.declared.Content.TheVariants as C
use Rattle.command.specs.declared.Put.{Put}
use Rattle.command.specs.declared.Command.{Command}
use Rattle.command.proofs.Judge.{put_ranges}
use Rattle.normal.specs.Normal.{closes_with, held_at, shown_at, content_held, content_shown, record_held, readable}
use Rattle.normal.proofs.Record.{held_holds, text_content}

-- a string is held where the place and the length at which it closes are equal to the record's
pub held_equal : (equal : Closing → Closing → Bool) (string : Span) (r : Option Closing) → ((c d : Closing) → equal c d ≡ (eqb c.end d.end && eqb c.len d.len)) → option_eq equal r (Some (record { end = string.end; len = string.len })) ≡ closes_with string.end string.len r
unfolding closes_with
held_equal equal string None e = refl
held_equal equal string (Some c) e = e c (record { end = string.end; len = string.len })

-- a byte from 20H on is shown
pub byte_shown : (b : ℕ) → 32 ≤ b → b < 256 → P.is_shown b ≡ true
unfolding P.is_shown between
byte_shown b low high = rw (le-leb 32 b low, le-leb b 255 (omega arith))

-- and one below is not
pub byte_hidden : (b : ℕ) → b < 32 → P.is_shown b ≡ false
unfolding P.is_shown between
byte_hidden b low = rw (lt-leb 32 b low)

-- the first of two tests fails
pub and_fails : (h i t : Bool) → t ≡ h → t ≡ false → t ≡ (h && i)
and_fails h i t p e = rw (← p, e)

-- the first of two tests passes, and the second decides
pub and_passes : (h i r : Bool) → h ≡ true → r ≡ i → r ≡ (h && i)
and_passes h i r p e = rw p e

-- a test that both would pass fails
no_both : (h i t : Bool) → (h ≡ true → i ≡ true → t ≡ true) → t ≡ false → t ≡ (h && i)
no_both true true t f e = f refl refl
no_both true false t f e = e
no_both false i t f e = e

-- what an answer says of the test that it answers
pub answered : (t h u : Bool) → t ≡ h → t ≡ u → h ≡ u
answered t h u p e = sym p ∙ e

-- what the answer that a string is held tells
pub told_holds : (s : List ℕ) (string : Span) (t : Bool) → t ≡ held_at s string → t ≡ true → Holds s string
told_holds s string t p e = held_holds s string (sym p ∙ e)

-- and so it closes
pub told_closes : (s : List ℕ) (string : Span) (t : Bool) → t ≡ held_at s string → t ≡ true → Closes s string.start string.end
told_closes s string t p e = (told_holds s string t p e).closes

-- a string that is held and shown
shown_is : (s : List ℕ) (string : Span) → shown_at s string ≡ true → Shown s string
unfolding shown_at
shown_is s string e =
    record {
      counted = (held_holds s string (and_left (held_at s string) (every P.is_shown (text_in s string)) e)).counted;
      shown = and_right (held_at s string) (every P.is_shown (text_in s string)) e;
    }

-- what the answer that it is tells
pub told_held : (s : List ℕ) (string : Span) (t : Bool) → t ≡ shown_at s string → t ≡ true → held_at s string ≡ true
unfolding shown_at
told_held s string t p e = and_left (held_at s string) (every P.is_shown (text_in s string)) (sym p ∙ e)

-- its length
pub told_counted : (s : List ℕ) (string : Span) (t : Bool) → t ≡ shown_at s string → t ≡ true → string.len ≡ length (text_in s string)
told_counted s string t p e = (shown_is s string (sym p ∙ e)).counted

-- its bytes
pub told_shown : (s : List ℕ) (string : Span) (t : Bool) → t ≡ shown_at s string → t ≡ true → every P.is_shown (text_in s string) ≡ true
told_shown s string t p e = (shown_is s string (sym p ∙ e)).shown

-- a content by its case
pub content_case : (s : List ℕ) (c x : Content) (r : Bool) → c ≡ x → r ≡ content_shown s x → r ≡ content_shown s c
content_case s c x r e p = p ∙ rw e

-- a content that is held and in range is shown
content_is_sound : (s : List ℕ) (c : Content) → content_held s c ≡ true → P.all_of (P.content_ranges (content_of s c)) ≡ true → content_shown s c ≡ true
unfolding content_held content_shown shown_at content_of P.content_ranges P.texts
content_is_sound s (C.Text string) h e = and_both _ _ h (held (P.texts 100 (text_in s string) ∷ []) e).0.1.0
content_is_sound s (C.Counter n) h e = refl
content_is_sound s (C.Variable n) h e = refl
content_is_sound s (C.TextCounter string n) h e = and_both _ _ h (held (P.texts 100 (text_in s string) ∷ P.value_range (P.counter n) ∷ []) e).0.1.0
content_is_sound s (C.TextVariable string n) h e = and_both _ _ h (held (P.texts 100 (text_in s string) ∷ P.value_range (P.variable n) ∷ []) e).0.1.0

-- one that is shown is held
content_holds : (s : List ℕ) (c : Content) → content_shown s c ≡ true → content_held s c ≡ true
unfolding content_held content_shown shown_at
content_holds s (C.Text string) e = and_left _ (every P.is_shown (text_in s string)) e
content_holds s (C.Counter n) e = refl
content_holds s (C.Variable n) e = refl
content_holds s (C.TextCounter string n) e = and_left _ (every P.is_shown (text_in s string)) e
content_holds s (C.TextVariable string n) e = and_left _ (every P.is_shown (text_in s string)) e

-- and its string is counted
content_is_shown : (s : List ℕ) (c : Content) → content_shown s c ≡ true → ContentShown s c
unfolding content_shown ContentShown
content_is_shown s (C.Text string) e = shown_is s string e
content_is_shown s (C.Counter n) e = tt
content_is_shown s (C.Variable n) e = tt
content_is_shown s (C.TextCounter string n) e = shown_is s string e
content_is_shown s (C.TextVariable string n) e = shown_is s string e

-- a text whose content is not shown
pub text_hidden : (s : List ℕ) (p : Put) (t : Bool) → t ≡ content_shown s p.content → t ≡ false → t ≡ (content_held s p.content && P.in_range width (put_of s p))
text_hidden s p t q e =
    no_both (content_held s p.content) (P.in_range width (put_of s p)) t (λ h i. q ∙ content_is_sound s p.content h (text_content s p i)) e

-- a text whose parameters are out of range
pub text_out : (s : List ℕ) (p : Put) (t : Bool) → t ≡ P.all_of (P.setting_ranges width (setting_of p.setting)) → t ≡ false → t ≡ (content_held s p.content && P.in_range width (put_of s p))
unfolding put_of
text_out s p t q e = e ∙ rw (put_ranges (setting_of p.setting) (content_of s p.content), ← q, e, and-false)

-- a text whose content decides
pub text_told : (s : List ℕ) (p : Put) (t u r : Bool) → t ≡ content_shown s p.content → t ≡ true → u ≡ P.all_of (P.setting_ranges width (setting_of p.setting)) → u ≡ true → ((z : List ℕ) → ContentShown z p.content → r ≡ P.all_of (P.content_ranges (content_of z p.content))) → r ≡ (content_held s p.content && P.in_range width (put_of s p))
unfolding put_of
text_told s p t u r q e o f g =
    g s (content_is_shown s p.content (sym q ∙ e)) ∙ rw (put_ranges (setting_of p.setting) (content_of s p.content), content_holds s p.content (sym q ∙ e), ← o, f)

-- a prompt that is not shown
pub counting_hidden : (s : List ℕ) (n len : ℕ) (step : P.Step) (prompt : Span) (t : Bool) → t ≡ shown_at s prompt → t ≡ false → t ≡ (held_at s prompt && P.in_range width (P.keep (P.define (P.counting n len 78 step (text_in s prompt)))))
unfolding shown_at P.in_range P.ranges P.define_ranges P.texts
counting_hidden s n len step prompt t q e =
    no_both (held_at s prompt) _ t (λ h i. q ∙ and_both (held_at s prompt) _ h (held (P.define_ranges (P.counting n len 78 step (text_in s prompt))) i).1.1.1.1.0.1.0) e

-- the same for a variable's
pub varying_hidden : (s : List ℕ) (n len : ℕ) (prompt : Span) (t : Bool) → t ≡ shown_at s prompt → t ≡ false → t ≡ (held_at s prompt && P.in_range width (P.keep (P.define (P.varying n len 78 (text_in s prompt)))))
unfolding shown_at P.in_range P.ranges P.define_ranges P.texts
varying_hidden s n len prompt t q e =
    no_both (held_at s prompt) _ t (λ h i. q ∙ and_both (held_at s prompt) _ h (held (P.define_ranges (P.varying n len 78 (text_in s prompt))) i).1.1.1.0.1.0) e

-- a name decides
pub name_told : (s : List ℕ) (name : Span) (t r : Bool) → t ≡ held_at s name → t ≡ true → r ≡ P.is_name (text_in s name) → r ≡ (held_at s name && P.in_range width (P.file (P.start (text_in s name))))
unfolding P.in_range P.ranges P.filing_ranges P.all_of P.all
name_told s name t r p e q = q ∙ simp (← p, e, and-true)

-- a name where the star may stand
pub names_name : (s : List ℕ) (name : Span) (t r : Bool) → t ≡ held_at s name → t ≡ true → r ≡ P.is_name (text_in s name) → r ≡ true → r ≡ (held_at s name && P.in_range width (P.file (P.delete (text_in s name))))
unfolding P.in_range P.ranges P.filing_ranges P.all_of P.all
names_name s name t r p e q f = rw (← p, e, ← q, f)

-- and there the star decides
pub names_star : (s : List ℕ) (name : Span) (t u r : Bool) → t ≡ held_at s name → t ≡ true → u ≡ P.is_name (text_in s name) → u ≡ false → r ≡ same (text_in s name) P.star → r ≡ (held_at s name && P.in_range width (P.file (P.delete (text_in s name))))
unfolding P.in_range P.ranges P.filing_ranges P.all_of P.all
names_star s name t u r p e o f q = q ∙ rw (← p, e, ← o, f) (simp and-true)

-- a record by its case
pub record_case : (s : List ℕ) (c x : Command) (r : Bool) → c ≡ x → r ≡ (record_held s x && readable (view_of s x)) → r ≡ (record_held s c && readable (view_of s c))
record_case s c x r e p = p ∙ rw e
