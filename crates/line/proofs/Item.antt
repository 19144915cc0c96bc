-- Steps, values and contents: what the bytes at a place say of each, so that the chain behind them can be read.
use mathlib.Core.Path.{◌≡◌, refl, sym, ◌∙◌}
use mathlib.Core.Bool.{true}
use mathlib.Core.List.{List, []}
use Prim.Native.Nat.{ℕ, zero, suc, ◌+◌, ◌-◌, ◌<◌, ◌≤◌}
use native.Mathlib.Omega.{arith}
use native.Mathlib.Decide.{ℕ_discrete}
use lib.Dec.{eqb}
use lib.ListN.{length, drop_of_length-le}
use lib.Seq.{drop-cons}
use borrow.Author.Tests.{eq-eqb, ne_eqb}
use Rattle.std.specs.Prelude.{Option, Some, None}
use Rattle.paper.specs.Byte.{bytes, any, among, when◌then◌else◌}
use Rattle.paper.specs.Line.{Got, got, bad, Reader, followed, give, ended, byte, comma, part, digit, two_digits, number, string}
use Rattle.paper.specs.Command as P
use Rattle.paper.specs.Read.{or_else, step_of, step, value, behind, content}
use Rattle.paper.proofs.Law.{followed_got, followed_bad}
use Rattle.paper.proofs.Part.{or_else_got, or_else_bad}
use Rattle.text.specs.Place.{byte_at, from, quoted_at}
use Rattle.text.proofs.Place.{stands, one_fails, one_passes}
use Rattle.text.proofs.Quote.{Stands, string_none, string_held, string_missing}
use Rattle.text.specs.declared.read.Span.{Span}
use Rattle.command.specs.View.{text_in, content_of, Standing, ContentStands}
use Rattle.command.specs.declared.Content.TheVariants as C
use Rattle.line.specs.Part.{last_string, EndsAs}

-- a sign before a number, as a step: a plus, or any before 0
pub step_up : (b n : ℕ) → b ≡ 43 → step_of b n ≡ P.up n
unfolding step_of when◌then◌else◌
step_up b zero e = refl
step_up b (suc n) e = rw e

pub step_zero : (b n : ℕ) → n ≡ 0 → step_of b n ≡ P.up n
unfolding step_of
step_zero b n e = rw e

-- another before another number
pub step_down : (b n : ℕ) → (b ≡ 43 → ⊥) → (n ≡ 0 → ⊥) → step_of b n ≡ P.down n
unfolding step_of when◌then◌else◌
step_down b zero e h = absurd (h refl)
step_down b (suc n) e h = rw (ne_eqb b 43 e)

-- a number with its comma, taken as something else: the comma is read before or after
comma_later : {A : Type 0} (f : ℕ → A) (g : Got ℕ) → followed (followed g (λ n. give (f n))) (λ a x. followed (comma x) (λ _. give a)) ≡ followed (followed g (λ n x. followed (comma x) (λ _. give n))) (λ n. give (f n))
unfolding followed give
comma_later f (got n x) = go (comma x)
  where
    go : (k : Got ℕ) → followed k (λ _. give (f n)) ≡ followed (followed k (λ _. give n)) (λ m. give (f m))
    go (got c y) = refl
    go bad = refl
comma_later f bad = refl

-- a sign stands here, and the step is the number behind it
step_signed : (s : List ℕ) (at : ℕ) → 0 < byte_at s at → among (bytes "+-") (byte_at s at) ≡ true → part step (from s at) ≡ followed (part number (from s (at + 1))) (λ n. give (step_of (byte_at s at) n))
unfolding part step followed give
step_signed s at h k =
    rw (one_passes (among (bytes "+-")) s at k (stands s at (byte_at s at) refl h)) (comma_later (step_of (byte_at s at)) (number (from s (at + 1))))

pub step_plus : (s : List ℕ) (at : ℕ) → byte_at s at ≡ 43 → part step (from s at) ≡ followed (part number (from s (at + 1))) (λ n. give (step_of (byte_at s at) n))
unfolding among any bytes
step_plus s at e = step_signed s at (omega arith) (rw e)

pub step_minus : (s : List ℕ) (at : ℕ) → byte_at s at ≡ 45 → part step (from s at) ≡ followed (part number (from s (at + 1))) (λ n. give (step_of (byte_at s at) n))
unfolding among any bytes
step_minus s at e = step_signed s at (omega arith) (rw e)

-- no sign stands here, and so no step
pub step_none : (s : List ℕ) (at : ℕ) → (byte_at s at ≡ 43 → ⊥) → (byte_at s at ≡ 45 → ⊥) → part step (from s at) ≡ bad
unfolding part step followed among any bytes
step_none s at p m =
    rw (one_fails (among (bytes "+-")) s at (rw (among, bytes, any, ne_eqb (byte_at s at) 43 p, ne_eqb (byte_at s at) 45 m)))

-- a letter and a number behind it, as a value
abbrev lettered : ℕ → Reader ℕ → (ℕ → P.Value) → Reader P.Value
lettered c p f x = followed (byte c x) (λ _ y. followed (p y) (λ n. give (f n)))

-- another letter stands here
lettered_lacks : (c : ℕ) (p : Reader ℕ) (f : ℕ → P.Value) (s : List ℕ) (at : ℕ) → (byte_at s at ≡ c → ⊥) → lettered c p f (from s at) ≡ bad
unfolding followed byte
lettered_lacks c p f s at h = rw (one_fails (λ d. eqb d c) s at (ne_eqb (byte_at s at) c h))

-- the letter stands here, and the number is what stands behind it
lettered_goes : (c : ℕ) (p : Reader ℕ) (f : ℕ → P.Value) (s : List ℕ) (at : ℕ) → byte_at s at ≡ c → 0 < c → lettered c p f (from s at) ≡ followed (p (from s (at + 1))) (λ n. give (f n))
unfolding followed byte
lettered_goes c p f s at h k =
    rw (one_passes (λ d. eqb d c) s at (eq-eqb (byte_at s at) c h) (stands s at (byte_at s at) refl (omega arith)))

-- of two readers the second finds nothing, and the first decides
else_left : {A : Type 0} (p q : Reader A) (x : List ℕ) → q x ≡ bad → or_else p q x ≡ p x
unfolding or_else
else_left p q x e = go (p x) refl
  where
    go : (g : Got _) → p x ≡ g → or_else p q x ≡ p x
    go (got a y) k = or_else_got p q x a y k ∙ sym k
    go bad k = or_else_bad p q x k ∙ e ∙ sym k

-- a value at a `C`
pub value_counter : (s : List ℕ) (at : ℕ) → byte_at s at ≡ 67 → value (from s at) ≡ followed (digit (from s (at + 1))) (λ n. give (P.counter n))
unfolding value
value_counter s at k =
    else_left (lettered 67 digit P.counter) (lettered 86 two_digits P.variable) (from s at) (lettered_lacks 86 two_digits P.variable s at λ q. absurd (omega arith))
    ∙ lettered_goes 67 digit P.counter s at k (omega arith)

-- a value at a `V`
pub value_variable : (s : List ℕ) (at : ℕ) → byte_at s at ≡ 86 → value (from s at) ≡ followed (two_digits (from s (at + 1))) (λ n. give (P.variable n))
unfolding value
value_variable s at k =
    or_else_bad (lettered 67 digit P.counter) (lettered 86 two_digits P.variable) (from s at) (lettered_lacks 67 digit P.counter s at λ q. absurd (omega arith))
    ∙ lettered_goes 86 two_digits P.variable s at k (omega arith)

-- at any other byte there is no value
pub value_none : (s : List ℕ) (at : ℕ) → (byte_at s at ≡ 67 → ⊥) → (byte_at s at ≡ 86 → ⊥) → value (from s at) ≡ bad
unfolding value
value_none s at k l =
    or_else_bad (lettered 67 digit P.counter) (lettered 86 two_digits P.variable) (from s at) (lettered_lacks 67 digit P.counter s at k)
    ∙ lettered_lacks 86 two_digits P.variable s at l

-- a string that was read starts behind a quote
quote_opens : (s : List ℕ) (at : ℕ) (span : Span) → quoted_at s at (string (from s at)) ≡ Some span → byte_at s at ≡ 34
quote_opens s at span e = elim (ℕ_discrete (byte_at s at) 34) [ yes h ↦ h | no h ↦ absurd (never (string_none s at (byte_at s at) refl h ∙ e)) ]
  where
    never : None ≡ Some span → ⊥
    never q = let z : ◌≡◌ {A = ℕ} 0 1 = cc in omega arith

-- a string that was read stands in the line
pub standing : (s : List ℕ) (at : ℕ) (span : Span) → Some span ≡ quoted_at s at (string (from s at)) → Standing s span
unfolding text_in
standing s at span e =
    let held : Stands s at span = string_held s at (Some span) span e refl in
    let before : span.start - 1 ≡ at = omega (arith, held.starts) in
    record {
      opens = rw before (quote_opens s at span (sym e));
      begins = omega (arith, held.starts);
      holds = record { closes = held.closes; counted = held.counts };
    }

-- so its end is in it
pub standing_inside : (s : List ℕ) (at : ℕ) (span : Span) → Some span ≡ quoted_at s at (string (from s at)) → span.end < length s
standing_inside s at span e = let h = standing s at span e in omega (arith, h.holds.closes.inside)

-- a string is a content
pub content_text : (s : List ℕ) (span : Span) → content_of s (C.Text span) ≡ P.text (text_in s span)
unfolding content_of
content_text s span = refl

-- that stands where the string does
pub text_stands : (s : List ℕ) (at : ℕ) (span : Span) → Some span ≡ quoted_at s at (string (from s at)) → ContentStands s (C.Text span)
unfolding ContentStands
text_stands s at span e = standing s at span e

-- the content behind a string that was read, or where none was
abbrev pub content_from : List ℕ → ℕ → Option Span → Got P.Content
content_from s at (Some span) = behind (text_in s span) (from s (span.end + 1))
content_from s at None = followed (value (from s at)) (λ v. give (P.shown v))

-- where no string stands the content is a value, and else it is decided behind the string: a quote is no value
pub content_told : (s : List ℕ) (at : ℕ) → content (from s at) ≡ content_from s at (quoted_at s at (string (from s at)))
unfolding content followed text_in
content_told s at = go (quoted_at s at (string (from s at))) refl
  where
    go : (r : Option Span) → quoted_at s at (string (from s at)) ≡ r → content (from s at) ≡ content_from s at r
    go (Some span) e =
        let quoted : byte_at s at ≡ 34 = quote_opens s at span e in
        let none : value (from s at) ≡ bad = value_none s at (λ q. omega arith) (λ q. omega arith) in
        else_left _ _ (from s at) (rw none) ∙ rw (string_held s at (Some span) span (sym e) refl).reads
    go None e = or_else_bad _ _ (from s at) (rw (string_missing s at None (sym e) refl))

-- at the end of the line a string is the content
pub behind_none : (t s : List ℕ) (at : ℕ) → length s ≤ at → behind t (from s at) ≡ got (P.text t) (from s at)
unfolding behind from ended
behind_none t s at h =
    let none : from s at ≡ [] = drop_of_length-le s {i = at} h in
    or_else_got _ _ (from s at) _ (from s at) (rw none)

-- before it a value stands behind the string
pub behind_more : (t s : List ℕ) (at : ℕ) → at < length s → behind t (from s at) ≡ followed (value (from s at)) (λ v. give (P.joined t v))
unfolding behind from ended
behind_more t s at h = or_else_bad _ _ (from s at) (rw (drop-cons s at 0 h))

-- a byte that is not 0 stands in the line
pub stands_here : (s : List ℕ) (at : ℕ) → (byte_at s at ≡ byte_at s at) × (0 < byte_at s at → at < length s)
stands_here s at = (refl, λ h. stands s at (byte_at s at) refl h)

-- no string stands here, and so none that ends the line
pub last_missing : (s : List ℕ) (at : ℕ) → quoted_at s at (string (from s at)) ≡ None → last_string (from s at) ≡ bad
unfolding last_string
last_missing s at e = followed_bad _ _ (string_missing s at None (sym e) refl)

-- one does, and more stands behind it
pub last_more : (s : List ℕ) (at : ℕ) (span : Span) → Some span ≡ quoted_at s at (string (from s at)) → span.end + 1 < length s → last_string (from s at) ≡ bad
unfolding last_string from ended
last_more s at span e h =
    followed_got _ _ _ _ (string_held s at (Some span) span e refl).reads ∙ rw (drop-cons s (span.end + 1) 0 h)

-- one does, and nothing stands behind it
pub last_held : (s : List ℕ) (at : ℕ) (span : Span) → Some span ≡ quoted_at s at (string (from s at)) → length s ≤ span.end + 1 → EndsAs s at span
unfolding text_in
last_held s at span e h =
    record { reads = (string_held s at (Some span) span e refl).reads; stands = standing s at span e; last = h }

pub ruleset parts = (step_up, step_zero, step_down, step_plus, step_minus, step_none, value_counter, value_variable, value_none, standing, standing_inside, content_text, text_stands, content_told, behind_none, behind_more, stands_here, last_missing, last_more, last_held)
