-- The parts of a line, written and read back: for each part one fact holds its reading and its length, and such facts are chained as the parts are.
use Prim.Native.Nat.{ℕ, zero, suc, ◌+◌, ◌*◌, ◌^◌, ◌≤◌, ◌<◌}
use Prim.Native.Char.{code}
use mathlib.Core.Path.{◌≡◌, refl, sym, ◌∙◌, ap}
use mathlib.Core.Bool.{true}
use mathlib.Core.List.{List, [], ◌∷◌, ◌++◌, append-nil, append_assoc}
use native.Mathlib.Omega.{arith}
use lib.ListN.{length, length-append}
use Rattle.paper.specs.Byte.{bytes, when◌then◌else◌, between, every, any, among, decimal}
use Rattle.paper.specs.Line.{got, bad, Reader, followed, give, ended, one, byte, comma, part, digit, two_digits, number, letter, string, quoted}
use Rattle.paper.specs.Command.{Value, counter, variable, Content, text, shown, joined, Step, up, down, texts, value_range, content_ranges, step_range}
use Rattle.paper.specs.Read.{or_else, font, step_of, step, value, behind, content}
use Rattle.paper.specs.Write.{two, value_text, content_text, step_text}
use Rattle.paper.proofs.Text.{among_every}
use Rattle.paper.proofs.Test.{Passed, Held, tests}
use Rattle.paper.proofs.Number.{no_digit, number_decimal, digit_decimal, two_digits_two, decimal_length, decimal_is_within}
use Rattle.paper.proofs.String.{string_quoted, quoted_length}

-- a text of at most k bytes that a reader reads back as a value, whatever but a digit stands behind it
pub record Back {A : Type 0} (p : Reader A) (a : A) (u : List ℕ) (k : ℕ) : Type 0 where
  pub reads : (r : List ℕ) → no_digit r ≡ true → p (u ++ r) ≡ got a r
  pub short : length u ≤ k

-- the same at the end of the line
pub record Last {A : Type 0} (p : Reader A) (a : A) (u : List ℕ) (k : ℕ) : Type 0 where
  pub reads : p u ≡ got a []
  pub short : length u ≤ k

-- what is read back anywhere is read back at the end: as an equation, and as a fact with its length
pub ends : {A : Type 0} {p : Reader A} {a : A} {u : List ℕ} {k : ℕ} → Back p a u k → p u ≡ got a []
ends {p = p} {u = u} b = ap p (sym (append-nil u)) ∙ b.reads [] refl

pub last : {A : Type 0} {p : Reader A} {a : A} {u : List ℕ} {k : ℕ} → Back p a u k → Last p a u k
last b = record { reads = ends b; short = b.short }

-- the last part, and then the end of the line
pub closing : {A B : Type 0} {p : Reader A} {a : A} {u : List ℕ} {k : ℕ} (f : A → B) → Last p a u k
    → Last (λ s. followed (p s) (λ a. ended (f a))) (f a) u k
unfolding followed ended
closing f b = record { reads = rw b.reads; short = b.short }

-- a part with its comma, and what follows
pub before : {A B : Type 0} {p : Reader A} {a : A} {u : List ℕ} {k : ℕ} (next : A → Reader B) {b : B} {v : List ℕ} {m : ℕ}
    → Back p a u k → Last (next a) b v m → Last (λ s. followed (part p s) next) b (u ++ (code "," ∷ v)) (k + suc m)
unfolding followed part comma byte one when◌then◌else◌ give
before next {v = v} x y = record { reads = rw (x.reads (code "," ∷ v) refl) y.reads; short = rw length-append (omega arith) }

-- a text that a reader reads back whatever stands behind it
pub record Head {A : Type 0} (p : Reader A) (a : A) (u : List ℕ) (k : ℕ) : Type 0 where
  pub reads : (r : List ℕ) → p (u ++ r) ≡ got a r
  pub short : length u ≤ k

-- no part at all
pub nothing : {A : Type 0} (a : A) → Head (give a) a [] 0
unfolding give
nothing a = record { reads = λ r. refl; short = omega arith }

-- a part with its comma, and such a text
pub ahead : {A B : Type 0} {p : Reader A} {a : A} {u : List ℕ} {k : ℕ} (next : A → Reader B) {b : B} {v : List ℕ} {m : ℕ}
    → Back p a u k → Head (next a) b v m → Head (λ s. followed (part p s) next) b (u ++ (code "," ∷ v)) (k + suc m)
unfolding followed part comma byte one when◌then◌else◌ give
ahead next {v = v} x y =
    record {
      reads = λ r. rw (append_assoc, x.reads (code "," ∷ (v ++ r)) refl) (y.reads r);
      short = rw length-append (omega arith);
    }

-- such a text, and the rest of the line
pub onward : {A B : Type 0} {p : Reader A} {a : A} {u : List ℕ} {k : ℕ} (next : A → Reader B) {b : B} {v : List ℕ} {m : ℕ}
    → Head p a u k → Last (next a) b v m → Last (λ s. followed (p s) next) b (u ++ v) (k + m)
unfolding followed
onward next {v = v} x y = record { reads = rw (x.reads v) y.reads; short = rw length-append (omega arith) }

-- a number with at most k digits
pub number_back : (k n : ℕ) → (1 ≤ k) × (n < 10 ^ k) × (n < 100000) → Back number n (decimal n) k
number_back k n h =
    record { reads = λ r e. number_decimal n r h.2 e; short = decimal_is_within k n h.0 h.1 }

-- a number with no more digits than another
pub number_below : (m n : ℕ) → n ≤ m → n < 100000 → Back number n (decimal n) (length (decimal m))
number_below m n h l =
    record { reads = λ r e. number_decimal n r l e; short = decimal_length m n h }

-- a digit
pub digit_back : (n : ℕ) → n ≤ 9 → Back digit n (decimal n) 1
digit_back n h =
    record { reads = λ r e. digit_decimal n r h; short = decimal_is_within 1 n (omega arith) (omega arith) }

-- two digits
pub two_back : (n : ℕ) → n ≤ 99 → Back two_digits n (two n) 2
unfolding two
two_back n h =
    record { reads = λ r e. unfold two in two_digits_two n r h; short = omega arith }

-- a string of at most so many bytes
pub string_back : (most : ℕ) (s : List ℕ) → length s ≤ most → Back string s (quoted s) (2 * most + 2)
string_back most s h = record { reads = λ r _. string_quoted s r; short = omega (arith, quoted_length s) }

-- a letter out of some
pub letter_back : (s : List ℕ) (b : ℕ) → every (between (code "A") (code "Z")) s ≡ true → among s b ≡ true → Back letter b (b ∷ []) 1
unfolding letter one when◌then◌else◌
letter_back s b e a =
    let l : between (code "A") (code "Z") b ≡ true = among_every (between (code "A") (code "Z")) s b e a in
    record { reads = λ r _. rw l; short = omega arith }

-- the first of two readers is enough
pub or_else_got : {A : Type 0} (p q : Reader A) (s : List ℕ) (a : A) (r : List ℕ) → p s ≡ got a r → or_else p q s ≡ got a r
unfolding or_else
or_else_got p q s a r e = rw (e, or_else)

-- where the first reader finds nothing the second decides
pub or_else_bad : {A : Type 0} (p q : Reader A) (s : List ℕ) → p s ≡ bad → or_else p q s ≡ q s
unfolding or_else
or_else_bad p q s e = rw (e, or_else)

-- a font that is a number
pub font_back : (k n : ℕ) → (1 ≤ k) × (n < 10 ^ k) × (n < 100000) → Back font n (decimal n) k
unfolding font
font_back k n h =
    let b : Back number n (decimal n) k = number_back k n h in
    record { reads = λ r e. or_else_got number _ (decimal n ++ r) n r (b.reads r e); short = b.short }

step_of_up : (n : ℕ) → step_of (code "+") n ≡ up n
unfolding step_of when◌then◌else◌
step_of_up zero = refl
step_of_up (suc n) = refl

step_of_down : (n : ℕ) → 1 ≤ n → step_of (code "-") n ≡ down n
unfolding step_of when◌then◌else◌
step_of_down zero h = absurd (omega arith)
step_of_down (suc n) h = refl

-- a step up, and a step down by 1 or more
pub step_back : (s : Step) → Passed (step_range s) → Back step s (step_text s) 5
unfolding step step_text step_range one among any bytes followed when◌then◌else◌ give
step_back (up n) h =
    let b : Back number n (decimal n) 4 = number_back 4 n (omega tests) in
    record { reads = λ r e. rw (b.reads r e, step_of_up n); short = omega (arith, b.short) }
step_back (down n) h =
    let b : Back number n (decimal n) 4 = number_back 4 n (omega tests) in
    record { reads = λ r e. rw (b.reads r e, step_of_down n (omega tests)); short = omega (arith, b.short) }

-- a value by its number
pub value_back : (v : Value) → Passed (value_range v) → Back value v (value_text v) 3
unfolding value value_text value_range bytes one byte followed when◌then◌else◌ give
value_back (counter n) h =
    let b : Back digit n (decimal n) 1 = digit_back n (omega tests) in
    record { reads = λ r e. or_else_got _ _ (code "C" ∷ (decimal n ++ r)) (counter n) r (rw (b.reads r e)); short = omega (arith, b.short) }
value_back (variable n) h =
    let b : Back two_digits n (two n) 2 = two_back n (omega tests) in
    record { reads = λ r e. or_else_bad _ _ (code "V" ∷ (two n ++ r)) refl ∙ rw (b.reads r e); short = omega (arith, b.short) }

-- a value's text is no string, and not empty
value_no_string : (v : Value) → string (value_text v) ≡ bad
unfolding value_text string bytes byte one followed when◌then◌else◌
value_no_string (counter n) = refl
value_no_string (variable n) = refl

value_no_end : {A : Type 0} (a : A) (v : Value) → ended a (value_text v) ≡ bad
unfolding value_text bytes ended
value_no_end a (counter n) = refl
value_no_end a (variable n) = refl

-- behind a string: nothing, or a value
behind_end : (s : List ℕ) → behind s [] ≡ got (text s) []
unfolding behind ended
behind_end s = or_else_got _ _ [] (text s) [] refl

behind_value : (s : List ℕ) (v : Value) → value (value_text v) ≡ got v [] → behind s (value_text v) ≡ got (joined s v) []
unfolding behind followed give
behind_value s v e = or_else_bad _ _ (value_text v) (value_no_end (text s) v) ∙ rw e

-- the content of an `A` at the end of its line
pub content_last : (c : Content) → Held (content_ranges c) → Last content c (content_text c) 205
unfolding content_ranges texts content_text content followed give
content_last (text s) h =
    let b : Back string s (quoted s) 202 = string_back 100 s (omega tests) in
    record { reads = or_else_got _ _ (quoted s) (text s) [] (rw (ends b) (behind_end s)); short = omega (arith, b.short) }
content_last (shown v) h =
    let b : Back value v (value_text v) 3 = value_back v h.0 in
    record { reads = or_else_bad _ _ (value_text v) (rw (value_no_string v)) ∙ rw (ends b); short = omega (arith, b.short) }
content_last (joined s v) h =
    let b : Back string s (quoted s) 202 = string_back 100 s (omega tests) in
    let d : Back value v (value_text v) 3 = value_back v h.1.0 in
    record {
      reads = or_else_got _ _ (quoted s ++ value_text v) (joined s v) [] (rw (string_quoted s) (behind_value s v (ends d)));
      short = rw length-append (omega (arith, b.short, d.short));
    }
