-- The normal form of a command in range has no control byte: its digits, letters and signs are none, and the ranges keep them out of its strings.
use Prim.Native.Nat.{ℕ, ◌+◌, ◌/◌, ◌%◌, ◌<◌}
use Prim.Native.Char.{code}
use mathlib.Core.Path.{◌≡◌, refl}
use mathlib.Core.Bool.{Bool, true, false, ◌&&◌, ◌||◌, false≢true}
use mathlib.Core.List.{List}
use native.Mathlib.Omega.{arith}
use lib.ListN.{length}
use lib.Dec.{leb}
use borrow.Author.Tests.{le-leb, leb-false, lt-leb, ne_eqb}
use Rattle.paper.specs.Byte.{bytes, between, every, any, among, same, decimal}
use Rattle.paper.specs.Line.{is_digit, quoted}
use Rattle.paper.specs.Command.{Value, counter, variable, Content, text, shown, joined, Pen, black, flip, white, Draw, size, direction, put, bar, frame, Step, up, down, Define, counting, varying, draw, define, Filing, start, finish, inform, recall, delete, Command, empty, new, keep, file, ask, print, is_shown, texts, content_ranges, setting_ranges, draw_ranges, define_ranges, is_name_byte, is_name, star, filing_ranges, ranges}
use Rattle.paper.specs.Write.{commas, commaed, setting_text, two, value_text, content_text, pen_text, step_text, draw_text, define_text, filing_text, line_text, normal}
use Rattle.paper.proofs.Law.{and_right}
use Rattle.paper.proofs.Text.{every_append, every_weaker, clear, clear_between, among_every, same_eq}
use Rattle.paper.proofs.Test.{Passed, Held}
use Rattle.paper.proofs.Number.{digits_decimal}
use Rattle.paper.proofs.String.{quoted_clear}

-- the parts without strings: digits, two digits, a value, a step, a pen
clear_decimal : (n : ℕ) → every clear (decimal n) ≡ true
unfolding is_digit
clear_decimal n = clear_between (code "0") (code "9") (omega arith) (decimal n) (digits_decimal n)

clear_two : (n : ℕ) → every clear (two n) ≡ true
unfolding two every
clear_two n = rw (le-leb 0x20 (48 + n / 10) (omega arith), le-leb 0x20 (48 + n % 10) (omega arith))

clear_value : (v : Value) → every clear (value_text v) ≡ true
unfolding value_text bytes every
clear_value (counter n) = clear_decimal n
clear_value (variable n) = clear_two n

clear_step : (s : Step) → every clear (step_text s) ≡ true
unfolding step_text bytes every
clear_step (up n) = clear_decimal n
clear_step (down n) = clear_decimal n

clear_pen : (p : Pen) → every clear (pen_text p) ≡ true
unfolding pen_text bytes every
clear_pen black = refl
clear_pen flip = refl
clear_pen white = refl

-- a string in the range of its parameter, and the content of an `A`
clear_texts : (most : ℕ) (s : List ℕ) → Passed (texts most s) → every clear (quoted s) ≡ true
unfolding texts is_shown
clear_texts most s h = quoted_clear s (clear_between 0x20 0xff (omega arith) s h.1.0)

clear_content : (c : Content) → Held (content_ranges c) → every clear (content_text c) ≡ true
unfolding content_ranges content_text
clear_content (text s) h = clear_texts 100 s h.0
clear_content (shown v) h = clear_value v
clear_content (joined s v) h = rw (every_append, clear_texts 100 s h.0, clear_value v)

-- a byte of a name is no control byte
name_byte : (b : ℕ) → is_name_byte b ≡ true → clear b ≡ true
unfolding is_name_byte is_digit between among any bytes
name_byte b e = go (leb 0x20 b) refl
  where
    go : (t : Bool) → leb 0x20 b ≡ t → clear b ≡ true
    go true q = q
    go false q =
        let l : b < 0x20 = leb-false 0x20 b q in
        absurd
        (false≢true
        (rw (lt-leb 65 b (omega arith), lt-leb 97 b (omega arith), lt-leb 48 b (omega arith), ne_eqb b 45 (omega arith), ne_eqb b 95 (omega arith)) at e))

-- a name between quotes
clear_name : (s : List ℕ) → is_name s ≡ true → every clear (quoted s) ≡ true
unfolding is_name
clear_name s e = quoted_clear s (every_weaker is_name_byte clear name_byte s (and_right (leb 1 (length s) && leb (length s) 16) (every is_name_byte s) e))

-- a name or the star between quotes
clear_name_or_star : (s : List ℕ) → (is_name s || same s star) ≡ true → every clear (quoted s) ≡ true
unfolding star bytes every
clear_name_or_star s e = go (is_name s) refl
  where
    go : (t : Bool) → is_name s ≡ t → every clear (quoted s) ≡ true
    go true q = clear_name s q
    go false q = rw (same_eq s star (rw q at e)) (quoted_clear star refl)

-- the lines of each kind
clear_draw : (width : ℕ) (d : Draw) → Held (draw_ranges width d) → every clear (draw_text d) ≡ true
unfolding draw_ranges setting_ranges draw_text setting_text commaed commas bytes every
clear_draw width (size p₁ p₂) h = simp (every_append, clear_decimal)
clear_draw width (direction d) h = rw (among_every clear (bytes "TB") d refl h.0.0)
clear_draw width (put s c) h =
    simp (every_append, clear_decimal, among_every clear (bytes "NR") s.m refl h.1.1.1.1.1.1.0.0, clear_content c h.1.1.1.1.1.1.1)
clear_draw width (bar pen x y w t) h = simp (every_append, clear_pen, clear_decimal)
clear_draw width (frame x₁ y₁ t x₂ y₂) h = simp (every_append, clear_decimal)

clear_define : (d : Define) → Held (define_ranges d) → every clear (define_text d) ≡ true
unfolding define_ranges define_text commas bytes every
clear_define (counting n len l by s) h =
    simp (every_append, clear_decimal, clear_step, among_every clear (bytes "N") l refl h.1.1.0.0, clear_texts 32 s h.1.1.1.1.0)
clear_define (varying n len l s) h =
    simp (every_append, clear_decimal, clear_two, among_every clear (bytes "N") l refl h.1.1.0.0, clear_texts 32 s h.1.1.1.0)

clear_filing : (f : Filing) → Held (filing_ranges f) → every clear (filing_text f) ≡ true
unfolding filing_ranges filing_text bytes every
clear_filing (start s) h = clear_name s h.0.0
clear_filing finish h = refl
clear_filing inform h = refl
clear_filing (recall s) h = clear_name s h.0.0
clear_filing (delete s) h = clear_name_or_star s h.0.0

-- every byte of a normal form is 20H or more
pub normal_clear : (width : ℕ) (c : Command) → Held (ranges width c) → every clear (normal c) ≡ true
unfolding ranges normal line_text commas bytes every
normal_clear width empty h = refl
normal_clear width new h = refl
normal_clear width (keep (draw d)) h = clear_draw width d h
normal_clear width (keep (define d)) h = clear_define d h
normal_clear width (file f) h = clear_filing f h
normal_clear width ask h = refl
normal_clear width (print n c) h = simp (every_append, clear_decimal)
