-- Each row of the table read back: the parts behind the leading letters are chained as the row's reader takes them, and the letters lead to that reader.
use Prim.Native.Nat.{ℕ, ◌+◌, ◌-◌, ◌≤◌}
use Prim.Native.Char.{code}
use mathlib.Core.Path.{◌≡◌, refl, ◌∙◌}
use mathlib.Core.Bool.{Bool, true, false, ◌&&◌, ◌||◌}
use mathlib.Core.List.{List, [], ◌∷◌, ◌++◌}
use native.Mathlib.Omega.{arith}
use lib.ListN.{length, length-append}
use lib.Dec.{leb}
use borrow.Author.Tests.{leb-true}
use Rattle.paper.specs.Byte.{bytes, when◌then◌else◌, between, every, same, decimal}
use Rattle.paper.specs.Line.{Reader, followed, give, ended, one, byte, comma, number, string, quoted}
use Rattle.paper.specs.Command.{Content, Setting, Pen, black, flip, white, size, direction, put, bar, frame, Step, counting, varying, draw, define, Filing, start, finish, inform, recall, delete, Command, empty, new, keep, file, ask, print, texts, content_ranges, setting_ranges, draw_ranges, define_ranges, is_name_byte, is_name, star, filing_ranges, ranges}
use Rattle.paper.specs.Read.{setting, size_line, direction_line, text_line, bar_line, frame_line, counter_line, variable_line, name_line, copies_of, print_line, row, table, these, shaped, body_shape, by_row, shape}
use Rattle.paper.specs.Write.{commas, two, commaed, setting_text, step_text, content_text, pen_text, draw_text, define_text, filing_text, line_text, normal}
use Rattle.paper.proofs.Law.{and_left, and_right}
use Rattle.paper.proofs.Text.{same_eq}
use Rattle.paper.proofs.Test.{Held, held_left, held_right, tests}
use Rattle.paper.proofs.Part.{Back, Last, Head, nothing, ahead, onward, ends, last, closing, before, number_back, number_below, digit_back, two_back, string_back, letter_back, font_back, step_back, content_last, or_else_bad}

-- `Q`: two numbers
size_last : (width p₁ p₂ : ℕ) → Held (draw_ranges width (size p₁ p₂))
    → Last size_line (keep (draw (size p₁ p₂))) (commas (decimal p₁ ∷ decimal p₂ ∷ [])) 11
unfolding size_line commas draw_ranges
size_last width p₁ p₂ h =
    before _ (number_back 5 p₁ (omega tests)) (closing _ (last (number_back 5 p₂ (omega tests))))

-- `Z`: a letter
direction_last : (width d : ℕ) → Held (draw_ranges width (direction d)) → Last direction_line (keep (draw (direction d))) (d ∷ []) 1
unfolding direction_line draw_ranges every between bytes
direction_last width d h = closing _ (last (letter_back (bytes "TB") d refl h.0.0))

-- the seven parameters of an `A`; x has no more digits than the width allows
pub setting_head : (width : ℕ) (s : Setting) → width ≤ 10000 → Held (setting_ranges width s)
    → Head setting s (setting_text s) (length (decimal (width - 1)) + 18)
unfolding setting setting_text commaed setting_ranges every between bytes
setting_head width s w h =
    ahead _ (number_below (width - 1) s.x (omega tests) (omega tests))
    (ahead _ (number_back 4 s.y (omega tests))
    (ahead _ (number_back 1 s.r (omega tests))
    (ahead _ (font_back 1 s.f (omega tests))
    (ahead _ (number_back 2 s.h (omega tests))
    (ahead _ (number_back 2 s.v (omega tests))
    (ahead _ (letter_back (bytes "NR") s.m refl h.1.1.1.1.1.1.0.0) (nothing s)))))))

-- `A`: these, and the content
put_last : (width : ℕ) (s : Setting) (c : Content) → width ≤ 10000 → Held (setting_ranges width s) → Held (content_ranges c)
    → Last text_line (keep (draw (put s c))) (setting_text s ++ content_text c) (length (decimal (width - 1)) + 18 + 205)
unfolding text_line
put_last width s c w h k = onward _ (setting_head width s w h) (closing _ (content_last c k))

-- `LO`, `Le` and `LW`: four numbers
bar_last : (width : ℕ) (pen : Pen) (x y w t : ℕ) → width ≤ 10000 → Held (draw_ranges width (bar pen x y w t))
    → Last (bar_line pen) (keep (draw (bar pen x y w t))) (commas (decimal x ∷ decimal y ∷ decimal w ∷ decimal t ∷ [])) 23
unfolding bar_line commas draw_ranges
bar_last width pen x y w t l h =
    before _ (number_back 5 x (omega tests))
    (before _ (number_back 5 y (omega tests))
    (before _ (number_back 5 w (omega tests)) (closing _ (last (number_back 5 t (omega tests))))))

-- `X`: five numbers
frame_last : (width x₁ y₁ t x₂ y₂ : ℕ) → width ≤ 10000 → Held (draw_ranges width (frame x₁ y₁ t x₂ y₂))
    → Last frame_line (keep (draw (frame x₁ y₁ t x₂ y₂)))
    (commas (decimal x₁ ∷ decimal y₁ ∷ decimal t ∷ decimal x₂ ∷ decimal y₂ ∷ [])) 29
unfolding frame_line commas draw_ranges
frame_last width x₁ y₁ t x₂ y₂ l h =
    before _ (number_back 5 x₁ (omega tests))
    (before _ (number_back 5 y₁ (omega tests))
    (before _ (number_back 5 t (omega tests))
    (before _ (number_back 5 x₂ (omega tests)) (closing _ (last (number_back 5 y₂ (omega tests)))))))

-- `C`: a digit, a number, a letter, a step and a prompt
counter_last : (n len l : ℕ) (by : Step) (s : List ℕ) → Held (define_ranges (counting n len l by s))
    → Last counter_line (keep (define (counting n len l by s)))
    (commas (decimal n ∷ decimal len ∷ (l ∷ []) ∷ step_text by ∷ quoted s ∷ [])) 82
unfolding counter_line commas define_ranges texts every between bytes
counter_last n len l by s h =
    before _ (digit_back n (omega tests))
    (before _ (number_back 5 len (omega tests))
    (before _ (letter_back (bytes "N") l refl h.1.1.0.0)
    (before _ (step_back by h.1.1.1.0) (closing _ (last (string_back 32 s (omega tests)))))))

-- `V`: two digits, a number, a letter and a prompt
variable_last : (n len l : ℕ) (s : List ℕ) → Held (define_ranges (varying n len l s))
    → Last variable_line (keep (define (varying n len l s))) (commas (two n ∷ decimal len ∷ (l ∷ []) ∷ quoted s ∷ [])) 77
unfolding variable_line commas define_ranges texts every between bytes
variable_last n len l s h =
    before _ (two_back n (omega tests))
    (before _ (number_back 5 len (omega tests))
    (before _ (letter_back (bytes "N") l refl h.1.1.0.0) (closing _ (last (string_back 32 s (omega tests))))))

-- a name between quotes
name_back : (s : List ℕ) → is_name s ≡ true → Back string s (quoted s) 34
unfolding is_name
name_back s e =
    let lengths : (leb 1 (length s) && leb (length s) 16) ≡ true = and_left (leb 1 (length s) && leb (length s) 16) (every is_name_byte s) e in
    string_back 16 s (leb-true (length s) 16 (and_right (leb 1 (length s)) (leb (length s) 16) lengths))

-- a name or the star between quotes
name_or_star : (s : List ℕ) → (is_name s || same s star) ≡ true → Back string s (quoted s) 34
unfolding star bytes
name_or_star s e = go (is_name s) refl
  where
    go : (t : Bool) → is_name s ≡ t → Back string s (quoted s) 34
    go true q = name_back s q
    go false q = rw (same_eq s star (rw q at e)) (string_back 16 star (omega arith))

-- `FS`, `FR` and `FK`: a name
name_last : (does : List ℕ → Filing) (s : List ℕ) → Back string s (quoted s) 34 → Last (name_line does) (file (does s)) (quoted s) 34
unfolding name_line
name_last does s b = closing _ (last b)

-- `P`: two numbers
print_last : (n c : ℕ) → n ≤ 65535 → c ≤ 65535 → Last print_line (print n c) (commas (decimal n ∷ decimal c ∷ [])) 11
unfolding print_line copies_of commas comma byte one ended followed when◌then◌else◌ every
print_last n c h l =
    let a : Back number n (decimal n) 5 = number_back 5 n (omega arith) in
    let b : Back number c (decimal c) 5 = number_back 5 c (omega arith) in
    record {
      reads = rw (a.reads (code "," ∷ decimal c) refl) (or_else_bad _ _ (code "," ∷ decimal c) refl ∙ rw (ends b));
      short = rw length-append (omega (arith, a.short, b.short));
    }

-- a normal form that is read back and has at most so many bytes
pub record Fine (c : Command) (most : ℕ) : Type 0 where
  pub reads : shape (normal c) ≡ shaped c
  pub short : length (normal c) ≤ most

-- from the parts behind the leading letters to the whole line
by_letters : {body : Reader Command} {u : List ℕ} {k : ℕ} (letters : List ℕ) (c : Command) (most : ℕ) → Last body c u k
    → normal c ≡ letters ++ u → shape (letters ++ u) ≡ body_shape (body u) → length letters + k ≤ most
    → Fine c most
unfolding body_shape
by_letters letters c most x e row l =
    record {
      reads = rw (e, row, x.reads);
      short = rw (e, length-append) (omega (arith, x.short));
    }

-- every command in range has such a normal form
pub fine : (width : ℕ) (c : Command) → width ≤ 10000 → Held (ranges width c) → Fine c (224 + length (decimal (width - 1)))
unfolding ranges draw_ranges filing_ranges normal line_text draw_text define_text filing_text pen_text bytes shape by_row table row these byte one ended followed give when◌then◌else◌ body_shape every
fine width empty w h = record { reads = refl; short = omega arith }
fine width new w h = record { reads = refl; short = omega arith }
fine width (keep (draw (size p₁ p₂))) w h = by_letters (bytes "Q") _ _ (size_last width p₁ p₂ h) refl refl (omega arith)
fine width (keep (draw (direction d))) w h = by_letters (bytes "Z") _ _ (direction_last width d h) refl refl (omega arith)
fine width (keep (draw (put s c))) w h =
    let first = held_left (setting_ranges width s) (content_ranges c) h in
    let second = held_right (setting_ranges width s) (content_ranges c) h in
    by_letters (bytes "A") _ _ (put_last width s c w first second) refl refl (omega arith)
fine width (keep (draw (bar black x y d t))) w h =
    by_letters (bytes "LO") _ _ (bar_last width black x y d t w h) refl refl (omega arith)
fine width (keep (draw (bar flip x y d t))) w h =
    by_letters (bytes "LE") _ _ (bar_last width flip x y d t w h) refl refl (omega arith)
fine width (keep (draw (bar white x y d t))) w h =
    by_letters (bytes "LW") _ _ (bar_last width white x y d t w h) refl refl (omega arith)
fine width (keep (draw (frame x₁ y₁ t x₂ y₂))) w h =
    by_letters (bytes "X") _ _ (frame_last width x₁ y₁ t x₂ y₂ w h) refl refl (omega arith)
fine width (keep (define (counting n len l by s))) w h =
    by_letters (bytes "C") _ _ (counter_last n len l by s h) refl refl (omega arith)
fine width (keep (define (varying n len l s))) w h =
    by_letters (bytes "V") _ _ (variable_last n len l s h) refl refl (omega arith)
fine width (file (start s)) w h =
    by_letters (bytes "FS") _ _ (name_last start s (name_back s h.0.0)) refl refl (omega arith)
fine width (file finish) w h = record { reads = refl; short = omega arith }
fine width (file inform) w h = record { reads = refl; short = omega arith }
fine width (file (recall s)) w h =
    by_letters (bytes "FR") _ _ (name_last recall s (name_back s h.0.0)) refl refl (omega arith)
fine width (file (delete s)) w h =
    by_letters (bytes "FK") _ _ (name_last delete s (name_or_star s h.0.0)) refl refl (omega arith)
fine width ask w h = record { reads = refl; short = omega arith }
fine width (print n c) w h =
    by_letters (bytes "P") _ _ (print_last n c (omega tests) (omega tests)) refl refl (omega arith)
