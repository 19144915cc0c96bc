-- Text is cut at its LFs into the lines it was put together from: a normal form has no LF, so commands and forms are read back from their text.
use Prim.Native.Nat.{ℕ, ◌≤◌}
use mathlib.Core.Path.{◌≡◌, refl, sym, ◌∙◌, ap}
use mathlib.Core.Bool.{Bool, true, false, ◌&&◌, ◌||◌, false≢true}
use mathlib.Core.List.{List, [], ◌∷◌, ◌++◌, map}
use mathlib.Core.Option.{some}
use native.Mathlib.Omega.{arith}
use lib.Dec.{ltb}
use borrow.Author.Tests.{ltb-false, ne_eqb}
use Rattle.paper.specs.Byte.{when◌then◌else◌, any}
use Rattle.paper.specs.Line.{lf, infront, cut, control}
use Rattle.paper.specs.Command.{FormLine, Command, keep, in_range}
use Rattle.paper.specs.Write.{line_text, normal, lines_text}
use Rattle.paper.specs.Form.{text_of}
use Rattle.paper.specs.Set.{commands_of}
use Rattle.paper.specs.State.{all_in}
use Rattle.paper.proofs.Law.{and_left, and_right}
use Rattle.paper.proofs.RoundTrip.{normal_control, read_normal}

or_left : (a b : Bool) → (a || b) ≡ false → a ≡ false
or_left true b e = e
or_left false b e = refl

or_right : (a b : Bool) → (a || b) ≡ false → b ≡ false
or_right true b e = absurd (false≢true (sym e))
or_right false b e = e

-- a text without control bytes up to an LF is the first line
pub cut_line : (s r : List ℕ) → control s ≡ false → cut (s ++ (lf ∷ r)) ≡ s ∷ cut r
unfolding cut infront control any when◌then◌else◌
cut_line [] r e = refl
cut_line (b ∷ s) r e =
    let low : 0x20 ≤ b = ltb-false b 0x20 (or_left (ltb b 0x20) (control s) e) in
    rw (ne_eqb b lf (omega arith), cut_line s r (or_right (ltb b 0x20) (control s) e))

-- commands whose normal forms have no control byte
abbrev pub NoControl : List Command → Type 0
NoControl [] = Unit
NoControl (c ∷ cs) = (control (normal c) ≡ false) × NoControl cs

-- the text of such commands is cut into their normal forms
pub cut_lines_text : (cs : List Command) → NoControl cs → cut (lines_text cs) ≡ map normal cs
unfolding lines_text cut
cut_lines_text [] h = refl
cut_lines_text (c ∷ cs) h = cut_line (normal c) (lines_text cs) h.0 ∙ ap (λ ls. normal c ∷ ls) (cut_lines_text cs h.1)

-- every command of a list is in range
unfoldable pub all_range : ℕ → List Command → Bool
all_range width [] = true
all_range width (c ∷ cs) = in_range width c && all_range width cs

range_control : (width : ℕ) (cs : List Command) → all_range width cs ≡ true → NoControl cs
unfolding all_range
range_control width [] e = tt
range_control width (c ∷ cs) e = (
  normal_control width c (and_left (in_range width c) (all_range width cs) e),
  range_control width cs (and_right (in_range width c) (all_range width cs) e),
)

-- normal forms of commands in range are read as the commands
commands_normal : (width : ℕ) (cs : List Command) → width ≤ 10000 → all_range width cs ≡ true → commands_of width (map normal cs) ≡ some cs
unfolding all_range commands_of
commands_normal width [] w e = refl
commands_normal width (c ∷ cs) w e =
    rw (
      read_normal width c w (and_left (in_range width c) (all_range width cs) e),
      commands_of,
      commands_normal width cs w (and_right (in_range width c) (all_range width cs) e),
    )

-- commands in range are read back from their text
pub commands_back : (width : ℕ) (cs : List Command) → width ≤ 10000 → all_range width cs ≡ true → commands_of width (cut (lines_text cs)) ≡ some cs
commands_back width cs w e = rw (cut_lines_text cs (range_control width cs e)) (commands_normal width cs w e)

-- lines of a form in range are commands in range
pub all_in_range : (width : ℕ) (ls : List FormLine) → all_in width ls ≡ all_range width (map keep ls)
unfolding all_in all_range
all_in_range width [] = refl
all_in_range width (l ∷ ls) = rw (all_in_range width ls)

normal_keep : (ls : List FormLine) → map normal (map keep ls) ≡ map line_text ls
unfolding normal
normal_keep [] = refl
normal_keep (l ∷ ls) = ap (λ t. line_text l ∷ t) (normal_keep ls)

-- a form's text is cut into the texts of its lines
pub lines_back : (width : ℕ) (ls : List FormLine) → all_in width ls ≡ true → cut (text_of ls) ≡ map line_text ls
unfolding text_of
lines_back width ls e =
    cut_lines_text (map keep ls) (range_control width (map keep ls) (sym (all_in_range width ls) ∙ e)) ∙ normal_keep ls

-- a form's lines are read back from its text
pub form_back : (width : ℕ) (ls : List FormLine) → width ≤ 10000 → all_in width ls ≡ true → commands_of width (cut (text_of ls)) ≡ some (map keep ls)
unfolding text_of
form_back width ls w e = commands_back width (map keep ls) w (sym (all_in_range width ls) ∙ e)
