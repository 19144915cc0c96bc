-- What a line that draws names at its end: nothing, or a value that stands behind a comma or behind its string's quote.
use mathlib.Core.Path.{◌≡◌, refl, ap}
use mathlib.Core.Bool.{Bool, true, false}
use mathlib.Core.List.{List, [], ◌∷◌, ◌++◌, append_assoc}
use Prim.Native.Nat.{ℕ, zero, suc, ◌+◌, ◌-◌, ◌≤◌}
use native.Mathlib.Omega.{arith}
use lib.ListN.{length, get_or, length-append}
use Rattle.std.specs.Prelude.{Some, None}
use Rattle.paper.specs.Byte.{bytes}
use Rattle.paper.specs.Line.{escape, quoted}
use Rattle.paper.specs.Command as P
use Rattle.paper.specs.Command.{setting_ranges, content_ranges, draw_ranges, value_range, all_of}
use Rattle.paper.specs.Write.{commas, commaed, pen_text, line_text, draw_text, setting_text, content_text, value_text}
use Rattle.paper.proofs.Test.{Passed, held, held_right}
use Rattle.command.specs.View.{width}
use Rattle.form.specs.Plan.{shows_of}
use Rattle.form.specs.Ending.{value_ending, ending_of}

-- the byte so many places before the end
abbrev pub back : List ℕ → ℕ → ℕ
back s k = get_or s (length s - k) 0

-- a byte behind a list's front
byte_behind : (u w : List ℕ) (k i : ℕ) → k ≡ length u + i → get_or (u ++ w) k 0 ≡ get_or w i 0
byte_behind [] w k i e = ap (λ x. get_or w x 0) (omega arith)
byte_behind (b ∷ u) w zero i e = absurd (omega arith)
byte_behind (b ∷ u) w (suc k) i e = byte_behind u w k i (omega arith)

-- the last bytes are those of the last part
pub back_append : (s u w : List ℕ) (k : ℕ) → s ≡ u ++ w → k ≤ length w → back s k ≡ back w k
back_append s u w k e h =
    let long = length-append u w in
    rw e (byte_behind u w (length (u ++ w) - k) (length w - k) (omega arith))

-- the byte before a value: the comma where it stands alone, and else the closing quote of its string
unfoldable pub mark : Bool → ℕ
mark true = 44
mark false = 34

-- a line that names no value
pub record Plain (d : P.Draw) : Type 0 where
  pub ending : ending_of (shows_of d) ≡ None
  pub closed : get_or (line_text (P.draw d)) 0 0 ≡ 65 → back (line_text (P.draw d)) 1 ≡ 34

-- a line that names one
pub record Names (d : P.Draw) (value : P.Value) (opens : Bool) : Type 0 where
  pub front : List ℕ
  pub is : line_text (P.draw d) ≡ (65 ∷ front) ++ (mark opens ∷ value_text value)
  pub ending : ending_of (shows_of d) ≡ Some (value_ending value opens)
  pub range : all_of (draw_ranges width d) ≡ true → Passed (value_range value)

-- each line is one of the two
pub data Naming (d : P.Draw) : Type 0 where
  plain : Plain d → Naming d
  named : (value : P.Value) (opens : Bool) → Names d value opens → Naming d

-- parts with a comma behind each end in one
commaed_ends : (part : List ℕ) (more : List (List ℕ)) → commaed (part ∷ more) ≡ commas (part ∷ more) ++ (44 ∷ [])
unfolding commaed commas
commaed_ends part [] = refl
commaed_ends part (next ∷ more) = rw (commaed_ends next more, append_assoc)

commaed_front : (part : List ℕ) (more : List (List ℕ)) → (front : List ℕ) × (commaed (part ∷ more) ≡ front ++ (44 ∷ []))
commaed_front part more = (commas (part ∷ more), commaed_ends part more)

-- and so do the parameters before a content
setting_ends : (s : P.Setting) → (front : List ℕ) × (setting_text s ≡ front ++ (44 ∷ []))
unfolding setting_text
setting_ends s = commaed_front _ _

-- a string alone
text_plain : (s : P.Setting) (t : List ℕ) → Plain (P.put s (P.text t))
unfolding ending_of line_text draw_text content_text quoted bytes shows_of
text_plain s t =
    record {
      ending = refl;
      closed = λ e. back_append (line_text (P.draw (P.put s (P.text t)))) ((65 ∷ setting_text s) ++ (34 ∷ escape t)) (34 ∷ []) 1 (rw append_assoc) (omega arith);
    }

-- a value alone
alone_names : (s : P.Setting) (value : P.Value) → Names (P.put s (P.shown value)) value true
unfolding ending_of line_text draw_text content_text quoted bytes shows_of draw_ranges content_ranges mark
alone_names s value =
    let u = setting_ends s in
    record {
      front = u.0;
      is = rw (u.1, append_assoc);
      ending = refl;
      range = λ h. (held_right (setting_ranges width s) _ (held _ h)).0;
    }

-- a value behind a string
joined_names : (s : P.Setting) (t : List ℕ) (value : P.Value) → Names (P.put s (P.joined t value)) value false
unfolding ending_of line_text draw_text content_text quoted bytes shows_of draw_ranges content_ranges mark
joined_names s t value =
    record {
      front = setting_text s ++ (34 ∷ escape t);
      is = rw (append_assoc, append_assoc);
      ending = refl;
      range = λ h. (held_right (setting_ranges width s) _ (held _ h)).1.0;
    }

-- a line that begins with another letter
other_plain : (d : P.Draw) → ending_of (shows_of d) ≡ None → (get_or (line_text (P.draw d)) 0 0 ≡ 65 → ⊥) → Plain d
other_plain d e f = record { ending = e; closed = λ h. absurd (f h) }

-- a line that draws is a text with one of the three contents, or begins with another letter
pub naming : (d : P.Draw) → Naming d
unfolding ending_of line_text draw_text pen_text bytes shows_of
naming (P.size p₁ p₂) = plain (other_plain _ refl (λ e. omega arith))
naming (P.direction d) = plain (other_plain _ refl (λ e. omega arith))
naming (P.put s (P.text t)) = plain (text_plain s t)
naming (P.put s (P.shown value)) = named value true (alone_names s value)
naming (P.put s (P.joined t value)) = named value false (joined_names s t value)
naming (P.bar P.black x y w t) = plain (other_plain _ refl (λ e. omega arith))
naming (P.bar P.flip x y w t) = plain (other_plain _ refl (λ e. omega arith))
naming (P.bar P.white x y w t) = plain (other_plain _ refl (λ e. omega arith))
naming (P.frame x₁ y₁ t x₂ y₂) = plain (other_plain _ refl (λ e. omega arith))
