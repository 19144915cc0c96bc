-- The value that a line shows at its end, and the string that is joined to it, by the rules of a sound form.
use Prim.Native.Nat.{ℕ, suc, ◌+◌, ◌-◌}
use mathlib.Core.Path.{◌≡◌, refl, sym, subst, ◌∙◌, ap}
use mathlib.Core.Bool.{Bool, true, false, not}
use mathlib.Core.List.{List, [], ◌++◌}
use native.Mathlib.Omega.{arith}
use lib.ListN.{length, get_or}
use lib.Dec.{ltb, leb}
use borrow.Author.Tests.{ltb-true, ltb-false, lt-leb, le-leb}
use Rattle.std.specs.Prelude.{Option, Some, None}
use Rattle.paper.specs.Byte.{bytes}
use Rattle.paper.specs.Line.{got, quoted, string}
use Rattle.paper.specs.Command as P
use Rattle.paper.specs.Command.{draw_ranges, setting_ranges, all, all_of}
use Rattle.paper.specs.Form.{defined, content_sound, draw_sound}
use Rattle.paper.specs.Read.{setting}
use Rattle.paper.specs.Write.{line_text, draw_text, content_text, value_text}
use Rattle.paper.proofs.Row.{setting_head}
use Rattle.paper.proofs.String.{string_quoted}
use Rattle.paper.proofs.Test.{held, held_left, either}
use Rattle.text.specs.Place.{from, said_by, quoted_at}
use Rattle.text.specs.declared.read.Parsed.{Parsed}
use Rattle.text.specs.declared.read.Span.{Span}
use Rattle.command.specs.View.{width, setting_of}
use Rattle.command.specs.declared.Setting.{Setting}
use Rattle.form.specs.Plan.{Shows, nothing, value, shows_of}
use Rattle.form.specs.Sound.{slot_of, len_noted, Agrees}
use Rattle.form.specs.declared.ending.Ending.{Ending}
use Rattle.form.proofs.Ends.{Ends, shown_range, whole_shows, value_shows}
use Rattle.form.proofs.Slots.{place_number, noted_at, shown_none, shown_some, joined_none, joined_some}
use Rattle.form.proofs.Judged.{Drawn}

-- what is said of a line in range that joins a string and a value
abbrev Joins : List ℕ → (P.Setting → List ℕ → P.Value → Type 0) → Type 0
Joins line K = (s : P.Setting) (t : List ℕ) (v : P.Value) → line ≡ line_text (P.draw (P.put s (P.joined t v))) → all_of (draw_ranges width (P.put s (P.joined t v))) ≡ true → K s t v

-- a number is the length of the string
abbrev pub Counts : List ℕ → Option ℕ → Type 0
Counts line n = Joins line (λ s t v. n ≡ Some (length t))

module _ (line : List ℕ) (a : Option (Parsed Setting)) (said : said_by setting_of line a ≡ setting (from line 1)) where
  -- the setting is read, and the string and the value are left
  setting_said : Joins line (λ s t v. said_by setting_of line a ≡ got s (quoted t ++ value_text v))
  unfolding from line_text draw_text content_text bytes draw_ranges
  setting_said s t v e g = said ∙ rw e ((setting_head width s (omega arith) (held_left (setting_ranges width s) _ (held _ g))).reads (quoted t ++ value_text v))

  pub no_setting : a ≡ None → Counts line None
  unfolding said_by
  no_setting b s t v e g = let h = rw b at (setting_said s t v e g) in cc

  module _ (p : Parsed Setting) (is : a ≡ Some p) (q : Option Span) (quotes : q ≡ quoted_at line p.next (string (from line p.next))) where
    -- and so is the string
    string_said : Joins line (λ s t v. q ≡ quoted_at line p.next (got t (value_text v)))
    unfolding said_by
    string_said s t v e g =
        let h = rw is at (setting_said s t v e g) in
        let left : from line p.next ≡ quoted t ++ value_text v = cc in
        quotes ∙ rw (left, string_quoted t)

    pub no_string : q ≡ None → Counts line None
    unfolding quoted_at
    no_string b s t v e g = let h = sym b ∙ string_said s t v e g in cc

    pub string_counts : (span : Span) → q ≡ Some span → Counts line (Some span.len)
    unfolding quoted_at
    string_counts span b s t v e g =
        let h = sym b ∙ string_said s t v e g in
        let same : span ≡ record { start = p.next + 1; end = length line - suc (length (value_text v)); len = length t } = cc in
        ap (λ (x : Span). Some x.len) same

-- what is asked of a line, by what it shows
abbrev Asks : List P.Define → P.Draw → Shows → Type 0
Asks above d nothing = draw_sound above d ≡ []
Asks above d (value true v) = draw_sound above d ≡ content_sound above (P.shown v)
Asks above d (value false v) = (s : P.Setting) × (t : List ℕ) × (d ≡ P.put s (P.joined t v))

asks : (above : List P.Define) (d : P.Draw) → Asks above d (shows_of d)
unfolding shows_of draw_sound content_sound
asks above (P.size p₁ p₂) = refl
asks above (P.direction d) = refl
asks above (P.put s (P.text t)) = refl
asks above (P.put s (P.shown v)) = refl
asks above (P.put s (P.joined t v)) = (s, t, refl)
asks above (P.bar pen x y w t) = refl
asks above (P.frame x₁ y₁ t x₂ y₂) = refl

not_long : (n : ℕ) → not (ltb 100 n) ≡ leb n 100
not_long n =
    either (ltb 100 n) (λ y. rw (y, lt-leb n 100 (ltb-true 100 n y))) (λ e. rw (e, le-leb n 100 (ltb-false 100 n e)))

-- a line that shows no value
pub whole_sound : (lens : List (Option ℕ)) (line : List ℕ) (ending : Option Ending) → ending ≡ None → Ends line ending → Drawn lens line (λ above d. true ≡ all (draw_sound above d))
unfolding all
whole_sound lens line ending w ends d above e g a =
    let is : shows_of d ≡ nothing = whole_shows (shows_of d) (sym w ∙ ends d e g) in
    let none = rw is at (asks above d) in rw none

module _ (lens : List (Option ℕ)) (line : List ℕ) (ending : Option Ending) (x : Ending) (is : ending ≡ Some x) (ends : Ends line ending) (len : Option ℕ) (known : len ≡ get_or lens x.value None) where
  -- the value that it shows, and what is noted of it
  record Value (d : P.Draw) (above : List P.Define) : Type 0 where
    v : P.Value
    shown : shows_of d ≡ value x.opens v
    noted : len_noted (defined v above) ≡ len

  shows : (d : P.Draw) (above : List P.Define) → line ≡ line_text (P.draw d) → all_of (draw_ranges width d) ≡ true → Agrees lens above → Value d above
  shows d above e g a =
      let (v, w, number) = value_shows (shows_of d) x (sym is ∙ ends d e g) in
      let place : Some x.value ≡ slot_of v = ap Some number ∙ place_number v (rw w at (shown_range d g)) in
      record { v = v; shown = w; noted = sym (noted_at lens above v x.value a place) ∙ sym known }

  -- how it is asked for
  alone : (d : P.Draw) (above : List P.Define) (w : Value d above) → x.opens ≡ true → draw_sound above d ≡ content_sound above (P.shown w.v)
  alone d above w o =
      let shown : Asks above d (value x.opens w.v) = rw w.shown at (asks above d) in
      subst (λ (b : Bool). Asks above d (value b w.v)) o shown

  joined : (d : P.Draw) (above : List P.Define) (w : Value d above) → x.opens ≡ false → (s : P.Setting) × (t : List ℕ) × (d ≡ P.put s (P.joined t w.v))
  joined d above w o =
      let shown : Asks above d (value x.opens w.v) = rw w.shown at (asks above d) in
      subst (λ (b : Bool). Asks above d (value b w.v)) o shown

  -- one that is not defined above
  pub none_sound : len ≡ None → Drawn lens line (λ above d. false ≡ all (draw_sound above d))
  unfolding draw_sound
  none_sound z d above e g a =
      let w = shows d above e g a in
      either x.opens
      (λ o. rw (alone d above w o) (shown_none above w.v (w.noted ∙ z)))
      (λ o. let (s, t, joins) = joined d above w o in rw joins (joined_none above t w.v (w.noted ∙ z)))

  module _ (n : ℕ) (some : len ≡ Some n) where
    -- one that stands alone
    pub alone_sound : x.opens ≡ true → Drawn lens line (λ above d. x.opens ≡ all (draw_sound above d))
    alone_sound o d above e g a = let w = shows d above e g a in o ∙ rw (alone d above w o) (shown_some above w.v n (w.noted ∙ some))

    -- one behind a string
    pub joins_sound : (string : Option ℕ) (r : Bool) → x.opens ≡ false → Counts line string → ((m : ℕ) → string ≡ Some m → r ≡ not (ltb 100 (m + n))) → Drawn lens line (λ above d. r ≡ all (draw_sound above d))
    unfolding draw_sound
    joins_sound string r o counts k d above e g a =
        let w = shows d above e g a in
        let (s, t, joins) = joined d above w o in
        rw joins (joined_some above t w.v n (length t) r (w.noted ∙ some) refl (k (length t) (counts s t w.v (rw joins at e) (rw joins at g)) ∙ not_long (length t + n)))
