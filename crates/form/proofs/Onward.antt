-- A plan line by line: what is noted of the lines before a place, and what a line more does.
use Prim.Native.Nat.{ℕ, ◌+◌, ◌-◌, ◌^◌, ◌≤◌, ◌<◌}
use mathlib.Core.Path.{◌≡◌, refl, sym, ◌∙◌, ap}
use mathlib.Core.Bool.{Bool, true, false}
use mathlib.Core.List.{List, [], ◌∷◌, ◌++◌, append_assoc}
use native.Mathlib.Omega.{arith}
use lib.ListN.{length, length-append}
use lib.Dec.{eqb}
use Rattle.std.specs.Prelude.{Option, Some, None}
use Rattle.paper.specs.Byte.{bytes}
use Rattle.paper.specs.Line.{quote, escape, quoted}
use Rattle.paper.specs.Command as P
use Rattle.paper.specs.Command.{FormLine, ranges, in_range}
use Rattle.paper.specs.Form.{text_of, asked, value_of}
use Rattle.paper.specs.State.{all_in}
use Rattle.paper.specs.Write.{line_text, draw_text, define_text, content_text, setting_text, value_text}
use Rattle.text.specs.Place.{from}
use Rattle.command.specs.View.{width}
use Rattle.form.specs.Asked.{define_of, line_of}
use Rattle.form.specs.Walk.{first_line}
use Rattle.form.specs.Plan.{number_of, Shows, nothing, value, shows_of, gives_way, Piece, unless_none, if_value, opens_at, pieces}
use Rattle.form.specs.Ending.{value_ending, ending_of, tail_of, number_in}
use Rattle.form.specs.Noting.{DrawnRoom, GapRoom, DrawnNoted, GapNoted, Going, Walking, Walked}
use Rattle.form.specs.declared.asked.Define.{Define}
use Rattle.form.specs.declared.ending.Ending.{Ending}
use Rattle.form.proofs.Lines.{Tells, First, line_first}
use Rattle.form.proofs.Ends.{Ends, Shown, shown_range}
use Rattle.form.proofs.LastBytes.{counter_few, variable_few, counter_text, variable_text}
use Rattle.form.proofs.Distinct.{small, number_below}
use Rattle.form.proofs.Memory.{piece_room}

-- a piece or none before others
unless_then : (t : Bool) (p : Piece) (ps : List Piece) → unless_none t p ps ≡ unless_none t p [] ++ ps
unfolding unless_none
unless_then true p ps = refl
unless_then false p ps = refl

if_then : (s : Shows) (p : Piece) (ps : List Piece) → if_value s p ps ≡ if_value s p [] ++ ps
unfolding if_value
if_then nothing p ps = refl
if_then (value alone v) p ps = refl

unless_one : (t : Bool) (p : Piece) → length (unless_none t p []) ≤ 1
unfolding unless_none
unless_one true p = omega arith
unless_one false p = omega arith

if_one : (s : Shows) (p : Piece) → length (if_value s p []) ≤ 1
unfolding if_value
if_one nothing p = omega arith
if_one (value alone v) p = omega arith

-- its bytes are as many as its ending says
tail_is : (s : Shows) → Shown s → tail_of (ending_of s) ≡ length (gives_way s)
unfolding ending_of value_ending tail_of gives_way
tail_is nothing h = refl
tail_is (value true (P.counter n)) h = rw (counter_text n (counter_few n h))
tail_is (value false (P.counter n)) h = rw (counter_text n (counter_few n h))
tail_is (value true (P.variable n)) h = rw (variable_text n)
tail_is (value false (P.variable n)) h = rw (variable_text n)

number_is : (s : Shows) → Shown s → number_in (ending_of s) < 26
unfolding ending_of value_ending number_in
number_is nothing h = omega arith
number_is (value true (P.counter n)) h = omega (arith, counter_few n h)
number_is (value false (P.counter n)) h = omega (arith, counter_few n h)
number_is (value true (P.variable n)) h = omega (arith, variable_few n h)
number_is (value false (P.variable n)) h = omega (arith, variable_few n h)

end_fits : (u v w : List ℕ) → w ≡ u ++ v → length v ≤ length w
end_fits u v w e = omega (arith, ap length e, length-append u v)

-- they are bytes of the line
gives_inside : (d : P.Draw) → length (gives_way (shows_of d)) ≤ length (draw_text d)
unfolding shows_of gives_way draw_text content_text quoted bytes
gives_inside (P.size p₁ p₂) = omega arith
gives_inside (P.direction d) = omega arith
gives_inside (P.put s (P.text t)) = omega arith
gives_inside (P.put s (P.shown v)) = end_fits (bytes "A" ++ setting_text s) (value_text v) (draw_text (P.put s (P.shown v))) (sym (append_assoc (bytes "A") (setting_text s) (value_text v)))
gives_inside (P.put s (P.joined t v)) = end_fits (bytes "A" ++ (setting_text s ++ (quote ∷ escape t))) (quote ∷ value_text v) (draw_text (P.put s (P.joined t v))) (simp append_assoc)
gives_inside (P.bar pen x y w t) = omega arith
gives_inside (P.frame x₁ y₁ t x₂ y₂) = omega arith

-- a definition in range is of a value that there is
define_small : (d : P.Define) → in_range width (P.keep (P.define d)) ≡ true → number_of (value_of d) < 26
unfolding in_range ranges
define_small d i = number_below (value_of d) (small d i)

cons_tail : {x y : FormLine} {xs ys : List FormLine} → x ∷ xs ≡ y ∷ ys → xs ≡ ys
cons_tail e = cc

-- a line ends in the text
pub end_within : (plan : List ℕ) (start at : ℕ) (bytes : List ℕ) → Walking plan start at bytes → at + length bytes + 1 < 2 ^ 64
end_within plan start at bytes w =
    let g = w.going in
    let t = line_first w.text at g.left bytes g.here g.inside w.before w.stands in
    omega (arith, t.within, w.fits)

module _ (old : List ℕ) (start at : ℕ) (bytes : List ℕ) (told : Option Define) (tells : Tells bytes told) where
  -- the line at the place
  turn : (text : List ℕ) (ls : List FormLine) (g : Going ls text old start at) → at < length text → bytes ≡ first_line (from text at) → First text at g.left bytes
  turn text ls g b e = line_first text at g.left bytes g.here g.inside b e

  module _ (other : told ≡ None) (ending : Option Ending) (ends : Ends bytes ending) where
    -- it draws
    record Draws (rest : List FormLine) : Type 0 where
      draw : P.Draw
      more : List FormLine
      is : rest ≡ P.draw draw ∷ more
      long : length bytes ≡ length (draw_text draw)
      ending_is : ending ≡ ending_of (shows_of draw)
      shown : Shown (shows_of draw)

    draws : (rest : List FormLine) (l : FormLine) (more : List FormLine) → rest ≡ l ∷ more → bytes ≡ line_text l → in_range width (P.keep l) ≡ true → Draws rest
    unfolding line_text in_range ranges line_of
    draws rest (P.draw d) more is s i = record { draw = d; more = more; is = is; long = ap length s; ending_is = ends d s i; shown = shown_range d i }
    draws rest (P.define d) more is s i = let defines = tells (P.define d) s i in cc

    drawn : {text : List ℕ} {rest : List FormLine} (t : First text at rest bytes) → Draws rest
    drawn t = draws _ t.line t.more t.is t.stands t.range

    pub drawn_room : Walking old start at bytes → DrawnRoom old ending (at + length bytes)
    drawn_room w =
        let g = w.going in
        let d = drawn (turn w.text w.lines g w.before w.stands) in
        let tail = ap tail_of d.ending_is ∙ tail_is (shows_of d.draw) d.shown in
        record {
          room = piece_room g.defines g.done old g.holds (omega (arith, g.short));
          inside = omega (arith, tail, gives_inside d.draw, d.long);
          small = omega (arith, ap number_in d.ending_is, number_is (shows_of d.draw) d.shown);
        }

    pub drawn_walks : (new : List ℕ) (r : ℕ) → DrawnNoted old ending start (at + length bytes) new r → Walked old start at bytes new r
    unfolding pieces asked
    drawn_walks new r n = record { goes = goes }
      where
        goes : (text : List ℕ) (ls : List FormLine) → Going ls text old start at → at < length text → bytes ≡ first_line (from text at) → Going ls text new r (at + length bytes + 1)
        goes text ls g b e =
            let t = turn text ls g b e in
            let d = drawn t in
            let s = shows_of d.draw in
            let end = at + length bytes in
            let tail = ap tail_of d.ending_is ∙ tail_is s d.shown in
            let piece : Piece = record { start = start; end = end - length (gives_way s); behind = s } in
            let same : t.more ≡ d.more = cons_tail (sym t.is ∙ d.is) in
            let ends_at : end - length (gives_way s) ≡ at + (length (draw_text d.draw) - length (gives_way s)) = omega (arith, d.long, gives_inside d.draw) in
            let next : end + 1 ≡ at + (length (draw_text d.draw) + 1) = omega (arith, d.long) in
            let opens : r ≡ opens_at s start (at + length (draw_text d.draw)) = n.opens s d.ending_is ∙ ap (λ x. opens_at s start (at + x)) d.long in
            record {
              left = d.more;
              defines = g.defines;
              done = g.done ++ if_value s piece [];
              here = t.after ∙ ap text_of same;
              within = t.within;
              inside = ap (all_in width) (sym same) ∙ t.below;
              holds = n.noted g.defines g.done s g.holds (omega (arith, g.short)) d.ending_is tail;
              asks = g.asks ∙ ap (λ x. g.defines ++ asked x) d.is;
              cuts = g.cuts ∙ ap (λ x. g.done ++ pieces start at x) d.is ∙ rw (next, opens, ends_at, append_assoc, ← if_then);
              few = g.few;
              short = omega (arith, g.short, ap length d.is, length-append g.done (if_value s piece []), if_one s piece);
            }

  module _ (define : Define) (is : told ≡ Some define) where
    -- it defines
    record Defines (rest : List FormLine) : Type 0 where
      what : P.Define
      more : List FormLine
      is_one : rest ≡ P.define what ∷ more
      long : length bytes ≡ length (define_text what)
      told_so : define ≡ define_of what
      small : number_of (value_of what) < 26

    defines : (rest : List FormLine) (l : FormLine) (more : List FormLine) → rest ≡ l ∷ more → bytes ≡ line_text l → in_range width (P.keep l) ≡ true → Defines rest
    unfolding line_text line_of
    defines rest (P.draw d) more q s i = let other = tells (P.draw d) s i in cc
    defines rest (P.define d) more q s i =
        let same : Some define ≡ Some (define_of d) = sym is ∙ tells (P.define d) s i in
        record { what = d; more = more; is_one = q; long = ap length s; told_so = cc; small = define_small d i }

    defined : {text : List ℕ} {rest : List FormLine} (t : First text at rest bytes) → Defines rest
    defined t = defines _ t.line t.more t.is t.stands t.range

    -- a definition more is one that the form asks for
    room_more : (text : List ℕ) (ls : List FormLine) (g : Going ls text old start at) → Defines g.left → length g.defines < 26
    unfolding asked
    room_more text ls g d =
        let all = ap length (g.asks ∙ ap (λ x. g.defines ++ asked x) d.is_one) in
        omega (arith, g.few, all, length-append g.defines (d.what ∷ asked d.more))

    pub gap_room : Walking old start at bytes → GapRoom old define
    gap_room w =
        let g = w.going in
        let d = defined (turn w.text w.lines g w.before w.stands) in
        record {
          told = record { what = d.what; is = d.told_so; small = d.small };
          defines = g.defines;
          pieces = g.done;
          holds = g.holds;
          few = room_more w.text w.lines g d;
          short = omega (arith, g.short);
        }

    pub gap_walks : (new : List ℕ) → GapNoted old define start at new → Walked old start at bytes new (at + length bytes + 1)
    unfolding pieces asked
    gap_walks new n = record { goes = goes }
      where
        goes : (text : List ℕ) (ls : List FormLine) → Going ls text old start at → at < length text → bytes ≡ first_line (from text at) → Going ls text new (at + length bytes + 1) (at + length bytes + 1)
        goes text ls g b e =
            let t = turn text ls g b e in
            let d = defined t in
            let piece : Piece = record { start = start; end = at; behind = nothing } in
            let same : t.more ≡ d.more = cons_tail (sym t.is ∙ d.is_one) in
            let next : at + length bytes + 1 ≡ at + (length (define_text d.what) + 1) = omega (arith, d.long) in
            record {
              left = d.more;
              defines = g.defines ++ (d.what ∷ []);
              done = g.done ++ unless_none (eqb start at) piece [];
              here = t.after ∙ ap text_of same;
              within = t.within;
              inside = ap (all_in width) (sym same) ∙ t.below;
              holds = n.noted g.defines g.done d.what g.holds (room_more text ls g d) (omega (arith, g.short)) d.told_so;
              asks = g.asks ∙ ap (λ x. g.defines ++ asked x) d.is_one ∙ sym (append_assoc g.defines (d.what ∷ []) (asked d.more));
              cuts = g.cuts ∙ ap (λ x. g.done ++ pieces start at x) d.is_one ∙ rw (next, append_assoc, ← unless_then);
              few = g.few;
              short = omega (arith, g.short, ap length d.is_one, length-append g.done (unless_none (eqb start at) piece []), unless_one (eqb start at) piece);
            }
