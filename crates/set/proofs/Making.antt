-- A set is the pieces of its form's text, each with what goes behind it. A place in the text is taken as a cut of it in three: what is
-- over, what has begun and is still open, and the lines to come. Each line moves the two seams, and a piece is what has begun.
use Prim.Native.Nat.{ℕ, ◌+◌, ◌-◌}
use mathlib.Core.Path.{◌≡◌, refl, sym, ◌∙◌, ap}
use mathlib.Core.Bool.{true, false}
use mathlib.Core.List.{List, [], ◌∷◌, ◌++◌, append_assoc, append-nil}
use native.Mathlib.Omega.{arith}
use lib.ListN.{length, length-append}
use lib.Seq.{take-append_seam, drop-append_seam}
use lib.Dec.{eqb}
use borrow.Author.Tests.{eqb-true}
use Rattle.paper.specs.Byte.{bytes}
use Rattle.paper.specs.Line.{quote, lf, escape, quoted}
use Rattle.paper.specs.Command as P
use Rattle.paper.specs.Command.{FormLine}
use Rattle.paper.specs.Write.{content_text, setting_text, draw_text, define_text, line_text, normal, lines_text}
use Rattle.paper.specs.Form.{text_of, asked}
use Rattle.paper.specs.Set.{value_in, filled, placed, drawn, set_lines, set_of}
use Rattle.paper.proofs.Test.{either}
use Rattle.text.proofs.Content.{escape_append}
use Rattle.form.specs.Walk.{part_of}
use Rattle.form.specs.Plan.{Shows, nothing, value, shows_of, gives_way, Piece, unless_none, if_value, opens_at, past, pieces}
use Rattle.set.specs.Made.{opening_of, behind_text, pieces_text}

-- the text falls into what is over, what has begun at a place and goes up to another, and the rest
record Cut (text : List ℕ) (start at : ℕ) (begun rest : List ℕ) : Type 0 where
  over : List ℕ
  whole : text ≡ over ++ (begun ++ rest)
  starts : start ≡ length over
  stands : at ≡ length over + length begun

no_length : (s : List ℕ) → length s ≡ 0 → s ≡ []
no_length [] e = refl
no_length (b ∷ s) e = absurd (omega (arith, e))

module _ (text : List ℕ) (start at : ℕ) (begun : List ℕ) where
  -- what has begun is the part between the places
  part_begun : (rest : List ℕ) → Cut text start at begun rest → part_of text start at ≡ begun
  unfolding part_of
  part_begun rest c =
      let size : length c.over + length begun - length c.over ≡ length begun = omega arith in
      rw (c.whole, c.starts, c.stands, size, drop-append_seam, take-append_seam)

  none_begun : (rest : List ℕ) → Cut text start at begun rest → start ≡ at → begun ≡ []
  none_begun rest c e = no_length begun (omega (arith, c.starts, c.stands, e))

  -- the second seam moves behind the first bytes of the rest
  grows : (more rest : List ℕ) (next : ℕ) → next ≡ at + length more → Cut text start at begun (more ++ rest) → Cut text start next (begun ++ more) rest
  grows more rest next e c =
      record {
        over = c.over;
        whole = c.whole ∙ ap (λ s. c.over ++ s) (sym (append_assoc begun more rest));
        starts = c.starts;
        stands = omega (arith, e, c.stands, length-append begun more);
      }

  -- the first seam moves up to the second
  renews : (rest : List ℕ) → Cut text start at begun rest → Cut text at at [] rest
  renews rest c =
      record {
        over = c.over ++ begun;
        whole = c.whole ∙ sym (append_assoc c.over begun rest);
        starts = c.stands ∙ sym (length-append c.over begun);
        stands = omega (arith, c.stands, length-append c.over begun);
      }

  -- behind a line and its LF
  line_over : (l : FormLine) (ls : List FormLine) → Cut text start at begun (text_of (l ∷ ls)) → Cut text start (past at (line_text l)) (begun ++ (line_text l ++ (lf ∷ []))) (text_of ls)
  unfolding text_of lines_text normal
  line_over l ls c =
      let same : text_of (l ∷ ls) ≡ (line_text l ++ (lf ∷ [])) ++ text_of ls = sym (append_assoc (line_text l) (lf ∷ []) (text_of ls)) in
      grows (line_text l ++ (lf ∷ [])) (text_of ls) _ (omega (arith, length-append (line_text l) (lf ∷ []))) (rw same at c)

-- a line that draws has a head that every set keeps; behind it goes what it shows, where the form has the bytes that give way
record Parted (d : P.Draw) (s : Shows) : Type 0 where
  head : List ℕ
  written : draw_text d ≡ head ++ gives_way s
  shown : (values : P.Value → List ℕ) → draw_text (placed values d) ≡ head ++ behind_text values s

-- one that shows nothing is its own head
unparted : (d : P.Draw) → ((values : P.Value → List ℕ) → placed values d ≡ d) → Parted d nothing
unfolding gives_way behind_text
unparted d same =
    record { head = draw_text d; written = sym (append-nil (draw_text d)); shown = λ values. ap draw_text (same values) ∙ sym (append-nil (draw_text d)) }

-- of a text its content decides
content_parted : (setting : P.Setting) (c : P.Content) (s : Shows) (front : List ℕ) → content_text c ≡ front ++ gives_way s
    → ((values : P.Value → List ℕ) → quoted (filled values c) ≡ front ++ behind_text values s) → Parted (P.put setting c) s
unfolding draw_text placed content_text
content_parted setting c s front is fills =
    record {
      head = bytes "A" ++ (setting_text setting ++ front);
      written = rw is (simp append_assoc);
      shown = λ values. rw (fills values) (simp append_assoc);
    }

parted : (d : P.Draw) → Parted d (shows_of d)
unfolding shows_of placed filled content_text quoted gives_way behind_text opening_of
parted (P.size p₁ p₂) = unparted _ (λ values. refl)
parted (P.direction d) = unparted _ (λ values. refl)
parted (P.put s (P.text t)) = unparted _ (λ values. refl)
parted (P.put s (P.shown v)) = content_parted s (P.shown v) (value true v) [] refl (λ values. refl)
parted (P.put s (P.joined t v)) = content_parted s (P.joined t v) (value false v) (quote ∷ escape t) (simp append_assoc) (λ values. rw escape_append (simp append_assoc))
parted (P.bar pen x y w t) = unparted _ (λ values. refl)
parted (P.frame x₁ y₁ t x₂ y₂) = unparted _ (λ values. refl)

-- three parts before two lists that are known together
joins : (a b c x t y : List ℕ) → x ++ t ≡ y → ((a ++ b) ++ (c ++ x)) ++ t ≡ a ++ ((b ++ c) ++ y)
joins a b c x t y e = rw (← e) (simp append_assoc)

module _ (values : P.Value → List ℕ) (text : List ℕ) (last : List P.Command) where
  -- the pieces of the lines to come, and the commands behind them, are what has begun and the set's lines
  abbrev Yields : (start at : ℕ) (begun : List ℕ) → List FormLine → Type 0
  Yields start at begun ls = pieces_text values text (pieces start at ls) ++ lines_text last ≡ begun ++ lines_text (drawn values ls ++ last)

  -- a piece that is closed with nothing behind it
  closes : (start at : ℕ) (begun rest : List ℕ) (ps : List Piece) → Cut text start at begun rest
      → pieces_text values text (unless_none (eqb start at) (record { start = start; end = at; behind = nothing }) ps) ≡ begun ++ pieces_text values text ps
  unfolding pieces_text unless_none behind_text
  closes start at begun rest ps c =
      either (eqb start at) (λ y. rw (y, none_begun text start at begun rest c (eqb-true start at y))) (λ n. rw (n, part_begun text start at begun rest c))

  -- a line that draws: it joins what has begun, or its value ends it
  draws : (d : P.Draw) (ls : List FormLine) (start at : ℕ) (begun : List ℕ) → Cut text start at begun (text_of (P.draw d ∷ ls))
      → ((from : ℕ) (s : List ℕ) → Cut text from (past at (draw_text d)) s (text_of ls) → Yields from (past at (draw_text d)) s ls)
      → Yields start at begun (P.draw d ∷ ls)
  unfolding pieces_text pieces if_value opens_at drawn text_of lines_text normal line_text gives_way behind_text
  draws d ls start at begun c below = by_shows (shows_of d) refl (parted d)
    where
      by_shows : (s : Shows) → shows_of d ≡ s → Parted d s → Yields start at begun (P.draw d ∷ ls)
      by_shows nothing q p =
          rw (q, below start _ (line_over text start at begun (P.draw d) ls c), p.shown values ∙ sym p.written) (simp append_assoc)
      by_shows (value alone v) q p =
          let end = at + length (draw_text d) in
          let size : length (draw_text d) - length (gives_way (value alone v)) ≡ length p.head = rw (p.written, length-append) (omega arith) in
          let line : text_of (P.draw d ∷ ls) ≡ p.head ++ (gives_way (value alone v) ++ (lf ∷ text_of ls)) = rw p.written (append_assoc p.head _ _) in
          let piece = part_begun text start (at + length p.head) _ _ (grows text start at begun p.head _ _ refl (rw line at c)) in
          let ended = renews text start end _ _ (grows text start at begun (draw_text d) (lf ∷ text_of ls) end refl c) in
          let feed = below end (lf ∷ []) (grows text end end [] (lf ∷ []) (text_of ls) _ (omega arith) ended) in
          rw (q, size, piece, p.shown values) (joins begun p.head _ _ (lines_text last) _ feed)

  yields : (ls : List FormLine) (start at : ℕ) (begun : List ℕ) → Cut text start at begun (text_of ls) → Yields start at begun ls
  unfolding pieces_text pieces drawn line_text
  yields [] start at begun c = rw (closes start at begun _ [] c) (append_assoc begun [] _)
  yields (P.define d ∷ ls) start at begun c =
      let next = past at (define_text d) in
      let anew = renews text start next _ (text_of ls) (line_over text start at begun (P.define d) ls c) in
      rw (closes start at begun _ (pieces next next ls) c) (append_assoc begun _ _ ∙ ap (λ s. begun ++ s) (yields ls next next [] anew))
  yields (P.draw d ∷ ls) start at begun c = draws d ls start at begun c (λ from s k. yields ls from _ s k)

-- a set: `N`, the pieces from the form's first byte on, and `P1,c`
pub set_in_pieces : (ls : List FormLine) (given : List (List ℕ)) (copies i : ℕ)
    → set_of ls given copies i ≡ bytes "N\n" ++ (pieces_text (value_in (asked ls) given i) (text_of ls) (pieces 0 0 ls) ++ lines_text (P.print 1 copies ∷ []))
unfolding set_of set_lines lines_text normal bytes
set_in_pieces ls given copies i =
    let first : Cut (text_of ls) 0 0 [] (text_of ls) = record { over = []; whole = refl; starts = refl; stands = refl } in
    rw (yields (value_in (asked ls) given i) (text_of ls) (P.print 1 copies ∷ []) ls 0 0 [] first)
