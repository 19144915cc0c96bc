-- What the numbers of a value, a piece and a definition show: each test of the code gives its clause, and writes make one.
use Prim.Native.Nat.{ℕ, suc, ◌+◌, ◌-◌, ◌*◌, ◌/◌, ◌%◌, ◌^◌, ◌≤◌, ◌<◌}
use mathlib.Core.Path.{◌≡◌, sym, ◌∙◌, ap}
use mathlib.Core.Bool.{Bool, true, false}
use mathlib.Core.List.{List, [], ◌∷◌, ◌++◌}
use native.Mathlib.Omega.{arith}
use lib.ListN.{length, take, drop, get_or, length-append}
use lib.Dec.{leb, ltb}
use borrow.Author.Tests.{eq-eqb, ne_eqb}
use Rattle.paper.specs.Byte.{decimal}
use Rattle.paper.specs.Line.{escape}
use Rattle.paper.specs.Set.{padded}
use Rattle.paper.proofs.Law.{if_true, if_false}
use Rattle.text.specs.Write.{Writes}
use Rattle.text.proofs.Written.{Writing, writing_begins, writing_turns, writing_room, writing_ends, writes_then, writes_none, writes_length}
use Rattle.form.specs.Walk.{part_of}
use Rattle.set.specs.Fill.{shown_part, Within}
use Rattle.set.specs.Values.{count_at, four_show, value_show, Told, opening_in, behind_show, holds_in}
use Rattle.set.specs.Piece.{piece_show, PieceTold, pieces_show, PiecesTold, holds_at}

-- the shown part lies within
pub within_answers : (t : Bool) (text answers start end : ℕ) → t ≡ true → Within t text answers start end → (start ≤ end) × (end ≤ answers)
unfolding Within
within_answers t text answers start end e w = rw e at w

pub within_text : (t : Bool) (text answers start end : ℕ) → t ≡ false → Within t text answers start end → (start ≤ end) × (end ≤ text)
unfolding Within
within_text t text answers start end e w = rw e at w

pub shown_answers : (t : Bool) (text answers : List ℕ) (start end : ℕ) → t ≡ true → take (end - start) (drop start answers) ≡ shown_part t text answers start end
unfolding shown_part part_of
shown_answers t text answers start end e = rw e

pub shown_text : (t : Bool) (text answers : List ℕ) (start end : ℕ) → t ≡ false → take (end - start) (drop start text) ≡ shown_part t text answers start end
unfolding shown_part part_of
shown_text t text answers start end e = rw e

-- a counter's value, up or down
pub count_up : (kind first step i : ℕ) → kind ≡ 0 → first + i * step ≡ count_at kind first step i
unfolding count_at
count_up kind first step i e = sym (if_true _ _ _ (eq-eqb kind 0 e))

pub count_down : (kind first step i n : ℕ) → n ≡ first - i * step → (kind ≡ 0 → ⊥) → n ≡ count_at kind first step i
unfolding count_at
count_down kind first step i n e f = e ∙ sym (if_false _ _ _ (ne_eqb kind 0 f))

-- what a variable shows, and a counter
four_variable : (answers : List ℕ) (first second kind step i : ℕ) → kind ≡ 2 → four_show answers first second kind step i ≡ escape (part_of answers first second)
unfolding four_show
four_variable answers first second kind step i e = if_true _ _ _ (eq-eqb kind 2 e)

four_counter : (answers : List ℕ) (first second kind step i : ℕ) → (kind ≡ 2 → ⊥) → four_show answers first second kind step i ≡ padded second (decimal (count_at kind first step i))
unfolding four_show
four_counter answers first second kind step i n = if_false _ _ _ (ne_eqb kind 2 n)

module _ (answers values : List ℕ) (value i : ℕ) where
  module _ (e : get_or values (value * 4 + 2) 0 ≡ 2) where
    pub value_within : (text : ℕ) → Told answers values value i → Within true text (length answers) (get_or values (value * 4) 0) (get_or values (value * 4 + 1) 0)
    unfolding Within
    value_within text t = (t.shown.begins e, t.shown.ends e)

    variable_is : (text s : List ℕ) → s ≡ shown_part true text answers (get_or values (value * 4) 0) (get_or values (value * 4 + 1) 0) → value_show answers values value i ≡ escape s
    unfolding value_show shown_part
    variable_is text s q = four_variable answers _ _ _ _ i e ∙ rw q

    pub escaped_room : (text s : List ℕ) (at n : ℕ) → s ≡ shown_part true text answers (get_or values (value * 4) 0) (get_or values (value * 4 + 1) 0)
        → at + length (value_show answers values value i) ≤ n → at + length (escape s) ≤ n
    escaped_room text s at n q h = rw (variable_is text s q) at h

    pub escaped_writes : (text s old : List ℕ) (at : ℕ) (new : List ℕ) (r : ℕ) → s ≡ shown_part true text answers (get_or values (value * 4) 0) (get_or values (value * 4 + 1) 0)
        → Writes old at (escape s) new r → Writes old at (value_show answers values value i) new r
    escaped_writes text s old at new r q w = rw (variable_is text s q) w

  module _ (n : get_or values (value * 4 + 2) 0 ≡ 2 → ⊥) where
    counter_is : (m : ℕ) → m ≡ count_at (get_or values (value * 4 + 2) 0) (get_or values (value * 4) 0) (get_or values (value * 4 + 3) 0) i → value_show answers values value i ≡ padded (get_or values (value * 4 + 1) 0) (decimal m)
    unfolding value_show
    counter_is m q = four_counter answers _ _ _ _ i n ∙ rw q

    pub counted_room : (m at size : ℕ) → m ≡ count_at (get_or values (value * 4 + 2) 0) (get_or values (value * 4) 0) (get_or values (value * 4 + 3) 0) i
        → at + length (value_show answers values value i) ≤ size → at + length (padded (get_or values (value * 4 + 1) 0) (decimal m)) ≤ size
    counted_room m at size q h = rw (counter_is m q) at h

    pub counted_writes : (m : ℕ) (old : List ℕ) (at : ℕ) (new : List ℕ) (r : ℕ) → m ≡ count_at (get_or values (value * 4 + 2) 0) (get_or values (value * 4) 0) (get_or values (value * 4 + 3) 0) i
        → Writes old at (padded (get_or values (value * 4 + 1) 0) (decimal m)) new r → Writes old at (value_show answers values value i) new r
    counted_writes m old at new r q w = rw (counter_is m q) w

-- the quote that a value opens
pub opening_some : (behind : ℕ) → behind % 2 ≡ 0 → opening_in behind ≡ 34 ∷ []
unfolding opening_in
opening_some behind e = if_true _ _ _ (eq-eqb _ 0 e)

pub opening_none : (behind : ℕ) → (behind % 2 ≡ 0 → ⊥) → opening_in behind ≡ []
unfolding opening_in
opening_none behind n = if_false _ _ _ (ne_eqb _ 0 n)

pub quote_room : (behind at n : ℕ) → behind % 2 ≡ 0 → at + length (opening_in behind) ≤ n → at < n
quote_room behind at n e h = omega (arith, ap length (opening_some behind e))

pub quote_writes : (behind : ℕ) (out : List ℕ) (at : ℕ) (new : List ℕ) (r : ℕ) → behind % 2 ≡ 0 → Writes out at (34 ∷ []) new r → Writes out at (opening_in behind) new r
quote_writes behind out at new r e w = rw (opening_some behind e) w

pub opens_none : (behind : ℕ) (out : List ℕ) (at : ℕ) → (behind % 2 ≡ 0 → ⊥) → at + length (opening_in behind) ≤ length out → Writes out at (opening_in behind) out at
opens_none behind out at n h = rw (opening_none behind n) (writes_none out at (omega arith))

-- nothing behind a piece, or a value
pub none_behind : (answers values : List ℕ) (behind i : ℕ) → behind ≡ 0 → behind_show answers values behind i ≡ []
unfolding behind_show
none_behind answers values behind i e = if_true _ _ _ (eq-eqb behind 0 e)

pub behind_none : (answers values : List ℕ) (behind i : ℕ) (out : List ℕ) (at : ℕ) → behind ≡ 0 → at + length (behind_show answers values behind i) ≤ length out → Writes out at (behind_show answers values behind i) out at
behind_none answers values behind i out at e h = rw (none_behind answers values behind i e) (writes_none out at (omega arith))

pub some_behind : (answers values : List ℕ) (behind i : ℕ) → (behind ≡ 0 → ⊥) → behind_show answers values behind i ≡ opening_in behind ++ (value_show answers values ((behind - 1) / 2) i ++ (34 ∷ []))
unfolding behind_show
some_behind answers values behind i n = if_false _ _ _ (ne_eqb behind 0 n)

module _ (answers values : List ℕ) (behind i : ℕ) (old : List ℕ) (at : ℕ) (n : behind ≡ 0 → ⊥) where
  pub first_room : at + length (behind_show answers values behind i) ≤ length old → at + length (opening_in behind) ≤ length old
  first_room h = omega (arith, simp length-append at (ap length (some_behind answers values behind i n)))

  module _ (mid : List ℕ) (a : ℕ) (w : Writes old at (opening_in behind) mid a) where
    pub value_room : at + length (behind_show answers values behind i) ≤ length old → a + length (value_show answers values ((behind - 1) / 2) i) ≤ length mid
    value_room h = omega (arith, w.ends, writes_length _ _ _ _ _ w, simp length-append at (ap length (some_behind answers values behind i n)))

    module _ (late : List ℕ) (b : ℕ) (x : Writes mid a (value_show answers values ((behind - 1) / 2) i) late b) where
      pub close_room : at + length (behind_show answers values behind i) ≤ length old → b < length late
      close_room h =
          omega (arith, w.ends, x.ends, writes_length _ _ _ _ _ w, writes_length _ _ _ _ _ x, simp length-append at (ap length (some_behind answers values behind i n)))

      pub behind_writes : (new : List ℕ) (r : ℕ) → Writes late b (34 ∷ []) new r → Writes old at (behind_show answers values behind i) new r
      behind_writes new r y = rw (some_behind answers values behind i n) (writes_then _ _ _ _ _ _ _ _ w (writes_then _ _ _ _ _ _ _ _ x y))

-- a piece, and what goes behind it
module _ (text answers plan values : List ℕ) (k i : ℕ) where
  pub piece_within : PieceTold text answers plan values k i → Within false (length text) (length answers) (get_or plan (106 + k * 3) 0) (get_or plan (106 + k * 3 + 1) 0)
  unfolding Within
  piece_within t = (t.begins, t.ends)

  module _ (s : List ℕ) (q : s ≡ shown_part false text answers (get_or plan (106 + k * 3) 0) (get_or plan (106 + k * 3 + 1) 0)) where
    piece_is : piece_show text answers plan values k i ≡ s ++ behind_show answers values (get_or plan (106 + k * 3 + 2) 0) i
    unfolding piece_show shown_part
    piece_is = rw q

    pub piece_room : (at n : ℕ) → at + length (piece_show text answers plan values k i) ≤ n → at + length s ≤ n
    piece_room at n h = omega (arith, simp length-append at (ap length piece_is))

    module _ (old : List ℕ) (at : ℕ) (mid : List ℕ) (a : ℕ) (w : Writes old at s mid a) where
      pub behind_room : at + length (piece_show text answers plan values k i) ≤ length old → a + length (behind_show answers values (get_or plan (106 + k * 3 + 2) 0) i) ≤ length mid
      behind_room h = omega (arith, w.ends, writes_length _ _ _ _ _ w, simp length-append at (ap length piece_is))

      pub piece_writes : (new : List ℕ) (r : ℕ) → Writes mid a (behind_show answers values (get_or plan (106 + k * 3 + 2) 0) i) new r → Writes old at (piece_show text answers plan values k i) new r
      piece_writes new r x = rw piece_is (writes_then _ _ _ _ _ _ _ _ w x)

-- the pieces from k on are still to be written
pub record Going (text answers plan values : List ℕ) (i count : ℕ) (old : List ℕ) (at : ℕ) (new : List ℕ) (next k : ℕ) : Type 0 where
  pub writing : Writing old at (pieces_show text answers plan values i 0 count) (pieces_show text answers plan values i k (count - k)) new next
  pub inside : k ≤ count

module _ (text answers plan values : List ℕ) (i count : ℕ) (old : List ℕ) (at : ℕ) where
  pub going_begins : count ≡ get_or plan 1 0 → at + length (pieces_show text answers plan values i 0 (get_or plan 1 0)) ≤ length old → Going text answers plan values i count old at old at 0
  going_begins e h =
      let all : count - 0 ≡ count = omega arith in
      record { writing = rw all (writing_begins old at _ (rw e h)); inside = omega arith }

  module _ (new : List ℕ) (next k : ℕ) (g : Going text answers plan values i count old at new next k) where
    next_piece : k < count → pieces_show text answers plan values i k (count - k) ≡ piece_show text answers plan values k i ++ pieces_show text answers plan values i (k + 1) (count - (k + 1))
    unfolding pieces_show
    next_piece h = let one : count - k ≡ suc (count - (k + 1)) = omega arith in rw one

    pub going_room : k < count → next + length (piece_show text answers plan values k i) ≤ length new
    going_room h = writing_room old at _ _ new next (piece_show text answers plan values k i) _ g.writing (next_piece h)

    pub going_told : k < count → count ≡ get_or plan 1 0 → PiecesTold text answers plan values i → PieceTold text answers plan values k i
    going_told h e t = t.each k (omega arith)

    pub going_turns : k < count → (newer : List ℕ) (after : ℕ) → Writes new next (piece_show text answers plan values k i) newer after → Going text answers plan values i count old at newer after (k + 1)
    going_turns h newer after w = record { writing = writing_turns old at _ _ new next _ _ newer after g.writing (next_piece h) w; inside = omega arith }

    none_left : count ≤ k → pieces_show text answers plan values i k (count - k) ≡ []
    unfolding pieces_show
    none_left h = let none : count - k ≡ 0 = omega arith in rw none

    pub going_ends : count ≤ k → count ≡ get_or plan 1 0 → Writes old at (pieces_show text answers plan values i 0 (get_or plan 1 0)) new next
    going_ends h e = rw (← e) (writing_ends old at _ _ new next g.writing (none_left h))

-- whether a definition holds: a variable does, a counter by its kind
module _ (plan values : List ℕ) (k last : ℕ) where
  pub holds_variable : get_or plan (2 + k * 4) 0 ≡ 2 → true ≡ holds_at plan values k last
  unfolding holds_at holds_in
  holds_variable e = sym (if_true _ _ _ (eq-eqb _ 2 e))

  module _ (n : get_or plan (2 + k * 4) 0 ≡ 2 → ⊥) where
    pub holds_down : get_or plan (2 + k * 4) 0 ≡ 1 → leb (last * get_or plan (2 + k * 4 + 2) 0) (get_or values (get_or plan (2 + k * 4 + 3) 0 * 4) 0) ≡ holds_at plan values k last
    unfolding holds_at holds_in
    holds_down e = sym (if_false _ _ _ (ne_eqb _ 2 n) ∙ if_true _ _ _ (eq-eqb _ 1 e))

    pub holds_up : (top : ℕ) → (get_or plan (2 + k * 4) 0 ≡ 1 → ⊥) → top ≡ 10 ^ get_or plan (2 + k * 4 + 1) 0 → ltb (get_or values (get_or plan (2 + k * 4 + 3) 0 * 4) 0 + last * get_or plan (2 + k * 4 + 2) 0) top ≡ holds_at plan values k last
    unfolding holds_at holds_in
    holds_up top m e = rw e (sym (if_false _ _ _ (ne_eqb _ 2 n) ∙ if_false _ _ _ (ne_eqb _ 1 m)))
