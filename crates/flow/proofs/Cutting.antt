-- Taking input in is splitting the whole of it: a line that ends is the first line of what waited and the rest, whatever
-- pieces the input came in.
use mathlib.Core.Path.{◌≡◌, refl, ◌∙◌, ap}
use mathlib.Core.Bool.{Bool, true, false, not}
use mathlib.Core.List.{List, [], ◌∷◌, ◌++◌, append_assoc, append-nil}
use Prim.Native.Nat.{ℕ, suc, ◌+◌, ◌-◌, ◌≤◌, ◌<◌}
use native.Mathlib.Omega.{arith}
use lib.ListN.{length, drop, take, length-drop}
use lib.Seq.{drop-drop, take_at, take_all}
use lib.Dec.{eqb, ltb}
use borrow.Author.Tests.{not-true, eqb-true, ltb-true, ltb-false}
use Rattle.paper.specs.Byte.{when◌then◌else◌, every}
use Rattle.paper.specs.Line.{lf, is_dropped, kept, infront, cut}
use Rattle.paper.proofs.Law.{if_true, if_false, and_left, and_right}
use Rattle.paper.proofs.Test.{either}
use Rattle.paper.proofs.Text.{every_append}
use Rattle.text.specs.Place.{from}
use Rattle.form.specs.Walk.{first_line}
use Rattle.form.proofs.Lines.{first_short}
use Rattle.flow.specs.Feed.{line, feed}

-- a byte that does not end a line
abbrev pub inside : ℕ → Bool
inside b = not (eqb b lf)

-- a text without LF, before an LF, is the first line
pub cut_at : (w x : List ℕ) → every inside w ≡ true → cut (w ++ (lf ∷ x)) ≡ w ∷ cut x
unfolding cut infront every when◌then◌else◌
cut_at [] x e = refl
cut_at (b ∷ w) x e =
    rw (not-true (eqb b lf) (and_left (inside b) (every inside w) e), cut_at w x (and_right (inside b) (every inside w) e))

-- and without an LF there is no line
pub cut_none : (w : List ℕ) → every inside w ≡ true → cut w ≡ []
unfolding cut infront every when◌then◌else◌
cut_none [] e = refl
cut_none (b ∷ w) e =
    rw (not-true (eqb b lf) (and_left (inside b) (every inside w) e), cut_none w (and_right (inside b) (every inside w) e))

-- a byte that is not dropped stays
pub kept_other : (b : ℕ) (s : List ℕ) → is_dropped b ≡ false → kept (b ∷ s) ≡ b ∷ kept s
unfolding kept
kept_other b s e = if_false _ _ _ e

-- and one that is does not
pub kept_dropped : (b : ℕ) (s : List ℕ) → is_dropped b ≡ true → kept (b ∷ s) ≡ kept s
unfolding kept
kept_dropped b s e = if_true _ _ _ e

-- of no bytes none is kept
pub kept_none : kept [] ≡ []
unfolding kept
kept_none = refl

-- LF is not dropped
pub lf_stays : is_dropped lf ≡ false
unfolding is_dropped
lf_stays = refl

-- one byte more before the end of the line
pub inside_more : (w : List ℕ) (b : ℕ) → every inside w ≡ true → eqb b lf ≡ false → every inside (w ++ (b ∷ [])) ≡ true
unfolding every
inside_more w b e n = every_append inside w (b ∷ []) ∙ rw (e, n)

-- bytes of which none ends a line
pub feed_inside : (w u rest : List ℕ) → every inside u ≡ true → feed w (u ++ rest) ≡ feed (w ++ kept u) rest
unfolding feed every when◌then◌else◌
feed_inside w [] rest e = rw (kept_none, append-nil w)
feed_inside w (b ∷ u) rest e =
    go (feed_inside w u rest (and_right (inside b) (every inside u) e)) (feed_inside (w ++ (b ∷ [])) u rest (and_right (inside b) (every inside u) e))
  where
    go : feed w (u ++ rest) ≡ feed (w ++ kept u) rest → feed (w ++ (b ∷ [])) (u ++ rest) ≡ feed ((w ++ (b ∷ [])) ++ kept u) rest
        → feed w ((b ∷ u) ++ rest) ≡ feed (w ++ kept (b ∷ u)) rest
    go dropped added =
        let n : eqb b lf ≡ false = not-true (eqb b lf) (and_left (inside b) (every inside u) e) in
        either (is_dropped b)
        (λ d. rw (n, d, kept_dropped b u d) dropped)
        (λ k. rw (n, k, kept_other b u k) (added ∙ rw (append_assoc w (b ∷ []) (kept u))))

-- the LF behind them does
pub feed_line : (w u rest : List ℕ) → every inside u ≡ true → feed w (u ++ (lf ∷ rest)) ≡ line (w ++ kept u) rest
unfolding feed when◌then◌else◌
feed_line w u rest e = feed_inside w u (lf ∷ rest) e

-- the bytes before the first LF
pub first_inside : (s : List ℕ) → every inside (first_line s) ≡ true
unfolding first_line every
first_inside [] = refl
first_inside (b ∷ s) =
    either (eqb b lf)
    (λ y. rw (if_true (eqb b lf) [] (b ∷ first_line s) y))
    (λ n. rw (if_false (eqb b lf) [] (b ∷ first_line s) n, n) (first_inside s))

-- a text of which the first line is all
pub first_whole : (s : List ℕ) → length s ≤ length (first_line s) → first_line s ≡ s
unfolding first_line
first_whole [] h = refl
first_whole (b ∷ s) h =
    either (eqb b lf)
    (λ y. let never : suc (length s) ≤ 0 = rw (if_true (eqb b lf) [] (b ∷ first_line s) y) at h in absurd (omega arith))
    (λ n.
    let more : suc (length s) ≤ suc (length (first_line s)) = rw (if_false (eqb b lf) [] (b ∷ first_line s) n) at h in
    if_false _ _ _ n ∙ ap (λ x. b ∷ x) (first_whole s (omega arith)))

-- and one that goes on behind it
first_on : (s : List ℕ) → length (first_line s) < length s → s ≡ first_line s ++ (lf ∷ drop (suc (length (first_line s))) s)
unfolding first_line
first_on [] h = absurd (omega arith)
first_on (b ∷ s) h =
    either (eqb b lf)
    (λ y. rw (if_true (eqb b lf) [] (b ∷ first_line s) y, eqb-true b lf y))
    (λ n.
    let e = if_false (eqb b lf) [] (b ∷ first_line s) n in
    let more : suc (length (first_line s)) < suc (length s) = rw e at h in
    rw e (ap (λ x. b ∷ x) (first_on s (omega arith))))

-- the line from a place on that ends at another: its bytes, and the input behind its LF
pub record Line (input : List ℕ) (next end : ℕ) (u : List ℕ) : Type 0 where
  pub part : take (end - next) (drop next input) ≡ u
  pub before : next ≤ end
  pub inner : every inside u ≡ true
  pub is : from input next ≡ u ++ (lf ∷ from input (end + 1))

pub line_ends : (input : List ℕ) (next end : ℕ) → end ≡ next + length (first_line (from input next)) → end < length input → Line input next end (first_line (from input next))
unfolding from
line_ends input next end e h =
    let u : List ℕ = first_line (drop next input) in
    let is : drop next input ≡ u ++ (lf ∷ drop (suc (length u)) (drop next input)) = first_on (drop next input) (omega (arith, length-drop next input)) in
    let behind : next + suc (length u) ≡ end + 1 = omega arith in
    let whole : drop next input ≡ u ++ (lf ∷ drop (end + 1) input) = is ∙ ap (λ x. u ++ (lf ∷ x)) (drop-drop (suc (length u)) next input ∙ ap (λ k. drop k input) behind) in
    record {
      part = ap (take (end - next)) whole ∙ take_at u _ (end - next) (omega arith);
      before = omega arith;
      inner = first_inside (drop next input);
      is = whole;
    }

-- the same of the part between the places
pub part_ends : (input : List ℕ) (next end : ℕ) → end ≡ next + length (first_line (from input next)) → end < length input → Line input next end (take (end - next) (drop next input))
part_ends input next end e h = let l = line_ends input next end e h in rw l.part l

-- no line ends in the input from a place on
pub rest_inside : (input : List ℕ) (next : ℕ) → length input ≡ next + length (first_line (from input next)) → every inside (from input next) ≡ true
unfolding from
rest_inside input next e = let whole = first_whole (drop next input) (omega (arith, length-drop next input)) in rw whole at (first_inside (drop next input))

-- the input from a place on, as a part up to its end
pub rest_part : (input : List ℕ) (next : ℕ) → take (length input - next) (drop next input) ≡ drop next input
rest_part input next = take_all (length input - next) (drop next input) (omega (arith, length-drop next input))

-- a line that does not end where the input does ends before
pub ends_before : (input : List ℕ) (next end : ℕ) → next ≤ length input → end ≡ next + length (first_line (from input next)) → (end ≡ length input → ⊥) → end < length input
unfolding from
ends_before input next end h e n =
    let less = first_short (drop next input) in
    let le : end ≤ length input = omega (arith, length-drop next input) in
    either (ltb end (length input)) (λ y. ltb-true end (length input) y) (λ m. absurd (n (omega (arith, ltb-false end (length input) m))))
