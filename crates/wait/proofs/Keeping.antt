-- The loop that keeps bytes: what it has kept and what is still to come are the line.
use Prim.Native.Nat.{ℕ, suc, ◌+◌, ◌≤◌, ◌<◌}
use mathlib.Core.Path.{◌≡◌, refl, sym, ◌∙◌, ap}
use mathlib.Core.Bool.{true, false}
use mathlib.Core.List.{List, [], ◌∷◌, ◌++◌, append_assoc, append-nil}
use native.Mathlib.Omega.{arith}
use lib.ListN.{length, take, drop, get_or, set, length-append, length-take, length-set, drop_of_length-le}
use lib.Seq.{take_all, drop-cons, take-append-le, take-suc-set, drop-drop, drop-set-lt}
use borrow.Author.Tests.{ne_eqb}
use Rattle.paper.specs.Line.{is_dropped, kept}
use Rattle.paper.proofs.Law.{if_true, if_false}
use Rattle.wait.specs.Waiting.{WaitsIn, WaitingIn, ComesIn}

-- some bytes of a piece are kept behind a line, and the others stand from a place on
pub record Keeping (room : ℕ) (old : List ℕ) (len : ℕ) (s new : List ℕ) (n i : ℕ) : Type 0 where
  pub done : List ℕ
  pub whole : kept s ≡ done ++ kept (drop i s)
  pub waits : (line : List ℕ) → WaitsIn room line old len → WaitsIn room (line ++ done) new n
  pub few : n ≤ room
  pub size : length new ≡ room
  pub behind : drop n new ≡ drop n old

pub keeping_begins : (room : ℕ) (old : List ℕ) (len : ℕ) (s : List ℕ) → WaitingIn room old len → Keeping room old len s old len 0
keeping_begins room old len s w =
    let few : len ≤ room = omega (arith, w.waits.counts, length-take room w.line) in
    record { done = []; whole = refl; waits = λ line v. rw append-nil v; few = few; size = w.waits.room; behind = refl }

module _ (room : ℕ) (old : List ℕ) (len : ℕ) (s new : List ℕ) (n i : ℕ) (k : Keeping room old len s new n i) (h : i < length s) where
  -- the byte at the place
  here : drop i s ≡ get_or s i 0 ∷ drop (i + 1) s
  here = let more : suc i ≡ i + 1 = omega arith in drop-cons s i 0 h ∙ ap (λ x. get_or s i 0 ∷ drop x s) more

  -- it is dropped
  skips : is_dropped (get_or s i 0) ≡ true → Keeping room old len s new n (i + 1)
  unfolding kept
  skips y =
      let rest : kept (drop i s) ≡ kept (drop (i + 1) s) = ap kept here ∙ if_true (is_dropped (get_or s i 0)) _ _ y in
      record { done = k.done; whole = k.whole ∙ ap (λ x. k.done ++ x) rest; waits = k.waits; few = k.few; size = k.size; behind = k.behind }

  pub keeping_cr : get_or s i 0 ≡ 13 → Keeping room old len s new n (i + 1)
  unfolding is_dropped
  keeping_cr e = skips (rw e)

  pub keeping_eof : get_or s i 0 ≡ 26 → Keeping room old len s new n (i + 1)
  unfolding is_dropped
  keeping_eof e = skips (rw e)

  module _ (p : get_or s i 0 ≡ 13 → ⊥) (q : get_or s i 0 ≡ 26 → ⊥) where
    stays : is_dropped (get_or s i 0) ≡ false
    unfolding is_dropped
    stays = rw (ne_eqb (get_or s i 0) 13 p, ne_eqb (get_or s i 0) 26 q)

    rest : kept s ≡ (k.done ++ (get_or s i 0 ∷ [])) ++ kept (drop (i + 1) s)
    unfolding kept
    rest = k.whole ∙ ap (λ x. k.done ++ x) (ap kept here ∙ if_false (is_dropped (get_or s i 0)) _ _ stays) ∙ sym (append_assoc k.done (get_or s i 0 ∷ []) (kept (drop (i + 1) s)))

    -- it is kept
    pub keeping_more : n < room → Keeping room old len s (set new n (get_or s i 0)) (n + 1) (i + 1)
    keeping_more m =
        record {
          done = k.done ++ (get_or s i 0 ∷ []);
          whole = rest;
          waits = λ line v.
              let w = k.waits line v in
              let all = line ++ k.done in
              let short : length all < room = omega (arith, m, w.counts, length-take room all) in
              let was : take room all ≡ all = take_all room all (omega arith) in
              let size : length (all ++ (get_or s i 0 ∷ [])) ≡ length all + 1 = length-append all (get_or s i 0 ∷ []) in
              let now : take room (all ++ (get_or s i 0 ∷ [])) ≡ all ++ (get_or s i 0 ∷ []) = take_all room _ (omega arith) in
              let join : line ++ (k.done ++ (get_or s i 0 ∷ [])) ≡ all ++ (get_or s i 0 ∷ []) = sym (append_assoc line k.done (get_or s i 0 ∷ [])) in
              let more : n + 1 ≡ suc n = omega arith in
              let count : n ≡ length all = w.counts ∙ ap length was in
              rw join
              (record {
                front = ap (λ x. take x (set new n (get_or s i 0))) more ∙ take-suc-set new n (get_or s i 0) (omega (arith, k.size)) ∙ ap (λ x. x ++ (get_or s i 0 ∷ [])) (w.front ∙ was) ∙ sym now;
                counts = omega (arith, count, ap length now, size);
                room = length-set new n (get_or s i 0) ∙ k.size;
              });
          few = omega arith;
          size = length-set new n (get_or s i 0) ∙ k.size;
          behind = drop-set-lt (n + 1) new n (get_or s i 0) (omega arith) ∙ sym (drop-drop 1 n new) ∙ ap (drop 1) k.behind ∙ drop-drop 1 n old;
        }

    -- or there is no room for it
    pub keeping_full : room ≤ n → Keeping room old len s new n (i + 1)
    keeping_full m =
        record {
          done = k.done ++ (get_or s i 0 ∷ []);
          whole = rest;
          waits = λ line v.
              let w = k.waits line v in
              let all = line ++ k.done in
              let full : room ≤ length all = omega (arith, m, w.counts, length-take room all) in
              let same : take room (all ++ (get_or s i 0 ∷ [])) ≡ take room all = take-append-le room all (get_or s i 0 ∷ []) full in
              let join : line ++ (k.done ++ (get_or s i 0 ∷ [])) ≡ all ++ (get_or s i 0 ∷ []) = sym (append_assoc line k.done (get_or s i 0 ∷ [])) in
              rw join (record { front = w.front ∙ sym same; counts = w.counts ∙ ap length (sym same); room = w.room });
          few = k.few;
          size = k.size;
          behind = k.behind;
        }

pub keeping_ends : (room : ℕ) (old : List ℕ) (len : ℕ) (s new : List ℕ) (n i : ℕ) → Keeping room old len s new n i → length s ≤ i → ComesIn room old len s new n
unfolding kept
keeping_ends room old len s new n i k h =
    let none : drop i s ≡ [] = drop_of_length-le s {i = i} h in
    let all : kept s ≡ k.done = k.whole ∙ ap (λ x. k.done ++ kept x) none ∙ append-nil k.done in
    record { comes = λ line w. rw all (k.waits line w); behind = k.behind }
