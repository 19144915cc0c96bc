-- The sessions follow one after another: those below the number that the loop has come to have followed.
use Prim.Native.Nat.{ℕ, suc, ◌+◌, ◌-◌, ◌*◌, ◌≤◌, ◌<◌}
use mathlib.Core.Path.{◌≡◌, refl, sym, ◌∙◌, ap}
use mathlib.Core.List.{List, ◌++◌}
use native.Mathlib.Omega.{arith}
use native.Mathlib.Numerals.{add-one}
use lib.ListN.{take, drop, get_or, set}
use lib.Dec.{ltb, eqb}
use borrow.Author.Tests.{lt-ltb, le-ltb, ltb-true, ltb-false, eqb-true, eqb-false}
use Rattle.paper.specs.Byte.{when◌then◌else◌}
use Rattle.paper.specs.Class.{seat}
use Rattle.paper.proofs.Law.{if_true, if_false}
use Rattle.paper.proofs.Apart.{seat_own, seat_other}
use Rattle.paper.proofs.Test.{either}
use Rattle.session.specs.declared.state.Held.{Held}
use Rattle.seats.specs.Numbers.{held_in}
use Rattle.seats.specs.Seats.{numbers_of, lowered, lowered_at}
use Rattle.seats.proofs.Parted.{numbers_alike, numbers_seat, numbers_split, before_length, middle_set, form_at_place, start_at}

-- one session, in the order of the code
module _ (held : List ℕ) (at n size : ℕ) where
  pub one_stays : get_or held (at + 4) 0 ≤ n → held ≡ lowered_at n size held at
  unfolding lowered_at
  one_stays l = sym (if_false _ _ _ (le-ltb n (get_or held (at + 4) 0) l))

  pub one_follows : (start : ℕ) → n < get_or held (at + 4) 0 → start ≡ get_or held (at + 5) 0 - size
      → set (set held (at + 4) (get_or held (at + 4) 0 - 1)) (at + 5) start ≡ lowered_at n size held at
  unfolding lowered_at
  one_follows start l e = rw e (sym (if_true _ _ _ (lt-ltb n (get_or held (at + 4) 0) l)))

-- in memory a session follows so
pub numbers_lowered : (h : ℕ → Held) (k n size : ℕ) → k < 30 → lowered_at n size (numbers_of h) (k * 10) ≡ numbers_of (seat k (lowered n size (h k)) h)
unfolding lowered_at lowered held_in when◌then◌else◌
numbers_lowered h k n size l =
    let before = take (k * 10) (numbers_of h) in
    let behind = drop (suc k * 10) (numbers_of h) in
    let form = form_at_place (numbers_of h) h refl k l in
    let start = start_at (numbers_of h) h refl k l in
    either (ltb n (h k).form)
    (λ y.
    rw (form, start, y, numbers_seat h k _ l)
    (ap (λ xs. set xs (k * 10 + 5) ((h k).start - size)) (middle_set (numbers_of h) before (held_in (h k) ++ behind) (k * 10) 4 ((h k).form - 1) (numbers_split h k l) (before_length h k l))
    ∙ middle_set _ before _ (k * 10) 5 ((h k).start - size) refl (before_length h k l)))
    (λ m. rw (form, m) (numbers_split h k l ∙ sym (numbers_seat h k (h k) l)))

-- the sessions below a number have followed
unfoldable pub lowered_below : (n size k : ℕ) → (ℕ → Held) → ℕ → Held
lowered_below n size k h j = when ltb j k then lowered n size (h j) else h j

below_start : (n size : ℕ) (h : ℕ → Held) (j : ℕ) → h j ≡ lowered_below n size 0 h j
unfolding lowered_below
below_start n size h j = sym (if_false _ _ _ (le-ltb j 0 (omega arith)))

below_end : (n size : ℕ) (h : ℕ → Held) (j : ℕ) → j < 30 → lowered_below n size 30 h j ≡ lowered n size (h j)
unfolding lowered_below
below_end n size h j l = if_true _ _ _ (lt-ltb j 30 l)

below_here : (n size k : ℕ) (h : ℕ → Held) → lowered_below n size k h k ≡ h k
unfolding lowered_below
below_here n size k h = if_false _ _ _ (le-ltb k k (omega arith))

below_turns : (n size k : ℕ) (h : ℕ → Held) (j : ℕ) → seat k (lowered n size (h k)) (lowered_below n size k h) j ≡ lowered_below n size (suc k) h j
unfolding lowered_below
below_turns n size k h j =
    either (eqb j k)
    (λ y.
    let e = eqb-true j k y in
    seat_own k _ _ j y ∙ rw (← e) (sym (if_true _ _ _ (lt-ltb j (suc j) (omega arith)))))
    (λ o.
    let e = eqb-false j k o in
    seat_other k _ _ j o
    ∙ either (ltb j k)
    (λ y. let l = ltb-true j k y in if_true _ _ _ y ∙ sym (if_true _ _ _ (lt-ltb j (suc k) (omega arith))))
    (λ m. let l = ltb-false j k m in if_false _ _ _ m ∙ sym (if_false _ _ _ (le-ltb j (suc k) (omega arith)))))

pub record Lowered (old : List ℕ) (n size : ℕ) (held : List ℕ) (k : ℕ) : Type 0 where
  pub follows : (h : ℕ → Held) → old ≡ numbers_of h → held ≡ numbers_of (lowered_below n size k h)

module _ (old : List ℕ) (n size : ℕ) where
  pub lowered_begins : Lowered old n size old 0
  lowered_begins = record { follows = λ h e. e ∙ ap numbers_of (λ i j. below_start n size h j i) }

  pub lowered_turns : (held new : List ℕ) (k : ℕ) → Lowered old n size held k → k < 30 → new ≡ lowered_at n size held (k * 10) → Lowered old n size new (k + 1)
  lowered_turns held new k w l e =
      record {
        follows = λ h p.
            e ∙ rw (w.follows h p, add-one k) (numbers_lowered (lowered_below n size k h) k n size l ∙ rw (below_here n size k h) (ap numbers_of (λ i j. below_turns n size k h j i)));
      }

  pub lowered_ends : (held : List ℕ) (k : ℕ) → Lowered old n size held k → k ≡ 30 → (h : ℕ → Held) → old ≡ numbers_of h → held ≡ numbers_of (λ j. lowered n size (h j))
  lowered_ends held k w end h p = rw end at (w.follows h p) ∙ numbers_alike _ _ (below_end n size h)
