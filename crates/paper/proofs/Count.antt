-- Tablets by their number. None in Printing is 16, and a single one that was served last is served again; a call changes a count by
-- its own tablet alone.
use mathlib.Core.Path.{◌≡◌, refl, ap, ◌∙◌}
use mathlib.Core.Bool.{Bool, true, false}
use mathlib.Core.Option.{Option, none, some}
use Prim.Native.Nat.{ℕ, zero, suc, ◌+◌, ◌≤◌, ◌<◌}
use native.Mathlib.Omega.{arith}
use lib.Dec.{eqb, ltb}
use borrow.Author.Tests.{eqb-true, eqb-false, ne_eqb, ltb-true, ltb-false}
use Rattle.paper.specs.Byte.{when◌then◌else◌}
use Rattle.paper.specs.Command.{Filing}
use Rattle.paper.specs.Bench.{Session, Outcome}
use Rattle.paper.specs.Class.{Tablet, Class, thirty, prints, seat, tablet_of, reply, turn, count_below, printers}
use Rattle.paper.proofs.Test.{either, clash}
use Rattle.paper.proofs.Apart.{seat_own, seat_other}
use Rattle.paper.proofs.Turn.{turn_comes, turn_passing, first_none}

-- one that passes is counted
count_one : (n : ℕ) (test : ℕ → Bool) (k : ℕ) → k < n → test k ≡ true → 1 ≤ count_below n test
unfolding count_below when◌then◌else◌
count_one zero test k l e = absurd (omega arith)
count_one (suc n) test k l e =
    either (test n)
    (λ y. rw y (omega arith))
    (λ m. rw m (count_one n test k (let other : eqb k n ≡ false = either (eqb k n) (λ y. clash e (ap test (eqb-true k n y) ∙ m)) (λ f. f) in let apart = eqb-false k n other in omega arith) e))

-- and two are two
count_two : (n : ℕ) (test : ℕ → Bool) (j k : ℕ) → j < k → k < n → test j ≡ true → test k ≡ true → 2 ≤ count_below n test
unfolding count_below when◌then◌else◌
count_two zero test j k a l p q = absurd (omega arith)
count_two (suc n) test j k a l p q =
    either (test n)
    (λ y. let one = count_one n test j (omega arith) p in rw y (omega arith))
    (λ m. rw m (count_two n test j k a (let other : eqb k n ≡ false = either (eqb k n) (λ y. clash q (ap test (eqb-true k n y) ∙ m)) (λ f. f) in let apart = eqb-false k n other in omega arith) p q))

-- so where one is counted any two that pass are the same
pub count_same : (test : ℕ → Bool) (j k : ℕ) → count_below 30 test ≡ 1 → j < 30 → k < 30 → test j ≡ true → test k ≡ true → j ≡ k
count_same test j k one l m p q =
    either (eqb j k) (eqb-true j k)
    (λ n.
    let apart = eqb-false j k n in
    either (ltb j k)
    (λ y. absurd (let less = ltb-true j k y in let two = count_two 30 test j k less m p q in omega arith))
    (λ y. absurd (let more = ltb-false j k y in let two = count_two 30 test k j (omega arith) l q p in omega arith)))

-- the only tablet in Printing has the turn
pub only_turn : (c : Class) (t : ℕ) → printers c ≡ 1 → t < 30 → prints (c.tablet t).session ≡ true → turn c ≡ some t
unfolding printers turn thirty
only_turn c t one l p =
    let come = turn_comes c t l p in
    let found = turn_passing c come.who come.first in
    come.first ∙ ap some (count_same _ come.who t one found.below l found.passes p)

-- above all where it was served last
pub served_again : (c : Class) → printers c ≡ 1 → c.last < 30 → prints (c.tablet c.last).session ≡ true → turn c ≡ some c.last
served_again c one l p = only_turn c c.last one l p

-- where none is counted none passes
pub count_none : (n : ℕ) (test : ℕ → Bool) → count_below n test ≡ 0 → (k : ℕ) → k < n → test k ≡ false
count_none n test e k l =
    either (test k) (λ y. absurd (let one = count_one n test k l y in omega arith)) (λ m. m)

pub nobody_prints : (c : Class) → printers c ≡ 0 → turn c ≡ none
unfolding printers turn thirty
nobody_prints c e = first_none _ 30 c.last (count_none 30 _ e)

-- one if a test passes, else nothing
unfoldable pub one_if : Bool → ℕ
one_if true = 1
one_if false = 0

-- a count goes by what is counted
count_alike : (n : ℕ) (p q : ℕ → Bool) → ((k : ℕ) → k < n → p k ≡ q k) → count_below n p ≡ count_below n q
unfolding count_below
count_alike zero p q e = refl
count_alike (suc n) p q e = rw (e n (omega arith), count_alike n p q (λ k l. e k (omega arith)))

-- the last of those counted is another
last_other : (n : ℕ) (a b : Bool) → (when a then suc n else n) + one_if b ≡ (when b then suc n else n) + one_if a
unfolding when◌then◌else◌ one_if
last_other n true true = refl
last_other n true false = omega arith
last_other n false true = omega arith
last_other n false false = refl

-- the last of those counted is the same
last_same : (b : Bool) (m n a z : ℕ) → m + a ≡ n + z → (when b then suc m else m) + a ≡ (when b then suc n else n) + z
unfolding when◌then◌else◌
last_same true m n a z e = omega arith
last_same false m n a z e = e

-- another tablet in one's place
pub count_seat : (n : ℕ) (test : Tablet → Bool) (t : ℕ) (x : Tablet) (f : ℕ → Tablet) → t < n → count_below n (λ k. test (seat t x f k)) + one_if (test (f t)) ≡ count_below n (λ k. test (f k)) + one_if (test x)
unfolding count_below
count_seat zero test t x f l = absurd (omega arith)
count_seat (suc n) test t x f l =
    either (eqb n t)
    (λ y.
    let here : n ≡ t = eqb-true n t y in
    let below = count_alike n (λ k. test (seat t x f k)) (λ k. test (f k)) (λ k m. ap test (seat_other t x f k (ne_eqb k t (omega arith)))) in
    rw (seat_own t x f n y, below, ← here) (last_other (count_below n (λ k. test (f k))) (test x) (test (f n))))
    (λ m.
    let apart = eqb-false n t m in
    let below = count_seat n test t x f (omega arith) in
    rw (seat_other t x f n m) (last_same (test (f n)) _ _ _ _ below))

-- so a call changes a count of tablets by its own tablet alone
pub reply_count : (test : Session → Bool) (c : Class) (t last : ℕ) (f : Option Filing) (o : Outcome) → t < 30 → count_below 30 (λ k. test ((reply c t last f o).next.tablet k).session) + one_if (test (c.tablet t).session) ≡ count_below 30 (λ k. test (c.tablet k).session) + one_if (test o.next.session)
unfolding reply tablet_of
reply_count test c t last f o l = count_seat 30 (λ x. test x.session) t _ c.tablet l
