-- The states by their numbers: which tag and which form's number each of the paper's states has in memory, and so what the tests of a
-- neighbour say of it.
use Prim.Native.Nat.{ℕ, zero, suc, ◌≤◌, ◌<◌}
use mathlib.Core.Path.{◌≡◌, refl, ap}
use mathlib.Core.Bool.{Bool, true, not, ◌&&◌, ◌||◌}
use mathlib.Core.List.{List}
use native.Mathlib.Omega.{arith}
use lib.Dec.{eqb, leb}
use borrow.Author.Tests.{leb-true, le-leb, eq-eqb, eqb-true}
use Rattle.paper.specs.Byte.{between}
use Rattle.paper.specs.Form.{Form, is_some}
use Rattle.paper.specs.Bench as P
use Rattle.paper.specs.Class.{Tablet, Class, collects, holds_form, open_lines, prints, another_below, another, thirty}
use Rattle.paper.proofs.Law.{and_both, and_left, and_right}
use Rattle.paper.proofs.Test.{agree}
use Rattle.session.specs.Memory.{drafts, drafting, holds, holding, packed_session}
use Rattle.seats.specs.Numbers.{code_of}
use Rattle.seats.specs.Seats.{is_at, beside_below}

-- in Collecting, sound or spoiled
pub collects_at : (fs : List Form) (n : ℕ) (st : P.Session) → is_at 1 2 0 0 (packed_session fs n st).held ≡ collects st
unfolding is_at between packed_session drafting drafts holding holds code_of collects
collects_at fs n P.idle = refl
collects_at fs n (P.collecting name ls) = refl
collects_at fs n P.spoiled = refl
collects_at fs n (P.opened ls) = refl
collects_at fs n (P.answering ls given) = refl
collects_at fs n (P.ready ls given) = refl
collects_at fs n (P.printing ls given k c i) = refl

-- a number from one up to the same
between_self : (m n : ℕ) → between m m n ≡ eqb m n
unfolding between
between_self m n =
    agree (between m m n) (eqb m n)
    (λ y. eq-eqb m n (omega (arith, leb-true m n (and_left _ _ y), leb-true n m (and_right (leb m n) _ y))))
    (λ y. let e = eqb-true m n y in and_both _ _ (le-leb m n (omega arith)) (le-leb n m (omega arith)))

-- with form m held open
pub held_is_holding : (fs : List Form) (m n : ℕ) (st : P.Session) → is_at 3 6 m m (packed_session fs n st).held ≡ (holds_form st && eqb m n)
unfolding is_at between packed_session drafting drafts holding holds code_of holds_form open_lines is_some
held_is_holding fs m n P.idle = refl
held_is_holding fs m n (P.collecting name ls) = refl
held_is_holding fs m n P.spoiled = refl
held_is_holding fs m n (P.opened ls) = between_self m n
held_is_holding fs m n (P.answering ls given) = between_self m n
held_is_holding fs m n (P.ready ls given) = between_self m n
held_is_holding fs m n (P.printing ls given k c i) = between_self m n

-- with any form held open: there are eight at most
pub any_holds_at : (fs : List Form) (n : ℕ) (st : P.Session) → (holds_form st ≡ true → n ≤ 7) → is_at 3 6 0 7 (packed_session fs n st).held ≡ holds_form st
unfolding is_at between packed_session drafting drafts holding holds code_of holds_form open_lines is_some
any_holds_at fs n P.idle l = refl
any_holds_at fs n (P.collecting name ls) l = refl
any_holds_at fs n P.spoiled l = refl
any_holds_at fs n (P.opened ls) l = and_both _ _ (le-leb 0 n (omega arith)) (le-leb n 7 (l refl))
any_holds_at fs n (P.answering ls given) l = and_both _ _ (le-leb 0 n (omega arith)) (le-leb n 7 (l refl))
any_holds_at fs n (P.ready ls given) l = and_both _ _ (le-leb 0 n (omega arith)) (le-leb n 7 (l refl))
any_holds_at fs n (P.printing ls given k c i) l = and_both _ _ (le-leb 0 n (omega arith)) (le-leb n 7 (l refl))

-- in Printing
pub prints_at : (fs : List Form) (n : ℕ) (st : P.Session) → eqb (code_of (packed_session fs n st).held.mode).tag 6 ≡ prints st
unfolding packed_session drafting drafts holding holds code_of prints
prints_at fs n P.idle = refl
prints_at fs n (P.collecting name ls) = refl
prints_at fs n P.spoiled = refl
prints_at fs n (P.opened ls) = refl
prints_at fs n (P.answering ls given) = refl
prints_at fs n (P.ready ls given) = refl
prints_at fs n (P.printing ls given k c i) = refl

-- the paper's other tablets are those beside
another_below_beside : (n : ℕ) (c : Class) (t : ℕ) (test : Tablet → Bool) → another_below n c t test ≡ beside_below n t (λ k. test (c.tablet k))
unfolding another_below beside_below
another_below_beside zero c t test = refl
another_below_beside (suc k) c t test = ap (λ b. (not (eqb k t) && test (c.tablet k)) || b) (another_below_beside k c t test)

pub another_beside : (c : Class) (t : ℕ) (test : Tablet → Bool) → another c t test ≡ beside_below 30 t (λ k. test (c.tablet k))
unfolding another thirty
another_beside c t test = another_below_beside 30 c t test

-- tests that agree below a bound find the same
pub beside_alike : (n t : ℕ) (p q : ℕ → Bool) → ((k : ℕ) → k < n → p k ≡ q k) → beside_below n t p ≡ beside_below n t q
unfolding beside_below
beside_alike zero t p q e = refl
beside_alike (suc k) t p q e = rw (e k (omega arith), beside_alike k t p q (λ j l. e j (omega arith)))
