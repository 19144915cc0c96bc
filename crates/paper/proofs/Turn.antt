-- Whose turn it is. Counted upwards and round from the tablet last served, a tablet in Printing is at most thirty places ahead,
-- and every accepted take that is not its own brings the turn nearer to it.
use mathlib.Core.Path.{◌≡◌, refl, sym, ap, ◌∙◌}
use mathlib.Core.Bool.{Bool, true, false}
use mathlib.Core.List.{List, [], ◌∷◌}
use mathlib.Core.Option.{Option, none, some, some-injective, some-ne-none}
use Prim.Native.Nat.{ℕ, zero, suc, ◌+◌, ◌-◌, ◌≤◌, ◌<◌}
use native.Mathlib.Omega.{arith}
use lib.ListN.{length}
use lib.Dec.{ltb, eqb}
use borrow.Author.Tests.{eqb-true, eqb-false, ltb-true, ltb-false, lt-ltb, le-ltb}
use Rattle.paper.specs.Byte.{when◌then◌else◌, any, among}
use Rattle.paper.specs.Refusal.{Answer, accepted, refused}
use Rattle.paper.specs.Bench.{take_set}
use Rattle.paper.specs.Class.{Class, thirty, desk, prints, reply, denied, Reply, hear_of, hear_from, onward, first_after, turn, last_after, serve, take_next, Request, sends, fetches, reply_to, served_by, served_in, wait, keeps_printing}
use Rattle.paper.proofs.Law.{if_true, if_false, by_test, and_left, and_right}
use Rattle.paper.proofs.Test.{either, clash}
use Rattle.paper.proofs.Others.{neither_left, neither_right}

-- how many places one tablet is ahead of another, upwards and from 29 on to 0
unfoldable pub ahead : (k t : ℕ) → ℕ
ahead k t = when ltb k t then t - k else suc t + (29 - k)

ahead_above : (k t : ℕ) → k < t → ahead k t ≡ t - k
unfolding ahead
ahead_above k t l = if_true _ _ _ (lt-ltb k t l)

ahead_round : (k t : ℕ) → t ≤ k → ahead k t ≡ suc t + (29 - k)
unfolding ahead
ahead_round k t l = if_false _ _ _ (le-ltb k t l)

-- one to thirty
pub ahead_within : (k t : ℕ) → t < 30 → (1 ≤ ahead k t) × (ahead k t ≤ 30)
ahead_within k t l =
    either (ltb k t)
    (λ y. let up = ltb-true k t y in rw (ahead_above k t up) (omega arith))
    (λ n. let down = ltb-false k t n in rw (ahead_round k t down) (omega arith))

-- who is not next is one place nearer to the next
ahead_onward : (k t : ℕ) → t < 30 → eqb t (onward k) ≡ false → ahead k t ≡ suc (ahead (onward k) t)
unfolding onward
ahead_onward k t l =
    by_test (λ m. eqb t m ≡ false → ahead k t ≡ suc (ahead m t)) (ltb k 29) (suc k) 0
    (λ y e.
    let low = ltb-true k 29 y in
    let other = eqb-false t (suc k) e in
    either (ltb k t)
    (λ u. let up = ltb-true k t u in rw (ahead_above k t up, ahead_above (suc k) t (omega arith)) (omega arith))
    (λ u. let down = ltb-false k t u in rw (ahead_round k t down, ahead_round (suc k) t (omega arith)) (omega arith)))
    (λ n e.
    let high = ltb-false k 29 n in
    let other = eqb-false t 0 e in
    rw (ahead_round k t (omega arith), ahead_above 0 t (omega arith)) (omega arith))

-- one step of the search
first_here : (test : ℕ → Bool) (n k : ℕ) → test (onward k) ≡ true → first_after test (suc n) k ≡ some (onward k)
unfolding first_after
first_here test n k e = rw (e, first_after)

first_later : (test : ℕ → Bool) (n k : ℕ) → test (onward k) ≡ false → first_after test (suc n) k ≡ first_after test n (onward k)
unfolding first_after
first_later test n k e = rw (e, first_after)

-- the search comes upon somebody, who passes and is not behind this tablet
pub record Comes (test : ℕ → Bool) (t n k : ℕ) : Type 0 where
  pub who : ℕ
  pub first : first_after test n k ≡ some who
  pub passes : test who ≡ true
  pub nearer : eqb t who ≡ false → ahead who t < ahead k t

-- it does if this tablet passes and is not too far
pub comes : (test : ℕ → Bool) (t n k : ℕ) → t < 30 → test t ≡ true → ahead k t ≤ n → Comes test t n k
comes test t zero k l p far = absurd (let some' = ahead_within k t l in omega arith)
comes test t (suc n) k l p far =
    either (test (onward k))
    (λ y. record { who = onward k; first = first_here test n k y; passes = y; nearer = λ e. let one = ahead_onward k t l e in omega arith })
    (λ m.
    let other : eqb t (onward k) ≡ false = either (eqb t (onward k)) (λ y. clash p (ap test (eqb-true t (onward k) y) ∙ m)) (λ e. e) in
    let one = ahead_onward k t l other in
    let more = comes test t n (onward k) l p (omega arith) in
    record {
      who = more.who;
      first = first_later test n k m ∙ more.first;
      passes = more.passes;
      nearer = λ e. let less = more.nearer e in omega arith;
    })

-- in a class
pub turn_comes : (c : Class) (t : ℕ) → t < 30 → prints (c.tablet t).session ≡ true → Comes (λ k. prints (c.tablet k).session) t 30 c.last
turn_comes c t l p = comes _ t 30 c.last l p (ahead_within c.last t l).1

-- who is found is one of the thirty and passes
onward_below : (k : ℕ) → onward k < 30
unfolding onward
onward_below k = by_test (λ m. m < 30) (ltb k 29) (suc k) 0 (λ y. let low = ltb-true k 29 y in omega arith) (λ n. omega arith)

pub record Passing (test : ℕ → Bool) (t : ℕ) : Type 0 where
  pub below : t < 30
  pub passes : test t ≡ true

pub first_passing : (test : ℕ → Bool) (n k t : ℕ) → first_after test n k ≡ some t → Passing test t
unfolding first_after
first_passing test zero k t e = absurd (some-ne-none t (sym e))
first_passing test (suc n) k t e =
    either (test (onward k))
    (λ y. rw (some-injective _ _ (sym (first_here test n k y) ∙ e)) at (let both : Passing test (onward k) = record { below = onward_below k; passes = y } in both))
    (λ m. first_passing test n (onward k) t (sym (first_later test n k m) ∙ e))

pub turn_passing : (c : Class) (t : ℕ) → turn c ≡ some t → Passing (λ k. prints (c.tablet k).session) t
unfolding turn
turn_passing c t e = first_passing _ thirty c.last t e

-- where none passes nobody is found
pub first_none : (test : ℕ → Bool) (n k : ℕ) → ((u : ℕ) → u < 30 → test u ≡ false) → first_after test n k ≡ none
unfolding first_after
first_none test zero k e = refl
first_none test (suc n) k e = first_later test n k (e (onward k) (onward_below k)) ∙ first_none test n (onward k) e

-- a line leaves the turn
pub line_last : (width room : ℕ) (c : Class) (t : ℕ) (s : List ℕ) → (hear_from width room c t s).next.last ≡ c.last
unfolding hear_from hear_of reply denied
line_last width room c t s = by_test (λ (r : Reply). r.next.last ≡ c.last) (ltb t thirty) _ _ (λ y. refl) (λ n. refl)

-- one take more
wait_take : (t u last room : ℕ) (a : Answer) (later : List ℕ) → t < 30 → (eqb t u ≡ false → ahead u t < ahead last t) → wait t later ≤ ahead (last_after a u last) t → wait t (served_by (fetches room) a (some u) later) ≤ ahead last t
unfolding served_by last_after wait
wait_take t u last room (refused r) later l near e = e
wait_take t u last room (accepted bytes) later l near e =
    by_test (λ w. w ≤ ahead last t) (eqb t u) 1 _
    (λ y. (ahead_within last t l).0)
    (λ n. let less = near n in omega arith)

-- one call more
one_call : (width t : ℕ) (c : Class) (q : Request) (later : List ℕ) → t < 30 → prints (c.tablet t).session ≡ true → wait t later ≤ ahead (reply_to width c q).next.last t → wait t (served_by q (reply_to width c q).answer (reply_to width c q).whose later) ≤ ahead c.last t
unfolding reply_to served_by take_next turn thirty serve reply
one_call width t c (sends u room s) later l p e = rw (line_last width room c u s) at e
one_call width t c (fetches room) later l p e =
    let come = turn_comes c t l p in
    by_turn _ come.first come.nearer e
  where
    by_turn : (o : Option ℕ) {u : ℕ} → o ≡ some u → (eqb t u ≡ false → ahead u t < ahead c.last t) → wait t later ≤ ahead (serve room c o).next.last t → wait t (served_by (fetches room) (serve room c o).answer (serve room c o).whose later) ≤ ahead c.last t
    by_turn none e near w = absurd (some-ne-none _ (sym e))
    by_turn (some v) {u} e near w =
        let me : v ≡ u = some-injective _ _ e in
        wait_take t v c.last room (take_set room (desk c v)).answer later l (rw me near) w

-- TURN: as long as a tablet stays in Printing, its next set is among the accepted takes no later than so many places ahead
pub waits : (width t : ℕ) (c : Class) (qs : List Request) → t < 30 → keeps_printing width t c qs ≡ true → wait t (served_in width c qs) ≤ ahead c.last t
unfolding served_in keeps_printing wait
waits width t c [] l p = (ahead_within c.last t l).0
waits width t c (q ∷ qs) l p =
    let later = waits width t (reply_to width c q).next qs l (and_right (prints (c.tablet t).session) _ p) in
    one_call width t c q _ l (and_left _ _ p) later

-- TURN: as long as a tablet stays in Printing, its next set is at latest the thirtieth that is given
pub within_thirty : (width t : ℕ) (c : Class) (qs : List Request) → t < 30 → keeps_printing width t c qs ≡ true → wait t (served_in width c qs) ≤ 30
within_thirty width t c qs l p = let near = waits width t c qs l p in let far = ahead_within c.last t l in omega arith

-- where it gets none, its next would come behind all that were given
wait_none : (t : ℕ) (us : List ℕ) → among us t ≡ false → wait t us ≡ suc (length us)
unfolding among any wait when◌then◌else◌
wait_none t [] e = refl
wait_none t (u ∷ us) e = rw (neither_left (eqb t u) _ e, wait_none t us (neither_right (eqb t u) _ e))

-- so of thirty accepted takes one is for it
pub one_of_thirty : (width t : ℕ) (c : Class) (qs : List Request) → t < 30 → keeps_printing width t c qs ≡ true → 30 ≤ length (served_in width c qs) → among (served_in width c qs) t ≡ true
one_of_thirty width t c qs l p many =
    either (among (served_in width c qs) t) (λ y. y)
    (λ n. absurd (let w = wait_none t _ n in let most = within_thirty width t c qs l p in omega arith))
