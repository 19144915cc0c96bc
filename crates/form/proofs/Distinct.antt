-- The definitions of a sound form: each in its ranges and of a value of its own, and so 26 at most.
use Prim.Native.Nat.{ℕ, zero, suc, ◌+◌, ◌≤◌, ◌<◌}
use mathlib.Core.Path.{◌≡◌, refl, sym, ◌∙◌, ap}
use mathlib.Core.Bool.{Bool, true, false, false≢true}
use mathlib.Core.List.{List, [], ◌∷◌, ◌++◌, append-nil}
use mathlib.Core.Option.{Option, none, some-ne-none}
use native.Mathlib.Omega.{arith}
use lib.ListN.{length}
use lib.Dec.{eqb, ltb}
use borrow.Author.Tests.{not-true, eqb-true, eqb-false, eq-eqb, lt-ltb, le-ltb}
use Rattle.paper.specs.Command as P
use Rattle.paper.specs.Command.{define_ranges, draw_ranges, in_range, ranges, all_of}
use Rattle.paper.specs.Form.{asked, value_of, same_value, defined, is_some, value_sound, first_broken, unsound_at}
use Rattle.paper.specs.State.{all_in, Storable}
use Rattle.paper.proofs.Law.{if_true, if_false, and_left, and_right}
use Rattle.paper.proofs.Test.{either, held, tests, clash}
use Rattle.paper.proofs.Filled.{broken_cons}
use Rattle.paper.proofs.Invariant.{not_some}
use Rattle.command.specs.View.{width}
use Rattle.form.specs.Plan.{number_of}

-- each definition is within its ranges
abbrev pub Ranged : List P.Define → Type 0
Ranged [] = Unit
Ranged (d ∷ ds) = (all_of (define_ranges d) ≡ true) × Ranged ds

-- and of a value that none behind it defines
abbrev pub Distinct : List P.Define → Type 0
Distinct [] = Unit
Distinct (d ∷ ds) = (defined (value_of d) ds ≡ none) × Distinct ds

-- the definitions of lines in range are
pub ranged : (w : ℕ) (ls : List P.FormLine) → all_in w ls ≡ true → Ranged (asked ls)
unfolding all_in asked in_range ranges
ranged w [] e = tt
ranged w (P.draw b ∷ ls) e = ranged w ls (and_right (all_of (draw_ranges w b)) _ e)
ranged w (P.define b ∷ ls) e = (and_left (all_of (define_ranges b)) _ e, ranged w ls (and_right (all_of (define_ranges b)) _ e))

-- a value with a number of its own
abbrev pub Small : P.Value → Type 0
Small (P.counter n) = n ≤ 9
Small (P.variable n) = n ≤ 15

pub small : (d : P.Define) → all_of (define_ranges d) ≡ true → Small (value_of d)
unfolding define_ranges value_of
small (P.counting n len letter by prompt) e = omega (tests, (held (define_ranges (P.counting n len letter by prompt)) e).0.0)
small (P.varying n len letter prompt) e = omega (tests, (held (define_ranges (P.varying n len letter prompt)) e).0.0)

pub number_below : (v : P.Value) → Small v → number_of v < 26
unfolding number_of
number_below (P.counter n) h = omega arith
number_below (P.variable n) h = omega arith

-- a number tells a value
pub number_same : (v w : P.Value) → Small v → Small w → number_of v ≡ number_of w → same_value v w ≡ true
unfolding number_of same_value
number_same (P.counter n) (P.counter m) h k e = eq-eqb n m e
number_same (P.counter n) (P.variable m) h k e = absurd (omega arith)
number_same (P.variable n) (P.counter m) h k e = absurd (omega arith)
number_same (P.variable n) (P.variable m) h k e = eq-eqb n m (omega arith)

-- values that are the same are equal
pub same_value_equal : (v w : P.Value) → same_value v w ≡ true → v ≡ w
unfolding same_value
same_value_equal (P.counter n) (P.counter m) e = rw (eqb-true n m e)
same_value_equal (P.counter n) (P.variable m) e = clash e refl
same_value_equal (P.variable n) (P.counter m) e = clash e refl
same_value_equal (P.variable n) (P.variable m) e = rw (eqb-true n m e)

pub value_self : (v : P.Value) → same_value v v ≡ true
unfolding same_value
value_self (P.counter n) = eq-eqb n n refl
value_self (P.variable n) = eq-eqb n n refl

-- a value that is not defined by some definitions is not by the first, nor by those behind
pub not_first : (v : P.Value) (d : P.Define) (ds : List P.Define) → defined v (d ∷ ds) ≡ none → same_value v (value_of d) ≡ false
unfolding defined
not_first v d ds e = either (same_value v (value_of d)) (λ y. absurd (some-ne-none _ (sym (if_true _ _ _ y) ∙ e))) (λ n. n)

pub not_behind : (v : P.Value) (d : P.Define) (ds : List P.Define) → defined v (d ∷ ds) ≡ none → defined v ds ≡ none
unfolding defined
not_behind v d ds e = sym (if_false _ _ _ (not_first v d ds e)) ∙ e

-- a value is defined by more definitions
pub some_more : (v : P.Value) (above more : List P.Define) → is_some (defined v above) ≡ true → is_some (defined v (above ++ more)) ≡ true
unfolding defined is_some
some_more v [] more e = absurd (false≢true e)
some_more v (b ∷ above) more e =
    either (same_value v (value_of b))
    (λ y. ap is_some (if_true _ _ _ y))
    (λ n. ap is_some (if_false _ _ _ n) ∙ some_more v above more (ap is_some (sym (if_false _ _ _ n)) ∙ e))

-- and by its own
pub some_own : (d : P.Define) (above : List P.Define) → is_some (defined (value_of d) (above ++ (d ∷ []))) ≡ true
unfolding defined is_some
some_own d [] = ap is_some (if_true _ _ _ (value_self (value_of d)))
some_own d (b ∷ above) =
    either (same_value (value_of d) (value_of b)) (λ y. ap is_some (if_true _ _ _ y)) (λ n. ap is_some (if_false _ _ _ n) ∙ some_own d above)

none_some : {A : Type 0} (o : Option P.Define) → o ≡ none → is_some o ≡ true → A
unfolding is_some
none_some o e f = absurd (false≢true (ap is_some (sym e) ∙ f))

-- what the lines above define no line of a sound form defines again
pub fresh : (k : ℕ) (above : List P.Define) (ls : List P.FormLine) (v : P.Value) → first_broken k above ls ≡ none → is_some (defined v above) ≡ true → defined v (asked ls) ≡ none
unfolding asked value_sound defined
fresh k above [] v e s = refl
fresh k above (P.draw b ∷ ls) v e s =
    let below = (broken_cons k above (P.draw b) ls e).2 in
    fresh (suc k) above ls v (rw append-nil at below) s
fresh k above (P.define b ∷ ls) v e s =
    let all = broken_cons k above (P.define b) ls e in
    let new : defined (value_of b) above ≡ none = not_some (defined (value_of b) above) (not-true _ all.1.0) in
    let rest = fresh (suc k) (above ++ (b ∷ [])) ls v all.2 (some_more v above (b ∷ []) s) in
    either (same_value v (value_of b))
    (λ y. none_some (defined v above) (rw (same_value_equal v (value_of b) y) new) s)
    (λ n. if_false _ _ _ n ∙ rest)

-- the definitions of a sound form are distinct
pub distinct : (k : ℕ) (above : List P.Define) (ls : List P.FormLine) → first_broken k above ls ≡ none → Distinct (asked ls)
unfolding asked
distinct k above [] e = tt
distinct k above (P.draw b ∷ ls) e = distinct (suc k) (above ++ []) ls (broken_cons k above (P.draw b) ls e).2
distinct k above (P.define b ∷ ls) e =
    let below = (broken_cons k above (P.define b) ls e).2 in
    (fresh (suc k) (above ++ (b ∷ [])) ls (value_of b) below (some_own b above), distinct (suc k) (above ++ (b ∷ [])) ls below)

-- how many definitions have a number below a bound
unfoldable one : Bool → ℕ
one true = 1
one false = 0

unfoldable count : ℕ → List P.Define → ℕ
count n [] = 0
count n (d ∷ ds) = one (ltb (number_of (value_of d)) n) + count n ds

-- a number is below the next bound if it is below this one, unless it is the bound
next_bound : (m n : ℕ) → (m ≡ n → ⊥) → ltb m (suc n) ≡ ltb m n
next_bound m n h = either (ltb m n) (λ y. lt-ltb m (suc n) (omega tests) ∙ sym y) (λ e. le-ltb m (suc n) (omega tests) ∙ sym e)

other_number : (v : P.Value) (d : P.Define) → Small v → all_of (define_ranges d) ≡ true → same_value v (value_of d) ≡ false → number_of (value_of d) ≡ number_of v → ⊥
other_number v d h r n q = clash (number_same v (value_of d) h (small d r) (sym q)) n

-- none has the number of a value that they do not define
none_at : (ds : List P.Define) (v : P.Value) → Small v → Ranged ds → defined v ds ≡ none → count (suc (number_of v)) ds ≡ count (number_of v) ds
unfolding count
none_at [] v h r e = refl
none_at (d ∷ ds) v h r e =
    rw (next_bound (number_of (value_of d)) (number_of v) (other_number v d h r.0 (not_first v d ds e)), none_at ds v h r.1 (not_behind v d ds e))

-- so at most one has each number
one_at : (n : ℕ) (ds : List P.Define) → Distinct ds → Ranged ds → count (suc n) ds ≤ suc (count n ds)
unfolding count one
one_at n [] i r = omega arith
one_at n (d ∷ ds) i r =
    either (eqb (number_of (value_of d)) n)
    (λ y.
    let is : number_of (value_of d) ≡ n = eqb-true _ _ y in
    let none_more : count (suc n) ds ≡ count n ds = rw is at (none_at ds (value_of d) (small d r.0) r.1 i.0) in
    rw (lt-ltb (number_of (value_of d)) (suc n) (omega arith), le-ltb (number_of (value_of d)) n (omega arith), none_more) (omega arith))
    (λ o.
    let rest = one_at n ds i.1 r.1 in
    rw (next_bound (number_of (value_of d)) n (eqb-false _ _ o)) (omega arith))

none_below : (ds : List P.Define) → count 0 ds ≤ 0
unfolding count one
none_below [] = omega arith
none_below (d ∷ ds) = rw (le-ltb (number_of (value_of d)) 0 (omega arith)) (omega (arith, none_below ds))

count_few : (n : ℕ) (ds : List P.Define) → Distinct ds → Ranged ds → count n ds ≤ n
count_few zero ds i r = none_below ds
count_few (suc n) ds i r = omega (arith, one_at n ds i r, count_few n ds i r)

count_all : (ds : List P.Define) → Ranged ds → count 26 ds ≡ length ds
unfolding count one
count_all [] r = refl
count_all (d ∷ ds) r = rw (lt-ltb (number_of (value_of d)) 26 (number_below (value_of d) (small d r.0))) (omega (arith, count_all ds r.1))

-- there are 26 at most
pub defines_few : (ds : List P.Define) → Distinct ds → Ranged ds → length ds ≤ 26
defines_few ds i r = omega (arith, count_all ds r, count_few 26 ds i r)

-- those of a form that the store may hold
pub asked_few : (ls : List P.FormLine) → Storable width ls → length (asked ls) ≤ 26
unfolding unsound_at
asked_few ls s = defines_few (asked ls) (distinct 0 [] ls s.sound) (ranged width ls s.inside)
