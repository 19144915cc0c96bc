-- What the other tablets forbid, and what may be said of them where they forbid nothing.
use mathlib.Core.Path.{◌≡◌, refl, sym, ◌∙◌}
use mathlib.Core.Bool.{Bool, true, false, ◌&&◌, ◌||◌, not, true≢false}
use mathlib.Core.List.{List}
use mathlib.Core.Option.{Option, none, some, some-injective, some-ne-none}
use Prim.Native.Nat.{ℕ, zero, suc, ◌<◌}
use native.Mathlib.Omega.{arith}
use lib.Dec.{eqb}
use borrow.Author.Tests.{eqb-true, eqb-false}
use Rattle.paper.specs.Byte.{when◌then◌else◌, same}
use Rattle.paper.specs.Command.{Filing, start, finish, inform, recall, delete, star}
use Rattle.paper.specs.Refusal.{Refusal, others_collect, held_open}
use Rattle.paper.specs.Form.{is_some, find}
use Rattle.paper.specs.Bench.{Session, idle, collecting, spoiled, opened, answering, ready, printing}
use Rattle.paper.specs.Class.{Tablet, Class, thirty, at_rest, collects, holds_form, another_below, another, filing_of, starts, strikes, barred}
use Rattle.paper.proofs.Law.{if_true, if_false, and_both}
use Rattle.paper.proofs.Test.{either}
use Rattle.paper.proofs.Invariant.{ends_form}

-- of two tests neither passes
pub neither_left : (a b : Bool) → (a || b) ≡ false → a ≡ false
neither_left true b e = absurd (true≢false e)
neither_left false b e = refl

pub neither_right : (a b : Bool) → (a || b) ≡ false → b ≡ false
neither_right true b e = absurd (true≢false e)
neither_right false b e = e

-- nothing is some and none
pub some_none : {A B : Type 0} {a : A} {o : Option A} → o ≡ some a → o ≡ none → B
some_none {a = a} p q = absurd (some-ne-none a (sym p ∙ q))

-- no other passes a test that each of them fails
below_none : (n : ℕ) (c : Class) (t : ℕ) (test : Tablet → Bool) → ((k : ℕ) → eqb k t ≡ false → test (c.tablet k) ≡ false) → another_below n c t test ≡ false
unfolding another_below
below_none zero c t test e = refl
below_none (suc n) c t test e =
    either (eqb n t)
    (λ y. rw y (below_none n c t test e))
    (λ m. rw (m, e n m) (below_none n c t test e))

pub no_other : (c : Class) (t : ℕ) (test : Tablet → Bool) → ((k : ℕ) → eqb k t ≡ false → test (c.tablet k) ≡ false) → another c t test ≡ false
unfolding another
no_other c t test e = below_none thirty c t test e

-- each other fails a test that no other passes
below_each : (n : ℕ) (c : Class) (t k : ℕ) (test : Tablet → Bool) → k < n → eqb k t ≡ false → another_below n c t test ≡ false → test (c.tablet k) ≡ false
unfolding another_below
below_each zero c t k test l e a = absurd (omega arith)
below_each (suc n) c t k test l e a =
    either (eqb k n)
    (λ y. let here = eqb-true k n y in rw e at (neither_left (not (eqb k t) && test (c.tablet k)) _ (rw (← here) at a)))
    (λ m. let apart = eqb-false k n m in below_each n c t k test (omega arith) e (neither_right (not (eqb n t) && test (c.tablet n)) _ a))

pub each_other : (c : Class) (t k : ℕ) (test : Tablet → Bool) → k < 30 → eqb k t ≡ false → another c t test ≡ false → test (c.tablet k) ≡ false
unfolding another thirty
each_other c t k test l e a = below_each 30 c t k test l e a

-- no other stands in the way of a line that strikes no form
pub unstruck : (c : Class) (t : ℕ) (f : Option Filing) → ((h : List ℕ) → strikes f h ≡ false) → another c t (λ x. holds_form x.session && strikes f x.form) ≡ false
unstruck c t f e = no_other c t _ (λ k n. either (holds_form (c.tablet k).session) (λ y. rw (y, e (c.tablet k).form)) (λ m. rw m))

-- where none stands in the way nothing is forbidden
pub barred_free : (c : Class) (t : ℕ) (f : Option Filing) → (starts c.forms f && another c t (λ x. collects x.session)) ≡ false → another c t (λ x. holds_form x.session && strikes f x.form) ≡ false → barred c t f ≡ none
unfolding barred
barred_free c t f p q = if_false _ _ _ p ∙ if_false _ _ _ q

-- line by line: nothing to the store, `FS`, `FK`, and the others
pub barred_none : (c : Class) (t : ℕ) → barred c t none ≡ none
unfolding starts strikes
barred_none c t = barred_free c t none refl (unstruck c t none (λ h. refl))

pub barred_recall : (c : Class) (t : ℕ) (name : List ℕ) → barred c t (some (recall name)) ≡ none
unfolding starts strikes
barred_recall c t name = barred_free c t (some (recall name)) refl (unstruck c t (some (recall name)) (λ h. refl))

pub barred_inform : (c : Class) (t : ℕ) → barred c t (some inform) ≡ none
unfolding starts strikes
barred_inform c t = barred_free c t (some inform) refl (unstruck c t (some inform) (λ h. refl))

pub barred_finish : (c : Class) (t : ℕ) → barred c t (some finish) ≡ none
unfolding starts strikes
barred_finish c t = barred_free c t (some finish) refl (unstruck c t (some finish) (λ h. refl))

pub barred_start : (c : Class) (t : ℕ) (name : List ℕ) → barred c t (some (start name)) ≡ (when not (is_some (find name c.forms)) && another c t (λ x. collects x.session) then some others_collect else none)
unfolding barred starts strikes
barred_start c t name = rw (if_false {A = Option Refusal} _ (some held_open) none (unstruck c t (some (start name)) (λ h. refl)))

pub barred_delete : (c : Class) (t : ℕ) (name : List ℕ) → barred c t (some (delete name)) ≡ (when another c t (λ x. holds_form x.session && (same name star || same name x.form)) then some held_open else none)
unfolding barred starts strikes when◌then◌else◌
barred_delete c t name = refl

-- where a form may be started no other collects
pub may_start : (c : Class) (t : ℕ) (f : Option Filing) → barred c t f ≡ none → starts c.forms f ≡ true → another c t (λ x. collects x.session) ≡ false
unfolding barred
may_start c t f e s =
    either (another c t (λ x. collects x.session))
    (λ y. some_none (if_true _ _ _ (and_both _ _ s y)) e)
    (λ n. n)

-- what may be deleted no other holds open
pub may_strike : (c : Class) (t : ℕ) (f : Option Filing) → barred c t f ≡ none → another c t (λ x. holds_form x.session && strikes f x.form) ≡ false
unfolding barred
may_strike c t f e =
    either (starts c.forms f && another c t (λ x. collects x.session))
    (λ y. some_none (if_true _ _ _ y) e)
    (λ n.
    either (another c t (λ x. holds_form x.session && strikes f x.form))
    (λ y. some_none (if_false _ _ _ n ∙ if_true _ _ _ y) e)
    (λ m. m))

-- what is forbidden ends no draft
pub barred_ends : (c : Class) (t : ℕ) (f : Option Filing) (r : Refusal) → barred c t f ≡ some r → ends_form r ≡ false
unfolding barred ends_form
barred_ends c t f r e =
    either (starts c.forms f && another c t (λ x. collects x.session))
    (λ y. rw (← some-injective _ _ (sym (if_true _ _ _ y) ∙ e)))
    (λ n.
    either (another c t (λ x. holds_form x.session && strikes f x.form))
    (λ y. rw (← some-injective _ _ (sym (if_false _ _ _ n ∙ if_true _ _ _ y) ∙ e)))
    (λ m. some_none e (if_false _ _ _ n ∙ if_false _ _ _ m)))

-- only in Idle may a line be forbidden
pub barred_idle : (width : ℕ) (c : Class) (t : ℕ) (st : Session) (s : List ℕ) (r : Refusal) → barred c t (filing_of width st s) ≡ some r → st ≡ idle
unfolding filing_of at_rest when◌then◌else◌
barred_idle width c t idle s r e = refl
barred_idle width c t (collecting name ls) s r e = some_none e (barred_none c t)
barred_idle width c t spoiled s r e = some_none e (barred_none c t)
barred_idle width c t (opened ls) s r e = some_none e (barred_none c t)
barred_idle width c t (answering ls given) s r e = some_none e (barred_none c t)
barred_idle width c t (ready ls given) s r e = some_none e (barred_none c t)
barred_idle width c t (printing ls given n k i) s r e = some_none e (barred_none c t)

-- who is not Idle sends nothing that matters to others
pub busy_files : (width : ℕ) (st : Session) (s : List ℕ) → at_rest st ≡ false → filing_of width st s ≡ none
unfolding filing_of
busy_files width st s e = if_false _ _ _ e
