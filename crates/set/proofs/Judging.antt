-- An answer to a definition of a plan: the tests of the code decide whether it fits, and what is kept of it is noted at its value.
use Prim.Native.Nat.{ℕ, zero, suc, ◌+◌, ◌*◌, ◌≤◌, ◌<◌}
use mathlib.Core.Path.{◌≡◌, refl, sym, ◌∙◌, ap}
use mathlib.Core.Bool.{Bool, true, false, and-false}
use mathlib.Core.List.{List, [], ◌∷◌, ◌++◌}
use native.Mathlib.Omega.{arith}
use lib.ListN.{length, take, drop, get_or, replicate}
use lib.Dec.{eqb}
use borrow.Author.Tests.{le-leb, lt-leb, eqb-true, eqb-false}
use Rattle.paper.specs.Byte.{every}
use Rattle.paper.specs.Line.{is_digit}
use Rattle.paper.specs.Command as P
use Rattle.paper.specs.Command.{FormLine, is_shown, define_ranges, all_of}
use Rattle.paper.specs.Form.{asked, value_of, len_of}
use Rattle.paper.specs.Set.{amount, fits}
use Rattle.paper.proofs.Law.{if_true, if_false}
use Rattle.paper.proofs.Test.{either, held}
use Rattle.paper.proofs.Filled.{len_range}
use Rattle.command.specs.View.{width}
use Rattle.form.specs.Plan.{number_of, kind_of, step_size, four_at, plan_of}
use Rattle.set.specs.Answers.{answers_text, first_of, second_of, with_answer, values_in}
use Rattle.set.specs.Taking.{Asking, Answering, Notes}
use Rattle.set.specs.Judge.{amount_in, judged_as, Judges}
use Rattle.std.specs.Prelude.{Option, Some, None}
use Rattle.set.specs.declared.answer.Kept.{Kept}
use Rattle.form.proofs.Distinct.{Ranged, ranged, small, number_below}
use Rattle.set.proofs.Defining.{len_small, fits_len}
use Rattle.set.proofs.Keeping.{from_more}
use Rattle.set.proofs.Planned.{Defined, plan_define}

-- the k-th of definitions in range is in range
ranged_at : (ds : List P.Define) (k : ℕ) (d : P.Define) (more : List P.Define) → Ranged ds → drop k ds ≡ d ∷ more → all_of (define_ranges d) ≡ true
ranged_at [] zero d more r e = let z : ◌≡◌ {A = ℕ} 0 1 = cc in absurd (omega arith)
ranged_at [] (suc k) d more r e = let z : ◌≡◌ {A = ℕ} 0 1 = cc in absurd (omega arith)
ranged_at (x ∷ ds) zero d more r e = let same : x ≡ d = cc in rw (← same) r.0
ranged_at (x ∷ ds) (suc k) d more r e = ranged_at ds k d more r.1 e

-- and with those before it makes one more
pub take_more : (ds : List P.Define) (k : ℕ) (d : P.Define) (more : List P.Define) → drop k ds ≡ d ∷ more → take (k + 1) ds ≡ take k ds ++ (d ∷ [])
take_more [] zero d more e = let z : ◌≡◌ {A = ℕ} 0 1 = cc in absurd (omega arith)
take_more [] (suc k) d more e = let z : ◌≡◌ {A = ℕ} 0 1 = cc in absurd (omega arith)
take_more (x ∷ ds) zero d more e = let same : x ≡ d = cc in rw same
take_more (x ∷ ds) (suc k) d more e = let one : suc k + 1 ≡ suc (k + 1) = omega arith in rw one (ap (λ l. x ∷ l) (take_more ds k d more e))

defined_of : (plan : List ℕ) (ls : List FormLine) (k : ℕ) (d : P.Define) (more : List P.Define) → plan ≡ plan_of ls → drop k (asked ls) ≡ d ∷ more → Defined plan k d
defined_of plan ls k d more e q = rw e (plan_define ls k d more q)

-- an answer by its length and its bytes
fits_long : (d : P.Define) (a : List ℕ) → len_of d < length a → fits d a ≡ false
fits_long d a h = either (fits d a) (λ y. absurd (omega (arith, fits_len d a y))) (λ n. n)

fits_empty : (d : P.Define) (a : List ℕ) → (kind_of d ≡ 2 → ⊥) → length a < 1 → fits d a ≡ false
unfolding fits kind_of
fits_empty (P.counting n len letter by prompt) a k h = rw (lt-leb 1 (length a) h)
fits_empty (P.varying n len letter prompt) a k h = absurd (k refl)

fits_not : (d : P.Define) (a : List ℕ) → (kind_of d ≡ 2 → ⊥) → every is_digit a ≡ false → fits d a ≡ false
unfolding fits kind_of
fits_not (P.counting n len letter by prompt) a k h = rw (h, and-false)
fits_not (P.varying n len letter prompt) a k h = absurd (k refl)

kept_counter : (d : P.Define) (a : List ℕ) (given : ℕ) → (kind_of d ≡ 2 → ⊥) → 1 ≤ length a → length a ≤ len_of d → every is_digit a ≡ true → judged_as d a given ≡ Some (record { first = amount 0 a; second = length a })
unfolding judged_as fits kind_of len_of first_of second_of
kept_counter (P.counting n len letter by prompt) a given k low high e = if_true _ _ _ (rw (le-leb 1 (length a) low, le-leb (length a) len high, e))
kept_counter (P.varying n len letter prompt) a given k low high e = absurd (k refl)

kept_variable : (d : P.Define) (a : List ℕ) (given : ℕ) → kind_of d ≡ 2 → length a ≤ len_of d → every is_shown a ≡ true → judged_as d a given ≡ Some (record { first = given; second = given + length a })
unfolding judged_as fits kind_of len_of first_of second_of
kept_variable (P.counting n len letter (P.up by) prompt) a given k high e = absurd (omega (arith, k))
kept_variable (P.counting n len letter (P.down by) prompt) a given k high e = absurd (omega (arith, k))
kept_variable (P.varying n len letter prompt) a given k high e = if_true _ _ _ (rw (le-leb (length a) len high, e))

unfit : (d : P.Define) (a : List ℕ) (given : ℕ) → fits d a ≡ false → ◌≡◌ {A = Option Kept} None (judged_as d a given)
unfolding judged_as
unfit d a given e = sym (if_false _ _ _ e)

-- the number that is told tells of the bytes
no_digits : (a : List ℕ) (r : Option ℕ) → r ≡ amount_in a → r ≡ None → every is_digit a ≡ false
unfolding amount_in
no_digits a r e q = either (every is_digit a) (λ y. let is : ◌≡◌ {A = Option ℕ} (Some (amount 0 a)) None = sym (e ∙ if_true _ _ _ y) ∙ q in absurd cc) (λ n. n)

digits_told : (a : List ℕ) (n : ℕ) (r : Option ℕ) → r ≡ amount_in a → r ≡ Some n → (every is_digit a ≡ true) × (n ≡ amount 0 a)
unfolding amount_in
digits_told a n r e q =
    either (every is_digit a)
    (λ y. let is : ◌≡◌ {A = Option ℕ} (Some n) (Some (amount 0 a)) = sym q ∙ e ∙ if_true _ _ _ y in (y, cc))
    (λ m. let is : ◌≡◌ {A = Option ℕ} (Some n) None = sym q ∙ e ∙ if_false _ _ _ m in absurd cc)

abbrev some_kept : ℕ → ℕ → Option Kept
some_kept first second = Some (record { first = first; second = second })

-- one definition more with its answer
noted_more : (old : List ℕ) (ls : List FormLine) (k : ℕ) (given : List (List ℕ)) (d : P.Define) (more : List P.Define) (a : List ℕ) → Answering old ls k given → drop k (asked ls) ≡ d ∷ more
    → (first second n m l : ℕ) → first ≡ first_of d a (length (answers_text given)) → second ≡ second_of d a (length (answers_text given)) → n ≡ number_of (value_of d) → m ≡ kind_of d → l ≡ step_size d
    → four_at old (n * 4) first second m l ≡ values_in (take (k + 1) (asked ls)) (given ++ (a ∷ []))
unfolding values_in with_answer
noted_more old ls k given d more a g is first second n m l e f p q r =
    let front : 0 + length (answers_text given) ≡ length (answers_text given) = omega arith in
    let one = from_more 0 (replicate 104 0) (take k (asked ls)) given d a g.fit in
    rw (p, q, r, e, f, g.valued, take_more (asked ls) k d more is) (sym (rw front at one))

module _ (plan : List ℕ) (k : ℕ) where
  -- definition k as the plan has it
  stands : (t : Asking plan k) → Defined plan k t.define
  stands t = defined_of plan t.lines k t.define t.more t.planned t.is

  define_in_range : (t : Asking plan k) → all_of (define_ranges t.define) ≡ true
  define_in_range t = ranged_at (asked t.lines) k t.define t.more (ranged width t.lines t.storable.inside) t.is

  pub ask_inside : Asking plan k → 2 + k * 4 + 3 < length plan
  ask_inside t = (stands t).inside

  pub ask_placed : Asking plan k → get_or plan (2 + k * 4 + 3) 0 < 26
  ask_placed t = rw (stands t).value (number_below (value_of t.define) (small t.define (define_in_range t)))

  pub ask_nine : (a : List ℕ) → Asking plan k → (get_or plan (2 + k * 4) 0 ≡ 2 → ⊥) → length a ≤ get_or plan (2 + k * 4 + 1) 0 → length a ≤ 9
  ask_nine a t n h =
      let s = stands t in
      omega (arith, s.len, len_small t.define (define_in_range t) (λ q. n (s.kind ∙ q)))

  -- what fits it is short
  pub ask_short : (a : List ℕ) (t : Asking plan k) → fits t.define a ≡ true → length a ≤ 99
  ask_short a t f = omega (arith, fits_len t.define a f, len_range t.define (held (define_ranges t.define) (define_in_range t)))

  module _ (a : List ℕ) (given : ℕ) where
    pub judged_long : get_or plan (2 + k * 4 + 1) 0 < length a → Judges plan k a given None
    judged_long h = record { judges = λ t. unfit t.define a given (fits_long t.define a (rw (stands t).len at h)) }

    pub judged_variable : get_or plan (2 + k * 4) 0 ≡ 2 → length a ≤ get_or plan (2 + k * 4 + 1) 0 → every is_shown a ≡ true → Judges plan k a given (Some (record { first = given; second = given + length a }))
    judged_variable e h s = record { judges = λ t. sym (kept_variable t.define a given (sym (stands t).kind ∙ e) (rw (stands t).len at h) s) }

    module _ (n : get_or plan (2 + k * 4) 0 ≡ 2 → ⊥) where
      pub judged_empty : (t : Bool) → t ≡ eqb (length a) 0 → t ≡ true → Judges plan k a given None
      judged_empty t e y =
          let none : length a ≡ 0 = eqb-true (length a) 0 (sym e ∙ y) in
          record { judges = λ t. unfit t.define a given (fits_empty t.define a (λ q. n ((stands t).kind ∙ q)) (omega arith)) }

      pub judged_none : (r : Option ℕ) (v : Option Kept) → r ≡ amount_in a → r ≡ None → v ≡ None → Judges plan k a given v
      judged_none r v e q w = record { judges = λ t. w ∙ unfit t.define a given (fits_not t.define a (λ q. n ((stands t).kind ∙ q)) (no_digits a r e q)) }

      pub judged_counter : (r : Option ℕ) (m : ℕ) (t : Bool) → r ≡ amount_in a → r ≡ Some m → t ≡ eqb (length a) 0 → t ≡ false → length a ≤ get_or plan (2 + k * 4 + 1) 0
          → Judges plan k a given (Some (record { first = m; second = length a }))
      judged_counter r m t e q z f high =
          let d = digits_told a m r e q in
          let low : 1 ≤ length a = omega (arith, eqb-false (length a) 0 (sym z ∙ f)) in
          record {
            judges = λ t. ap (λ x. some_kept x (length a)) d.1 ∙ sym (kept_counter t.define a given (λ q. n ((stands t).kind ∙ q)) low (rw (stands t).len at high) d.0);
          }

  -- what is kept is noted at the value
  pub notes_value : (old : List ℕ) (first second : ℕ) (new : List ℕ) → new ≡ four_at old (get_or plan (2 + k * 4 + 3) 0 * 4) first second (get_or plan (2 + k * 4) 0) (get_or plan (2 + k * 4 + 2) 0) → Notes old plan k first second new
  notes_value old first second new is =
      record {
        notes = λ t given a g e f.
            let s = stands t in
            is ∙ noted_more old t.lines k given t.define t.more a g t.is first second _ _ _ e f s.value s.kind s.step;
      }
