-- The values of a form's answers: each definition's four numbers stand at the place of its value, and its answer in the answers.
use Prim.Native.Nat.{ℕ, ◌+◌, ◌-◌, ◌*◌, ◌≤◌, ◌<◌}
use mathlib.Core.Path.{◌≡◌, refl, sym, ◌∙◌, ap}
use mathlib.Core.Bool.{true, false≢true}
use mathlib.Core.List.{List, [], ◌∷◌, ◌++◌}
use mathlib.Core.Option.{none}
use native.Mathlib.Omega.{arith}
use lib.ListN.{length, drop, get_or, set, length-append, length-drop, length-set}
use lib.Seq.{get_or-set_same, get_or-set_other, take-append_seam, drop-append_seam, drop-drop}
use Rattle.paper.specs.Command as P
use Rattle.paper.specs.Command.{define_ranges, all_of}
use Rattle.paper.specs.Form.{value_of, same_value, defined, is_some}
use Rattle.paper.specs.Set.{fits, shows, value_in}
use Rattle.paper.specs.State.{fitting}
use Rattle.paper.proofs.Law.{if_true, if_false, and_left, and_right}
use Rattle.paper.proofs.Test.{either, clash}
use Rattle.form.specs.Walk.{part_of}
use Rattle.form.specs.Plan.{number_of, kind_of, step_size, four_at}
use Rattle.set.specs.Answers.{answers_text, first_of, second_of, with_answer, values_from}
use Rattle.form.proofs.Distinct.{Ranged, Distinct, Small, small, number_below, number_same, same_value_equal, not_first, not_behind}

-- four numbers at a place, and those elsewhere
module _ (values : List ℕ) (at first second kind step : ℕ) where
  pub four_length : length (four_at values at first second kind step) ≡ length values
  unfolding four_at
  four_length = simp length-set

  abbrev One : List ℕ
  One = set values at first

  abbrev Two : List ℕ
  Two = set One (at + 1) second

  abbrev Three : List ℕ
  Three = set Two (at + 2) kind

  module _ (h : at + 3 < length values) where
    four_first : get_or (four_at values at first second kind step) at 0 ≡ first
    unfolding four_at
    four_first =
        get_or-set_other Three (at + 3) at step 0 (λ e. omega arith) ∙ get_or-set_other Two (at + 2) at kind 0 (λ e. omega arith)
        ∙ get_or-set_other One (at + 1) at second 0 (λ e. omega arith) ∙ get_or-set_same values at first 0 (omega arith)

    four_second : get_or (four_at values at first second kind step) (at + 1) 0 ≡ second
    unfolding four_at
    four_second =
        get_or-set_other Three (at + 3) (at + 1) step 0 (λ e. omega arith) ∙ get_or-set_other Two (at + 2) (at + 1) kind 0 (λ e. omega arith)
        ∙ get_or-set_same One (at + 1) second 0 (rw length-set (omega arith))

    four_kind : get_or (four_at values at first second kind step) (at + 2) 0 ≡ kind
    unfolding four_at
    four_kind =
        get_or-set_other Three (at + 3) (at + 2) step 0 (λ e. omega arith)
        ∙ get_or-set_same Two (at + 2) kind 0 (rw (length-set, length-set) (omega arith))

    four_step : get_or (four_at values at first second kind step) (at + 3) 0 ≡ step
    unfolding four_at
    four_step = get_or-set_same Three (at + 3) step 0 (rw (length-set, length-set, length-set) (omega arith))

  four_out : (m : ℕ) → (m ≡ at → ⊥) → (m ≡ at + 1 → ⊥) → (m ≡ at + 2 → ⊥) → (m ≡ at + 3 → ⊥) → get_or (four_at values at first second kind step) m 0 ≡ get_or values m 0
  unfolding four_at
  four_out m p q r s =
      get_or-set_other Three (at + 3) m step 0 s ∙ get_or-set_other Two (at + 2) m kind 0 r
      ∙ get_or-set_other One (at + 1) m second 0 q ∙ get_or-set_other values at m first 0 p

-- a number stands in the four of one value only
four_other : (values : List ℕ) (n v first second kind step m : ℕ) → (n ≡ v → ⊥) → v * 4 ≤ m → m < v * 4 + 4 → get_or (four_at values (n * 4) first second kind step) m 0 ≡ get_or values m 0
four_other values n v first second kind step m d h k =
    four_out values (n * 4) first second kind step m (λ e. d (omega arith)) (λ e. d (omega arith)) (λ e. d (omega arith)) (λ e. d (omega arith))

pub from_length : (place : ℕ) (values : List ℕ) (ds : List P.Define) (given : List (List ℕ)) → length (values_from place values ds given) ≡ length values
unfolding values_from with_answer
from_length place values [] given = refl
from_length place values (d ∷ ds) [] = refl
from_length place values (d ∷ ds) (a ∷ more) = from_length (place + length a) (with_answer values d a place) ds more ∙ four_length values _ _ _ _ _

-- answers to other definitions leave a value's numbers
from_other : (place : ℕ) (values : List ℕ) (ds : List P.Define) (given : List (List ℕ)) (v : P.Value) (m : ℕ) → Small v → Ranged ds → defined v ds ≡ none → number_of v * 4 ≤ m → m < number_of v * 4 + 4
    → get_or (values_from place values ds given) m 0 ≡ get_or values m 0
unfolding values_from with_answer
from_other place values [] given v m s r e h k = refl
from_other place values (d ∷ ds) [] v m s r e h k = refl
from_other place values (d ∷ ds) (a ∷ more) v m s r e h k =
    from_other (place + length a) (with_answer values d a place) ds more v m s r.1 (not_behind v d ds e) h k
    ∙ four_other values (number_of (value_of d)) (number_of v) _ _ _ _ m (λ q. clash (number_same v (value_of d) s (small d r.0) (sym q)) (not_first v d ds e)) h k

-- a definition with its answer is kept in the values, and the answer stands in the answers
pub record Kept (values answers : List ℕ) (d : P.Define) (a : List ℕ) : Type 0 where
  pub place : ℕ
  pub first : get_or values (number_of (value_of d) * 4) 0 ≡ first_of d a place
  pub second : get_or values (number_of (value_of d) * 4 + 1) 0 ≡ second_of d a place
  pub kind : get_or values (number_of (value_of d) * 4 + 2) 0 ≡ kind_of d
  pub step : get_or values (number_of (value_of d) * 4 + 3) 0 ≡ step_size d
  pub here : part_of answers place (place + length a) ≡ a
  pub inside : place + length a ≤ length answers

abbrev pub AllKept : (values answers : List ℕ) → List P.Define → List (List ℕ) → Type 0
AllKept values answers [] given = Unit
AllKept values answers (d ∷ ds) [] = Unit
AllKept values answers (d ∷ ds) (a ∷ more) = Kept values answers d a × AllKept values answers ds more

pub all_kept : (place : ℕ) (values answers : List ℕ) (ds : List P.Define) (given : List (List ℕ)) → Distinct ds → Ranged ds → 104 ≤ length values → drop place answers ≡ answers_text given → place ≤ length answers
    → AllKept (values_from place values ds given) answers ds given
unfolding values_from with_answer answers_text part_of
all_kept place values answers [] given i r h e k = tt
all_kept place values answers (d ∷ ds) [] i r h e k = tt
all_kept place values answers (d ∷ ds) (a ∷ more) i r h e k =
    let s = small d r.0 in
    let below = number_below (value_of d) s in
    let at = number_of (value_of d) * 4 in
    let room : at + 3 < length values = omega arith in
    let stays = from_other (place + length a) (four_at values at (first_of d a place) (second_of d a place) (kind_of d) (step_size d)) ds more (value_of d) in
    let size : place + length a - place ≡ length a = omega arith in
    let end : place + length a ≤ length answers = omega (arith, simp (length-drop, length-append) at (ap length e)) in (
      record {
        place = place;
        first = stays at s r.1 i.0 (omega arith) (omega arith) ∙ four_first values at _ _ _ _ room;
        second = stays (at + 1) s r.1 i.0 (omega arith) (omega arith) ∙ four_second values at _ _ _ _ room;
        kind = stays (at + 2) s r.1 i.0 (omega arith) (omega arith) ∙ four_kind values at _ _ _ _ room;
        step = stays (at + 3) s r.1 i.0 (omega arith) (omega arith) ∙ four_step values at _ _ _ _ room;
        here = rw (size, e) (take-append_seam a (answers_text more));
        inside = end;
      },
      all_kept (place + length a) _ answers ds more i.1 r.1 (rw four_length h) (sym (drop-drop (length a) place answers) ∙ rw e (drop-append_seam a (answers_text more))) end,
    )

-- the definition of a value with its answer
pub record Found (values answers : List ℕ) (ds : List P.Define) (given : List (List ℕ)) (i : ℕ) (v : P.Value) : Type 0 where
  pub define : P.Define
  pub answer : List ℕ
  pub kept : Kept values answers define answer
  pub value : v ≡ value_of define
  pub shows : value_in ds given i v ≡ shows define answer i
  pub fit : fits define answer ≡ true
  pub range : all_of (define_ranges define) ≡ true

pub found : (values answers : List ℕ) (ds : List P.Define) (given : List (List ℕ)) (i : ℕ) (v : P.Value) → AllKept values answers ds given → Ranged ds → fitting ds given ≡ true → is_some (defined v ds) ≡ true
    → Found values answers ds given i v
unfolding defined value_in fitting is_some
found values answers [] given i v k r f e = absurd (false≢true e)
found values answers (d ∷ ds) [] i v k r f e = absurd (false≢true f)
found values answers (d ∷ ds) (a ∷ more) i v k r f e =
    either (same_value v (value_of d))
    (λ y. record { define = d; answer = a; kept = k.0; value = same_value_equal v (value_of d) y; shows = if_true _ _ _ y; fit = and_left (fits d a) _ f; range = r.0 })
    (λ n.
    let g = found values answers ds more i v k.1 r.1 (and_right (fits d a) _ f) (ap is_some (sym (if_false _ _ _ n)) ∙ e) in
    record { define = g.define; answer = g.answer; kept = g.kept; value = g.value; shows = if_false _ _ _ n ∙ g.shows; fit = g.fit; range = g.range })

-- one definition more with its answer
pub from_more : (place : ℕ) (values : List ℕ) (ds : List P.Define) (given : List (List ℕ)) (d : P.Define) (a : List ℕ) → fitting ds given ≡ true
    → values_from place values (ds ++ (d ∷ [])) (given ++ (a ∷ [])) ≡ with_answer (values_from place values ds given) d a (place + length (answers_text given))
unfolding values_from answers_text fitting
from_more place values [] [] d a f = let none : place + 0 ≡ place = omega arith in rw none
from_more place values [] (b ∷ given) d a f = absurd (false≢true f)
from_more place values (x ∷ ds) [] d a f = absurd (false≢true f)
from_more place values (x ∷ ds) (b ∷ given) d a f =
    let sum : place + length (b ++ answers_text given) ≡ place + length b + length (answers_text given) = rw length-append (omega arith) in
    rw sum (from_more (place + length b) _ ds given d a (and_right (fits x b) _ f))
