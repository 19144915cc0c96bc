-- Numbers of a class: how many print, by the tests of the code; and the sets that a tablet has left, and all together.
use Prim.Native.Nat.{ℕ, suc, ◌+◌, ◌-◌, ◌*◌, ◌≤◌, ◌<◌}
use mathlib.Core.Path.{◌≡◌, refl, sym, ◌∙◌, ap}
use mathlib.Core.Bool.{true, false, false≢true, true≢false}
use mathlib.Core.List.{List, [], ◌∷◌}
use native.Mathlib.Omega.{arith}
use lib.ListN.{length, get_or, set, length-set, get_or-append}
use lib.Seq.{set-get_or}
use lib.Dec.{eqb}
use borrow.Author.Tests.{eq-eqb, ne_eqb, lt-ltb, le-ltb}
use Rattle.paper.specs.Form.{Form}
use Rattle.paper.specs.Bench as P
use Rattle.paper.specs.State.{Sound}
use Rattle.paper.specs.Program.{to_take}
use Rattle.paper.specs.Class.{thirty, prints, printers}
use Rattle.paper.proofs.Law.{if_true, if_false}
use Rattle.command.specs.View.{width}
use Rattle.session.specs.Memory.{Session, holding, holds, packed_session, number_of}
use Rattle.seats.specs.Numbers.{code_of, held_in}
use Rattle.seats.specs.Seats.{numbers_of}
use Rattle.seats.proofs.Parted.{numbers_length, numbers_at}
use Rattle.lend.specs.Laid.{numbered}
use Rattle.tablets.specs.Calls.{packed_tablet, packed_class, recounted, left_of, left_below, Counts, SetsLeft, AllLeft}
use Rattle.tablets.proofs.Hearing.{numbered_length, numbered_last, numbered_count, held_numbered, with_tag}

-- the count put right, by the tests of the code
module _ (held : List ℕ) (whole : length held ≡ 302) (was is : ℕ) where
  written_length : (n : ℕ) → length (set held 301 n) ≡ 302
  written_length n = length-set held 301 n ∙ whole

  -- the tag is what it was
  pub recount_same : was ≡ is → (held ≡ set held 301 (recounted (get_or held 301 0) was is)) × (length held ≡ 302)
  unfolding recounted
  recount_same e = (sym (ap (set held 301) (if_true _ _ _ (eq-eqb was is e)) ∙ set-get_or held 301 0), whole)

  -- one less prints
  pub recount_fewer : (was ≡ is → ⊥) → was ≡ 6 → (r : ℕ) → r ≡ get_or held 301 0 - 1
      → (set held 301 r ≡ set held 301 (recounted (get_or held 301 0) was is)) × (length (set held 301 r) ≡ 302)
  unfolding recounted
  recount_fewer n e r q = (ap (set held 301) (q ∙ sym (if_false _ _ _ (ne_eqb was is n) ∙ if_true _ _ _ (eq-eqb was 6 e))), written_length r)

  -- one more
  pub recount_more : (was ≡ is → ⊥) → (was ≡ 6 → ⊥) → is ≡ 6
      → (set held 301 (get_or held 301 0 + 1) ≡ set held 301 (recounted (get_or held 301 0) was is)) × (length (set held 301 (get_or held 301 0 + 1)) ≡ 302)
  unfolding recounted
  recount_more n m e =
      (ap (set held 301) (sym (if_false _ _ _ (ne_eqb was is n) ∙ if_false _ _ _ (ne_eqb was 6 m) ∙ if_true _ _ _ (eq-eqb is 6 e))), written_length _)

  -- as many
  pub recount_other : (was ≡ is → ⊥) → (was ≡ 6 → ⊥) → (is ≡ 6 → ⊥) → (held ≡ set held 301 (recounted (get_or held 301 0) was is)) × (length held ≡ 302)
  unfolding recounted
  recount_other n m o =
      (sym (ap (set held 301) (if_false _ _ _ (ne_eqb was is n) ∙ if_false _ _ _ (ne_eqb was 6 m) ∙ if_false _ _ _ (ne_eqb is 6 o)) ∙ set-get_or held 301 0), whole)

-- a number of a tablet's session, where it stands
numbered_at : (f : ℕ → Session) (last printing t i : ℕ) → t < 30 → i < 10 → get_or (numbered f last printing) (t * 10 + i) 0 ≡ get_or (held_in (f t).held) i 0
unfolding numbered
numbered_at f last printing t i l m =
    get_or-append (numbers_of (λ k. (f k).held)) (last ∷ printing ∷ []) 0 (t * 10 + i) (rw (numbers_length (λ k. (f k).held)) (omega arith))
    ∙ numbers_at (λ k. (f k).held) t i l m

-- the numbers of a class
module _ (held : List ℕ) (k : Counts held) where
  pub counts_numbered : held ≡ numbered (λ j. packed_tablet k.class.forms (k.class.tablet j)) k.class.last (printers k.class)
  unfolding packed_class
  counts_numbered = k.is ∙ held_numbered k.class (printers k.class)

  -- their length, the tablet last served, and how many print
  pub counts_length : length held ≡ 302
  counts_length = ap length counts_numbered ∙ numbered_length _ _ _

  pub counts_last : get_or held 300 0 ≡ k.class.last
  counts_last = ap (λ xs. get_or xs 300 0) counts_numbered ∙ numbered_last _ _ _

  pub counts_printers : get_or held 301 0 ≡ printers k.class
  counts_printers = ap (λ xs. get_or xs 301 0) counts_numbered ∙ numbered_count _ _ _

  -- whether a tablet prints
  pub counts_prints : (t : ℕ) → t < 30 → eqb (get_or held (t * 10) 0) 6 ≡ prints (k.class.tablet t).session
  unfolding packed_class
  counts_prints t l = ap (λ xs. eqb (get_or xs (t * 10) 0) 6) k.is ∙ with_tag k.class (printers k.class) t l

  -- a number of its session
  counts_at : (t i : ℕ) → t < 30 → i < 10
      → get_or held (t * 10 + i) 0 ≡ get_or (held_in (packed_session k.class.forms (number_of (k.class.tablet t).form k.class.forms) (k.class.tablet t).session).held) i 0
  unfolding packed_tablet
  counts_at t i l m = ap (λ xs. get_or xs (t * 10 + i) 0) counts_numbered ∙ numbered_at _ _ _ t i l m

-- a session's numbers of its sets: those that were asked for, and those that are out
module _ (fs : List Form) (n : ℕ) where
  left_printing : (st : P.Session) → prints st ≡ true
      → get_or (held_in (packed_session fs n st).held) 1 0 - get_or (held_in (packed_session fs n st).held) 3 0 ≡ to_take st
  unfolding prints packed_session holding holds held_in code_of to_take
  left_printing P.idle e = absurd (false≢true e)
  left_printing (P.collecting name ls) e = absurd (false≢true e)
  left_printing P.spoiled e = absurd (false≢true e)
  left_printing (P.opened ls) e = absurd (false≢true e)
  left_printing (P.answering ls given) e = absurd (false≢true e)
  left_printing (P.ready ls given) e = absurd (false≢true e)
  left_printing (P.printing ls given k c i) e = refl

  -- no more are out than were asked for
  left_within : (st : P.Session) → Sound width fs st → prints st ≡ true
      → get_or (held_in (packed_session fs n st).held) 3 0 ≤ get_or (held_in (packed_session fs n st).held) 1 0
  unfolding prints packed_session holding holds held_in code_of
  left_within P.idle h e = absurd (false≢true e)
  left_within (P.collecting name ls) h e = absurd (false≢true e)
  left_within P.spoiled h e = absurd (false≢true e)
  left_within (P.opened ls) h e = absurd (false≢true e)
  left_within (P.answering ls given) h e = absurd (false≢true e)
  left_within (P.ready ls given) h e = absurd (false≢true e)
  left_within (P.printing ls given k c i) h e = let less : i < k = h.2.left in let within : i ≤ k = omega arith in within

-- who does not print has none
left_none : (st : P.Session) → prints st ≡ false → to_take st ≡ 0
unfolding prints to_take
left_none P.idle e = refl
left_none (P.collecting name ls) e = refl
left_none P.spoiled e = refl
left_none (P.opened ls) e = refl
left_none (P.answering ls given) e = refl
left_none (P.ready ls given) e = refl
left_none (P.printing ls given k c i) e = absurd (true≢false e)

-- `P` asks for at most 65,535 sets, so no more are ever left
pub left_few : (fs : List Form) (st : P.Session) → Sound width fs st → to_take st ≤ 65535
unfolding to_take
left_few fs P.idle h = omega arith
left_few fs (P.collecting name ls) h = omega arith
left_few fs P.spoiled h = omega arith
left_few fs (P.opened ls) h = omega arith
left_few fs (P.answering ls given) h = omega arith
left_few fs (P.ready ls given) h = omega arith
left_few fs (P.printing ls given k c i) h = omega (arith, h.2.counted)

-- the sets that a tablet has left: there is no such tablet
pub over_left : (held : List ℕ) (t : ℕ) → 30 ≤ t → SetsLeft held t 0
unfolding left_of thirty
over_left held t h = record { is = λ k. sym (if_false _ _ _ (le-ltb t 30 h)) }

module _ (held : List ℕ) (t : ℕ) (l : t < 30) where
  below_left : (k : Counts held) → left_of k.class t ≡ to_take (k.class.tablet t).session
  unfolding left_of thirty
  below_left k = if_true _ _ _ (lt-ltb t 30 l)

  -- its numbers are there
  pub left_inside : (i : ℕ) → i < 10 → Counts held → t * 10 + i < length held
  left_inside i m k = omega (arith, counts_length held k)

  -- it does not print
  pub silent_left : (get_or held (t * 10) 0 ≡ 6 → ⊥) → SetsLeft held t 0
  silent_left n = record { is = λ k. sym (below_left k ∙ left_none _ (sym (counts_prints held k t l) ∙ ne_eqb _ 6 n)) }

  -- it prints
  module _ (e : get_or held (t * 10) 0 ≡ 6) where
    tablet_prints : (k : Counts held) → prints (k.class.tablet t).session ≡ true
    tablet_prints k = sym (counts_prints held k t l) ∙ eq-eqb _ 6 e

    pub printing_within : Counts held → get_or held (t * 10 + 3) 0 ≤ get_or held (t * 10 + 1) 0
    printing_within k =
        rw (counts_at held k t 3 l (omega arith), counts_at held k t 1 l (omega arith)) (left_within _ _ (k.class.tablet t).session (k.sane.each t l) (tablet_prints k))

    pub printing_left : SetsLeft held t (get_or held (t * 10 + 1) 0 - get_or held (t * 10 + 3) 0)
    printing_left =
        record {
          is = λ k. rw (counts_at held k t 3 l (omega arith), counts_at held k t 1 l (omega arith)) (left_printing _ _ (k.class.tablet t).session (tablet_prints k) ∙ sym (below_left k));
        }

-- the tablets that were asked, and the sets that they have left together
pub record Summing (held : List ℕ) (n t : ℕ) : Type 0 where
  pub below : t ≤ 30
  pub few : n ≤ t * 65535
  pub is : (k : Counts held) → n ≡ left_below t k.class

pub summing_begins : (held : List ℕ) → Summing held 0 0
unfolding left_below
summing_begins held = record { below = omega arith; few = omega arith; is = λ k. refl }

module _ (held : List ℕ) (n t : ℕ) (s : Summing held n t) where
  -- one tablet more
  module _ (r : ℕ) (l : t < 30) (k₀ : Counts held) (left : SetsLeft held t r) where
    tablet_few : r ≤ 65535
    tablet_few = omega (arith, left.is k₀, below_left held t l k₀, left_few k₀.class.forms (k₀.class.tablet t).session (k₀.sane.each t l))

    pub summing_few : n + r ≤ 30 * 65535
    summing_few = omega (arith, s.few, tablet_few)

    pub summing_turns : Summing held (n + r) (t + 1)
    unfolding left_below
    summing_turns =
        let up : t + 1 ≡ suc t = omega arith in
        record {
          below = omega arith;
          few = omega (arith, s.few, tablet_few);
          is = λ k. rw up (ap (λ m. m + r) (s.is k) ∙ ap (λ m. left_below t k.class + m) (left.is k));
        }

  pub summing_ends : 30 ≤ t → AllLeft held n
  unfolding thirty
  summing_ends h = let all : t ≡ 30 = omega (arith, s.below) in record { is = λ k. s.is k ∙ ap (λ m. left_below m k.class) all }
