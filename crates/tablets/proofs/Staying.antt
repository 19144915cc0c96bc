-- A line of one tablet leaves every other tablet's memory as it was, unless a form leaves the store that others may have to follow.
use mathlib.Core.Path.{◌≡◌, refl, sym, ◌∙◌, ap}
use mathlib.Core.Bool.{Bool, true, false, true≢false, ◌&&◌, ◌||◌}
use mathlib.Core.List.{List}
use mathlib.Core.Option.{Option, none, some}
use Prim.Native.Nat.{ℕ, ◌<◌}
use lib.Dec.{eqb}
use Rattle.paper.specs.Byte.{same}
use Rattle.paper.specs.Command.{FormLine, Filing, delete, star}
use Rattle.paper.specs.Form.{Form, find, stored}
use Rattle.paper.specs.Bench.{Session, deleted}
use Rattle.paper.specs.Class.{Class, holds_form, strikes, SaneClass}
use Rattle.paper.proofs.Law.{if_false}
use Rattle.paper.proofs.Test.{either}
use Rattle.paper.proofs.Store.{without_absent}
use Rattle.paper.proofs.Others.{may_strike, each_other}
use Rattle.paper.proofs.Changes.{Changes, as_before, joined, struck}
use Rattle.command.specs.View.{width}
use Rattle.seats.proofs.Gone.{rests_alike}
use Rattle.seats.proofs.Joining.{joins_alike}
use Rattle.guard.specs.Guarded.{Harmless, absent, unheld, Frees}
use Rattle.tablets.specs.Calls.{packed_tablet}
use Rattle.tablets.proofs.Naming.{open_none}

-- who is meant by a star holds nothing
star_none : (h : Bool) (name form : List ℕ) → (h && (same name star || same name form)) ≡ false → same name star ≡ true → h ≡ false
star_none true name form e y = absurd (true≢false (sym (rw y) ∙ e))
star_none false name form e y = refl

module _ (c : Class) (t : ℕ) (f : Option Filing) (sane : SaneClass width c) (k : ℕ) (l : k < 30) (n : eqb k t ≡ false) where
  -- a form that joins comes last
  joined_alike : (name : List ℕ) (ls : List FormLine) → packed_tablet (stored c.forms name ls) (c.tablet k) ≡ packed_tablet c.forms (c.tablet k)
  unfolding packed_tablet
  joined_alike name ls = joins_alike (c.tablet k).form name c.forms ls (c.tablet k).session (sane.held k l)

  -- who holds no form open knows nothing of those that are stored
  unheld_alike : (gs : List Form) → holds_form (c.tablet k).session ≡ false → packed_tablet gs (c.tablet k) ≡ packed_tablet c.forms (c.tablet k)
  unfolding packed_tablet
  unheld_alike gs e = rests_alike _ _ _ _ (c.tablet k).session (open_none _ e)

  -- where the star may delete, no other holds a form open
  starred_none : (name : List ℕ) → Frees c t f → f ≡ some (delete name) → same name star ≡ true → holds_form (c.tablet k).session ≡ false
  unfolding strikes
  starred_none name free e y =
      let other = each_other c t k (λ x. holds_form x.session && strikes f x.form) l n (may_strike c t f free.free) in
      star_none (holds_form (c.tablet k).session) name (c.tablet k).form (rw e at other) y

  -- a name that is absent deletes nothing
  absent_alike : (name : List ℕ) → find name c.forms ≡ none → same name star ≡ false → deleted name c.forms ≡ c.forms
  unfolding deleted
  absent_alike name e m = if_false _ _ _ m ∙ without_absent name c.forms e

  harmless_alike : (name : List ℕ) → Frees c t f → f ≡ some (delete name) → Harmless c t name → packed_tablet (deleted name c.forms) (c.tablet k) ≡ packed_tablet c.forms (c.tablet k)
  harmless_alike name free g (absent a) =
      either (same name star)
      (λ y. unheld_alike (deleted name c.forms) (starred_none name free g y))
      (λ m. ap (λ fs. packed_tablet fs (c.tablet k)) (absent_alike name a m))
  harmless_alike name free g (unheld u) = unheld_alike (deleted name c.forms) (each_other c t k (λ x. holds_form x.session) l n u)

  -- STAYS
  pub others_stay : (st : Session) (gs : List Form) (st' : Session) → Changes c.forms st f gs st' → Frees c t f → packed_tablet gs (c.tablet k) ≡ packed_tablet c.forms (c.tablet k)
  others_stay st gs st' as_before free = refl
  others_stay st gs st' (joined name ls e) free = joined_alike name ls
  others_stay st gs st' (struck name e g) free = harmless_alike name free g (free.stays name g)
