-- Whose turn it is, over the code: of calls that were made of a class, the takes told a tablet that prints within thirty of those
-- that were accepted, and wrote all its sets where there were enough of them.
use Prim.Native.Nat.{ℕ, ◌-◌, ◌*◌, ◌≤◌, ◌<◌}
use mathlib.Core.Path.{◌≡◌, refl, sym, ◌∙◌}
use mathlib.Core.Bool.{true, false≢true}
use mathlib.Core.List.{List, map}
use lib.ListN.{length}
use borrow.Author.Tests.{lt-ltb}
use Rattle.paper.specs.Byte.{among}
use Rattle.paper.specs.Command.{FormLine}
use Rattle.paper.specs.Bench as P
use Rattle.paper.specs.Program.{to_take}
use Rattle.paper.specs.State.{Sound}
use Rattle.paper.specs.Calls.{sets_from}
use Rattle.paper.specs.Class.{thirty, prints, wait, silent}
use Rattle.paper.specs.Diary.{sets_due}
use Rattle.paper.proofs.Law.{if_true}
use Rattle.paper.proofs.Turn.{within_thirty, one_of_thirty}
use Rattle.paper.proofs.Silent.{silent_served}
use Rattle.paper.proofs.AllOut.{every_set}
use Rattle.command.specs.View.{width}
use Rattle.call.specs.Call.{Memory}
use Rattle.tablets.specs.Calls.{Reached, left_of, SetsLeft}
use Rattle.tablets.specs.Runs.{Made, Chain, on_paper, served, prints_in, prints_through, sets_for}
use Rattle.tablets.proofs.Leading.{reached_sane, reached_counts}
use Rattle.tablets.proofs.Chain.{chain_follows, reached_prints, chain_prints, chain_diary}

module _ (self : Memory) (k : Reached self) (t : ℕ) (ms : List Made) (l : t < 30) (h : Chain self ms) where
  -- TURN: while a tablet prints, its next set is at latest the thirtieth that accepted takes wrote
  pub chain_within_thirty : prints_through t self ms ≡ true → wait t (served ms) ≤ 30
  chain_within_thirty p =
      rw (chain_follows self k ms h).serves (within_thirty width t k.class (map on_paper ms) l (sym (chain_prints self k t ms l h) ∙ p))

  -- so of thirty one is its own
  pub chain_one_of_thirty : prints_through t self ms ≡ true → 30 ≤ length (served ms) → among (served ms) t ≡ true
  chain_one_of_thirty p =
      rw (chain_follows self k ms h).serves (one_of_thirty width t k.class (map on_paper ms) l (sym (chain_prints self k t ms l h) ∙ p))

  -- and so of one that prints and sends nothing
  pub chain_silent_served : prints_in self t ≡ true → silent t (map on_paper ms) ≡ true → 30 ≤ length (served ms) → among (served ms) t ≡ true
  chain_silent_served p q =
      rw (chain_follows self k ms h).serves (silent_served width t k.class (map on_paper ms) l (sym (reached_prints self k t l) ∙ p) q)

  -- ALL OUT: thirty accepted takes for each set that is due wrote them all, in order
  pub chain_every_set : (ls : List FormLine) (given : List (List ℕ)) (n copies i : ℕ) → i < n → (k.class.tablet t).session ≡ P.printing ls given n copies i
      → silent t (map on_paper ms) ≡ true → 30 * (n - i) ≤ length (served ms) → sets_for t self ms ≡ sets_from ls given copies i (n - i)
  chain_every_set ls given n copies i m e q =
      rw ((chain_follows self k ms h).serves, chain_diary self k t ms l h) (every_set width t k.class ls given n copies i (map on_paper ms) l m e q)

  -- by the state that it is in
  due_out : (st : P.Session) → (k.class.tablet t).session ≡ st → Sound width k.class.forms st → prints st ≡ true → silent t (map on_paper ms) ≡ true → 30 * to_take st ≤ length (served ms) → sets_for t self ms ≡ sets_due st
  unfolding prints to_take sets_due
  due_out P.idle e g p = absurd (false≢true p)
  due_out (P.collecting name ls) e g p = absurd (false≢true p)
  due_out P.spoiled e g p = absurd (false≢true p)
  due_out (P.opened ls) e g p = absurd (false≢true p)
  due_out (P.answering ls given) e g p = absurd (false≢true p)
  due_out (P.ready ls given) e g p = absurd (false≢true p)
  due_out (P.printing ls given n copies i) e g p = chain_every_set ls given n copies i g.2.left e

  -- so thirty for each that `sets_left` tells wrote all that were due
  pub chain_all_out : prints_in self t ≡ true → silent t (map on_paper ms) ≡ true → (r : ℕ) → SetsLeft self.held t r → 30 * r ≤ length (served ms) → sets_for t self ms ≡ sets_due (k.class.tablet t).session
  unfolding reached_counts left_of thirty
  chain_all_out p q r left many =
      let told : r ≡ to_take (k.class.tablet t).session = left.is (reached_counts self k) ∙ if_true _ _ _ (lt-ltb t 30 l) in
      due_out (k.class.tablet t).session refl ((reached_sane self k).each t l) (sym (reached_prints self k t l) ∙ p) q (rw told at many)
