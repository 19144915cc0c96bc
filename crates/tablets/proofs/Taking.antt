-- A set for the printer: whose turn it is by the numbers of a class, and what is taken at that tablet's seat is what the paper's class gives.
use Prim.Native.Nat.{ℕ, ◌+◌, ◌*◌, ◌≤◌, ◌<◌}
use mathlib.Core.Path.{◌≡◌, refl, sym, ◌∙◌, ap}
use mathlib.Core.Bool.{true}
use mathlib.Core.List.{List, []}
use mathlib.Core.Option.{Option, none, some}
use native.Mathlib.Omega.{arith}
use lib.ListN.{length, take, get_or, set}
use lib.Seq.{take_at, length-take-le}
use lib.Dec.{eqb}
use borrow.Author.Tests.{eq-eqb}
use Rattle.std.specs.Prelude.{Result, Ok, Err}
use Rattle.paper.specs.Form.{Form}
use Rattle.paper.specs.Refusal as R
use Rattle.paper.specs.Bench as P
use Rattle.paper.specs.Class.{Class, desk, thirty, prints, printers, holds_form, renamed, Reply, seat, tablet_of, reply, denied, first_after, turn, last_after, serve, take_next}
use Rattle.paper.proofs.Law.{if_true}
use Rattle.paper.proofs.Test.{either}
use Rattle.paper.proofs.Invariant.{take_forms}
use Rattle.paper.proofs.Apart.{seat_own, seat_other, reply_session}
use Rattle.paper.proofs.ClassRefused.{take_untouched}
use Rattle.paper.proofs.Count.{one_if, nobody_prints, served_again, reply_count}
use Rattle.paper.proofs.Turn.{turn_passing}
use Rattle.command.specs.View.{refusal_of}
use Rattle.command.specs.Answer.{Reports, Meets}
use Rattle.command.specs.declared.Refusal.{Refusal}
use Rattle.command.specs.declared.Refusal.TheVariants as W
use Rattle.session.specs.Memory.{packed_session, packed_shelf, number_of}
use Rattle.session.specs.declared.state.Held.{Held}
use Rattle.seats.specs.Numbers.{code_of}
use Rattle.std.proofs.Common.{Some, None}
use Rattle.std.proofs.Common as S
use Rattle.seats.specs.Seats.{numbers_of, seat_of, option_of}
use Rattle.seats.proofs.Gone.{rests_alike}
use Rattle.seats.proofs.Others.{turn_printing}
use Rattle.seats.proofs.Parted.{numbers_length}
use Rattle.call.specs.Call.{Memory}
use Rattle.lend.specs.Laid.{numbered, laid_out, Sits, SeatTakes}
use Rattle.tablets.specs.Calls.{packed_tablet, packed_with, packed_class, Reached, recounted, Counts, TakesSet}
use Rattle.tablets.proofs.Leading.{takes_on, reached_counts}
use Rattle.tablets.proofs.Naming.{open_none}
use Rattle.tablets.proofs.Packed.{packed_seated, packed_sits}
use Rattle.tablets.proofs.Counting.{printers_within, recounts}
use Rattle.tablets.proofs.Hearing.{laid_alike, with_numbers, numbered_length, numbered_count, numbered_serve, held_numbered, with_tag, with_recount}
use Rattle.tablets.proofs.Left.{counts_numbered, counts_length, counts_last, counts_printers, counts_prints}

-- whose turn it is, by the tests of the code
module _ (held : List ℕ) where
  -- nobody's
  pub turn_none : get_or held 301 0 ≡ 0 → (k : Counts held) → None ≡ option_of (turn k.class)
  unfolding option_of
  turn_none e k = sym (ap option_of (nobody_prints k.class (sym (counts_printers held k) ∙ e)))

  -- that of the only one that prints, who was served last
  pub turn_again : get_or held 301 0 ≡ 1 → get_or held (get_or held 300 0 * 10) 0 ≡ 6 → (k : Counts held) → Some (get_or held 300 0) ≡ option_of (turn k.class)
  unfolding option_of
  turn_again one e k =
      let last : get_or held 300 0 ≡ k.class.last = counts_last held k in
      let again : prints (k.class.tablet k.class.last).session ≡ true =
      sym (counts_prints held k k.class.last k.sane.last_below) ∙ eq-eqb _ 6 (ap (λ n. get_or held (n * 10) 0) (sym last) ∙ e) in
      ap Some last ∙ sym (ap option_of (served_again k.class (sym (counts_printers held k) ∙ one) k.sane.last_below again))

  -- else the numbers are searched
  pub turn_asked : Counts held → (length (take 300 held) ≡ 300) × (get_or held 300 0 < 30)
  turn_asked k =
      (length-take-le 300 held (omega (arith, counts_length held k)), omega (arith, counts_last held k, k.sane.last_below))

  pub turn_found : (r : S.Option ℕ) → ((h : ℕ → Held) → take 300 held ≡ numbers_of h → r ≡ option_of (first_after (λ j. eqb (code_of (h j).mode).tag 6) 30 (get_or held 300 0)))
      → (k : Counts held) → r ≡ option_of (turn k.class)
  unfolding numbered packed_tablet
  turn_found r f k =
      f (λ j. (packed_tablet k.class.forms (k.class.tablet j)).held) (ap (take 300) (counts_numbered held k) ∙ take_at _ _ 300 (numbers_length _))
      ∙ ap (λ last. option_of (first_after (λ j. eqb (code_of (packed_tablet k.class.forms (k.class.tablet j)).held.mode).tag 6) 30 last)) (counts_last held k)
      ∙ ap option_of (turn_printing k.class (λ j. number_of (k.class.tablet j).form k.class.forms))

-- what the code holds tells whether somebody was found, and who
found_none : (o : Option ℕ) → None ≡ option_of o → o ≡ none
unfolding option_of
found_none none e = refl
found_none (some u) e = cc

found_some : (o : Option ℕ) (t : ℕ) → Some t ≡ option_of o → o ≡ some t
unfolding option_of
found_some none t e = cc
found_some (some u) t e = cc

-- a tablet in a state knows the form that it holds, and who holds none lies in memory as with any form's number
taken_packed : (fs : List Form) (form : List ℕ) (st : P.Session) → packed_session fs (number_of form fs) st ≡ packed_tablet fs (tablet_of st form)
unfolding packed_tablet tablet_of
taken_packed fs form st =
    either (holds_form st)
    (λ y. rw (if_true {A = List ℕ} (holds_form st) form [] y))
    (λ n. rests_alike _ _ _ _ st (open_none st n))

-- the sessions behind a take: one that is changed at its seat, and the others
taken_laid : (c : Class) (t : ℕ) (o : P.Outcome) (last printing : ℕ) → o.next.forms ≡ c.forms
    → laid_out (packed_shelf c.forms) (seat t (packed_session c.forms (number_of (c.tablet t).form c.forms) o.next.session) (λ j. packed_tablet c.forms (c.tablet j))) last printing
    ≡ packed_with (reply c t last none o).next printing
unfolding packed_with reply renamed
taken_laid c t o last printing e =
    rw e
    (laid_alike _ _ _ last printing
    (λ j b. either (eqb j t)
    (λ y. seat_own t _ _ j y ∙ taken_packed c.forms (c.tablet t).form o.next.session ∙ ap (packed_tablet c.forms) (sym (seat_own t _ c.tablet j y)))
    (λ n. seat_other t _ _ j n ∙ ap (packed_tablet c.forms) (sym (seat_other t _ c.tablet j n)))))

-- another tablet served last
served_held : (c : Class) (t last : ℕ) (o : P.Outcome) (printing : ℕ) → set (packed_with (reply c t last none o).next printing).held 300 t ≡ (packed_with (reply c t t none o).next printing).held
unfolding packed_with laid_out reply
served_held c t last o printing = numbered_serve _ last printing t

served_with : (c : Class) (t last : ℕ) (o : P.Outcome) (printing : ℕ) (held : List ℕ)
    → with_numbers (packed_with (reply c t last none o).next printing) held ≡ with_numbers (packed_with (reply c t t none o).next printing) held
unfolding packed_with laid_out reply
served_with c t last o printing held = refl

-- what the paper answers where a call refuses, and where it accepts
pub reports_refused : (why : Refusal) (paper : R.Answer) → Reports (Err why) paper → paper ≡ R.refused (refusal_of why)
unfolding Reports
reports_refused why (R.accepted bytes) h = absurd h
reports_refused why (R.refused r) h = ap R.refused (sym h)

accepts_last : (len : ℕ) (paper : R.Answer) (t last : ℕ) → Reports (Ok len) paper → last_after paper t last ≡ t
unfolding Reports last_after
accepts_last len (R.accepted bytes) t last h = refl
accepts_last len (R.refused r) t last h = absurd h

module _ (self : Memory) where
  -- NOBODY: 16, and nothing changes
  pub none_takes : (old : List ℕ) → ((k : Counts self.held) → None ≡ option_of (turn k.class)) → Reached self → TakesSet self old self old 30 (Err W.NotPrinting)
  unfolding take_next serve denied Reports R.lent refusal_of seat_of reached_counts
  none_takes old turned k₀ =
      let is : (k : Reached self) → take_next (length old) k.class ≡ denied R.not_printing k.class =
      λ k. ap (serve (length old) k.class) (found_none _ (turned (reached_counts self k))) in
      let leaves : (k : Reached self) → self ≡ packed_class (take_next (length old) k.class).next = λ k. k.is ∙ ap (λ (x : Reply). packed_class x.next) (sym (is k)) in
      record {
        reached = takes_on self k₀ self (length old) (leaves k₀);
        meets = λ k. rw (is k) (record { reports = refl; buffer = refl });
        whose = λ k. ap (λ (x : Reply). seat_of x.whose) (sym (is k));
        leaves = leaves;
      }

  module _ (t : ℕ) (turned : (k : Counts self.held) → Some t ≡ option_of (turn k.class)) where
    turned_some : (k : Reached self) → turn k.class ≡ some t
    unfolding reached_counts
    turned_some k = found_some _ t (turned (reached_counts self k))

    turned_below : (k : Reached self) → t < 30
    turned_below k = (turn_passing k.class t (turned_some k)).below

    -- who has the turn sits at a seat
    pub turned_sits : Reached self → Sits self t
    turned_sits k = packed_sits self t k (turned_below k)

    module _ (old : List ℕ) (mid : Memory) (new : List ℕ) (r : Result ℕ Refusal) (h : SeatTakes self t old mid new r) where
      abbrev taken : Reached self → P.Outcome
      taken k = P.take_set (length old) (record { forms = k.class.forms; session = (k.class.tablet t).session })

      -- the paper's take is one at that seat
      served : (k : Reached self) → take_next (length old) k.class ≡ reply k.class t (last_after (taken k).answer t k.class.last) none (taken k)
      unfolding take_next serve desk
      served k = ap (serve (length old) k.class) (turned_some k)

      -- the answer, and whose it is
      served_meets : (k : Reached self) → Meets (take_next (length old) k.class).answer old new r
      unfolding reply
      served_meets k = rw (served k) (h.meets _ _ _ _ _ _ (packed_seated self k t (turned_below k)))

      served_whose : (k : Reached self) → t ≡ seat_of (take_next (length old) k.class).whose
      unfolding reply seat_of
      served_whose k = ap (λ (x : Reply). seat_of x.whose) (sym (served k))

      -- the memory, where the turn and the count are still as they were
      seat_leaves : (k : Reached self) → mid ≡ packed_with (reply k.class t k.class.last none (taken k)).next (printers k.class)
      seat_leaves k =
          h.leaves _ _ _ _ _ _ (packed_seated self k t (turned_below k))
          ∙ taken_laid k.class t (taken k) k.class.last (printers k.class) (take_forms (length old) k.class.forms (k.class.tablet t).session)

      -- REFUSED: nothing changes
      pub refused_takes : (why : Refusal) → r ≡ Err why → Reached self → TakesSet self old mid new t r
      unfolding packed_class last_after reply
      refused_takes why e k₀ =
          let answer : (k : Reached self) → (taken k).answer ≡ R.refused (refusal_of why) =
          λ k. reports_refused why _ (rw e at (h.meets _ _ _ _ _ _ (packed_seated self k t (turned_below k))).reports) in
          let leaves : (k : Reached self) → mid ≡ packed_class (take_next (length old) k.class).next =
          λ k. let next : (take_next (length old) k.class).next ≡ (reply k.class t k.class.last none (taken k)).next =
          ap (λ (x : Reply). x.next) (served k) ∙ ap (λ a. (reply k.class t (last_after a t k.class.last) none (taken k)).next) (answer k) in
          let same : (take_next (length old) k.class).next ≡ k.class =
          take_untouched (length old) k.class (refusal_of why) (ap (λ (x : Reply). x.answer) (served k) ∙ answer k) in
          seat_leaves k ∙ ap (λ x. packed_with x (printers k.class)) (sym next) ∙ ap (λ x. packed_with (take_next (length old) k.class).next (printers x)) (sym same) in
          record { reached = takes_on self k₀ mid (length old) (leaves k₀); meets = served_meets; whose = served_whose; leaves = leaves }

      -- the numbers with the turn moved
      moved_held : (k : Reached self) → set mid.held 300 t ≡ (packed_with (reply k.class t t none (taken k)).next (printers k.class)).held
      moved_held k = ap (λ (m : Memory). set m.held 300 t) (seat_leaves k) ∙ served_held k.class t k.class.last (taken k) (printers k.class)

      moved_printers : (k : Reached self) → get_or (set mid.held 300 t) 301 0 ≡ printers k.class
      moved_printers k = ap (λ xs. get_or xs 301 0) (moved_held k ∙ held_numbered _ _) ∙ numbered_count _ _ _

      -- the turn can be moved, and what counting asks for
      pub seat_whole : Reached self → length mid.held ≡ 302
      seat_whole k = ap (λ (m : Memory). length m.held) (seat_leaves k) ∙ ap length (held_numbered _ _) ∙ numbered_length _ _ _

      pub moved_counted : Reached self → ((length (set mid.held 300 t) ≡ 302) × (t < 30)) × (get_or (set mid.held 300 t) 301 0 ≤ 30)
      moved_counted k =
          ((ap length (moved_held k ∙ held_numbered _ _) ∙ numbered_length _ _ _, turned_below k), omega (arith, moved_printers k, printers_within k.class))

      -- ACCEPTED: the turn moves, and it is counted anew who prints
      module _ (len : ℕ) (e : r ≡ Ok len) (held : List ℕ)
          (q : held ≡ set (set mid.held 300 t) 301 (recounted (get_or (set mid.held 300 t) 301 0) 6 (get_or (set mid.held 300 t) (t * 10) 0))) where
        moved_next : (k : Reached self) → (take_next (length old) k.class).next ≡ (reply k.class t t none (taken k)).next
        moved_next k =
            ap (λ (x : Reply). x.next) (served k)
            ∙ ap (λ last. (reply k.class t last none (taken k)).next) (accepts_last len _ t k.class.last (rw e at (h.meets _ _ _ _ _ _ (packed_seated self k t (turned_below k))).reports))

        -- how many print behind it
        moved_count : (k : Reached self) → recounted (get_or (set mid.held 300 t) 301 0) 6 (get_or (set mid.held 300 t) (t * 10) 0) ≡ printers (reply k.class t t none (taken k)).next
        unfolding printers thirty one_if
        moved_count k =
            let next : Class = (reply k.class t t none (taken k)).next in
            let behind : eqb (get_or (set mid.held 300 t) (t * 10) 0) 6 ≡ prints (taken k).next.session =
            ap (λ xs. eqb (get_or xs (t * 10) 0) 6) (moved_held k) ∙ with_tag next (printers k.class) t (turned_below k) ∙ ap prints (reply_session k.class t t none (taken k)) in
            let before : prints (k.class.tablet t).session ≡ true = (turn_passing k.class t (turned_some k)).passes in
            let counts : printers next + one_if true ≡ printers k.class + one_if (prints (taken k).next.session) =
            rw before at (reply_count prints k.class t t none (taken k) (turned_below k)) in
            ap (λ n. recounted n 6 (get_or (set mid.held 300 t) (t * 10) 0)) (moved_printers k) ∙ recounts (printers next) (printers k.class) 6 _ true _ refl behind counts

        accepted_leaves : (k : Reached self) → with_numbers mid held ≡ packed_class (take_next (length old) k.class).next
        unfolding packed_class
        accepted_leaves k =
            let next : Class = (reply k.class t t none (taken k)).next in
            let numbers : held ≡ set (packed_with next (printers k.class)).held 301 (printers next) = q ∙ ap (set (set mid.held 300 t) 301) (moved_count k) ∙ ap (λ xs. set xs 301 (printers next)) (moved_held k) in
            ap (λ m. with_numbers m held) (seat_leaves k)
            ∙ served_with k.class t k.class.last (taken k) (printers k.class) held
            ∙ ap (with_numbers (packed_with next (printers k.class))) numbers
            ∙ with_recount next (printers k.class) (printers next)
            ∙ ap (λ x. packed_with x (printers x)) (sym (moved_next k))

        pub accepted_takes : Reached self → TakesSet self old (with_numbers mid held) new t r
        accepted_takes k₀ =
            record { reached = takes_on self k₀ (with_numbers mid held) (length old) (accepted_leaves k₀); meets = served_meets; whose = served_whose; leaves = accepted_leaves }
