-- Which lines the others leave alone, and what they make of the rest: from the tests of the code to what the paper asks of a class.
use Prim.Native.Nat.{ℕ, ◌*◌, ◌<◌}
use mathlib.Core.Path.{◌≡◌, refl, sym, ◌∙◌, ap}
use mathlib.Core.Bool.{Bool, true, false, not, ◌&&◌, true≢false, false≢true}
use mathlib.Core.List.{List}
use mathlib.Core.Option.{Option, none, some}
use native.Mathlib.Omega.{arith}
use lib.ListN.{length, take, get_or}
use lib.Seq.{take_at, length-take-le}
use lib.Dec.{eqb}
use borrow.Author.Tests.{eq-eqb, eqb-true, eqb-false}
use Rattle.std.specs.Prelude.{Result}
use Rattle.paper.specs.Byte.{every}
use Rattle.paper.specs.Line.{kept, long, control}
use Rattle.paper.specs.Command.{is_shown, Filing}
use Rattle.paper.specs.Read.{read, unread}
use Rattle.paper.specs.Refusal.{too_long}
use Rattle.paper.specs.Form.{Form}
use Rattle.paper.specs.Bench as P
use Rattle.paper.specs.Class.{Class, at_rest, prints, filing_read, filing_of, hear_from}
use Rattle.paper.proofs.Law.{by_test, if_true}
use Rattle.paper.proofs.Test.{either}
use Rattle.paper.proofs.Text.{clear_control, clear_between}
use Rattle.paper.proofs.Dropped.{kept_clear}
use Rattle.paper.proofs.Long.{read_first, line_first}
use Rattle.paper.proofs.Others.{barred_none, busy_files, some_none}
use Rattle.command.specs.View.{width}
use Rattle.command.specs.declared.Refusal.{Refusal}
use Rattle.text.specs.Place.{byte_at}
use Rattle.store.specs.Packed.{Store, packed}
use Rattle.store.specs.Lent.{store_of}
use Rattle.store.specs.declared.Filed.{Filed}
use Rattle.session.specs.Memory.{drafting, drafts, holding, holds, packed_session, packed_shelf, entries_of, number_of}
use Rattle.wait.specs.Waiting.{Waits}
use Rattle.line.proofs.Filing.{read_leads}
use Rattle.seats.specs.Numbers.{code_of, filed_in}
use Rattle.seats.proofs.Parted.{numbers_length}
use Rattle.call.specs.Call.{Memory}
use Rattle.call.proofs.Calling.{ReadsFiled}
use Rattle.lend.specs.Laid.{numbered, laid_out}
use Rattle.guard.specs.Guarded.{Frees, Watches}
use Rattle.tablets.specs.Calls.{packed_tablet, packed_with, packed_class, Reached, HearsLine}
use Rattle.tablets.proofs.Leading.{reached_sane}
use Rattle.tablets.proofs.Counting.{answering_silent}
use Rattle.tablets.proofs.Hearing.{held_numbered, numbered_tag, numbered_length}

-- a line without control bytes is kept whole
pub shown_kept : (s : List ℕ) → every is_shown s ≡ true → kept s ≡ s
unfolding is_shown
shown_kept s e = kept_clear s (clear_control s (clear_between 0x20 0xff (omega arith) s e))

-- a line that is none to the store is left alone
pub none_frees : (c : Class) (t : ℕ) (f : Option Filing) → f ≡ none → Frees c t f
none_frees c t f e = record { free = rw e (barred_none c t); stays = λ name p. some_none p e }

-- the states by their tags
pub tag_rests : (fs : List Form) (n : ℕ) (st : P.Session) → eqb (code_of (packed_session fs n st).held.mode).tag 0 ≡ at_rest st
unfolding packed_session drafting drafts holding holds code_of at_rest
tag_rests fs n P.idle = refl
tag_rests fs n (P.collecting name ls) = refl
tag_rests fs n P.spoiled = refl
tag_rests fs n (P.opened ls) = refl
tag_rests fs n (P.answering ls given) = refl
tag_rests fs n (P.ready ls given) = refl
tag_rests fs n (P.printing ls given k c i) = refl

rests_idle : (st : P.Session) → at_rest st ≡ true → st ≡ P.idle
unfolding at_rest
rests_idle P.idle e = refl
rests_idle (P.collecting name ls) e = absurd (false≢true e)
rests_idle P.spoiled e = absurd (false≢true e)
rests_idle (P.opened ls) e = absurd (false≢true e)
rests_idle (P.answering ls given) e = absurd (false≢true e)
rests_idle (P.ready ls given) e = absurd (false≢true e)
rests_idle (P.printing ls given k c i) e = absurd (false≢true e)

-- in Answering nobody begins to print
answers_quiet : (room : ℕ) (fs : List Form) (n : ℕ) (st : P.Session) (s : List ℕ) → (code_of (packed_session fs n st).held.mode).tag ≡ 4
    → prints (P.hear width room (record { forms = fs; session = st }) s).next.session ≡ prints st
unfolding packed_session drafting drafts holding holds code_of prints
answers_quiet room fs n P.idle s e = let z : ◌≡◌ {A = ℕ} 0 4 = e in absurd (omega arith)
answers_quiet room fs n (P.collecting name ls) s e = let z : ◌≡◌ {A = ℕ} 1 4 = e in absurd (omega arith)
answers_quiet room fs n P.spoiled s e = let z : ◌≡◌ {A = ℕ} 2 4 = e in absurd (omega arith)
answers_quiet room fs n (P.opened ls) s e = let z : ◌≡◌ {A = ℕ} 3 4 = e in absurd (omega arith)
answers_quiet room fs n (P.answering ls given) s e = answering_silent room fs ls given s
answers_quiet room fs n (P.ready ls given) s e = let z : ◌≡◌ {A = ℕ} 5 4 = e in absurd (omega arith)
answers_quiet room fs n (P.printing ls given k c i) s e = let z : ◌≡◌ {A = ℕ} 6 4 = e in absurd (omega arith)

-- a line with a control byte reads as none
control_files : (s : List ℕ) → control s ≡ true → filing_read (read width s) ≡ none
unfolding read filing_read
control_files s e =
    by_test (λ r. filing_read r ≡ none) (long s) (unread too_long) _ (λ y. refl) (λ n. ap filing_read (if_true _ _ _ e))

-- a line that does not begin with an F
other_files : (s : List ℕ) → (byte_at s 0 ≡ 70 → ⊥) → filing_read (read width s) ≡ none
other_files s n = by (filing_read (read width s)) refl
  where
    by : (o : Option Filing) → filing_read (read width s) ≡ o → filing_read (read width s) ≡ none
    by none e = e
    by (some f) e = absurd (n (read_leads s f e).first)

module _ (self : Memory) (k : Reached self) (t : ℕ) (l : t < 30) where
  -- the tag of the tablet's state
  pub reached_tag : get_or self.held (t * 10) 0 ≡ (code_of (packed_session k.class.forms (number_of (k.class.tablet t).form k.class.forms) (k.class.tablet t).session).held.mode).tag
  unfolding packed_class packed_tablet
  reached_tag =
      ap (λ (m : Memory). get_or m.held (t * 10) 0) k.is ∙ ap (λ xs. get_or xs (t * 10) 0) (held_numbered k.class _)
      ∙ numbered_tag (λ j. packed_tablet k.class.forms (k.class.tablet j)) k.class.last _ t l

  reached_rests : eqb (get_or self.held (t * 10) 0) 0 ≡ at_rest (k.class.tablet t).session
  reached_rests = ap (λ n. eqb n 0) reached_tag ∙ tag_rests k.class.forms _ (k.class.tablet t).session

  -- it is Idle
  pub reached_idle : get_or self.held (t * 10) 0 ≡ 0 → (k.class.tablet t).session ≡ P.idle
  reached_idle e = rests_idle _ (sym reached_rests ∙ eq-eqb _ 0 e)

  -- an answer is asked of it
  pub reached_quiet : (room : ℕ) (s : List ℕ) → get_or self.held (t * 10) 0 ≡ 4
      → prints (P.hear width room (record { forms = k.class.forms; session = (k.class.tablet t).session }) s).next.session ≡ prints (k.class.tablet t).session
  reached_quiet room s e = answers_quiet room k.class.forms _ (k.class.tablet t).session s (sym reached_tag ∙ e)

  -- who is not Idle is left alone
  busy_frees : (s : List ℕ) → eqb (get_or self.held (t * 10) 0) 0 ≡ false → Frees k.class t (filing_of width (k.class.tablet t).session s)
  busy_frees s e = none_frees k.class t _ (busy_files width (k.class.tablet t).session s (sym reached_rests ∙ e))

  pub answer_frees : (s : List ℕ) → get_or self.held (t * 10) 0 ≡ 4 → Frees k.class t (filing_of width (k.class.tablet t).session s)
  answer_frees s e = busy_frees s (ap (λ n. eqb n 0) e)

  -- and so is what reads as no line to the store
  unfiled_frees : (s : List ℕ) → filing_read (read width (kept s)) ≡ none → Frees k.class t (filing_of width (k.class.tablet t).session s)
  unfolding filing_of
  unfiled_frees s e = none_frees k.class t _ (by_test (λ o. o ≡ none) (at_rest (k.class.tablet t).session) _ none (λ y. e) (λ n. refl))

  -- a line of somebody who is not Idle, or without an F in front
  pub order_frees : (s : List ℕ) (b : Bool) → every is_shown s ≡ true → b ≡ (eqb (get_or self.held (t * 10) 0) 0 && eqb (byte_at s 0) 70) → b ≡ false
      → Frees k.class t (filing_of width (k.class.tablet t).session s)
  order_frees s b shown e m =
      either (eqb (get_or self.held (t * 10) 0) 0)
      (λ y.
      let letter : eqb (byte_at s 0) 70 ≡ false = sym (rw y at e) ∙ m in
      unfiled_frees s (ap (λ x. filing_read (read width x)) (shown_kept s shown) ∙ other_files s (eqb-false (byte_at s 0) 70 letter)))
      (λ n. busy_frees s n)

  -- a line with a control byte among those that are looked at
  pub fault_frees : (s line : List ℕ) (n : ℕ) → Waits (kept s) line n → control (take n line) ≡ true → Frees k.class t (filing_of width (k.class.tablet t).session s)
  fault_frees s line n w c =
      unfiled_frees s (ap filing_read (sym (read_first width (kept s))) ∙ ap (λ x. filing_read (read width x)) (sym w.front) ∙ control_files (take n line) c)

  -- what an idle tablet's line is to the store
  pub idle_files : (s : List ℕ) → get_or self.held (t * 10) 0 ≡ 0 → every is_shown s ≡ true → filing_of width (k.class.tablet t).session s ≡ filing_read (read width s)
  unfolding filing_of
  idle_files s e shown = if_true _ _ _ (sym reached_rests ∙ eq-eqb _ 0 e) ∙ ap (λ x. filing_read (read width x)) (shown_kept s shown)

  -- the class is watched by its store and its sessions' numbers
  pub reached_watches : (filed : Filed) → ReadsFiled self.filed filed → Watches (store_of filed self.all self.names self.texts self.lens) (take 300 self.held) t k.class
  unfolding packed_class packed_with laid_out numbered packed_tablet packed_shelf
  reached_watches filed rf =
      let p : Store = packed (entries_of k.class.forms) in
      let held : self.held ≡ (packed_class k.class).held = ap (λ (m : Memory). m.held) k.is in
      record {
        sane = reached_sane self k;
        below = l;
        forms = ap (λ x. store_of x self.all self.names self.texts self.lens) (rf p (ap (λ (m : Memory). m.filed) k.is))
            ∙ ap (λ (m : Memory). store_of (record { used = p.used; count = p.count }) m.all m.names m.texts m.lens) k.is;
        numbers = ap (take 300) held ∙ take_at _ _ 300 (numbers_length _);
      }

-- what waits of a line is heard as the line
waits_from : (room : ℕ) (c : Class) (t : ℕ) (s line : List ℕ) (n : ℕ) → Waits (kept s) line n → hear_from width room c t (take n line) ≡ hear_from width room c t s
waits_from room c t s line n w = ap (hear_from width room c t) w.front ∙ line_first width room c t s

pub hears_waiting : (self : Memory) (t : ℕ) (s line : List ℕ) (n : ℕ) (old : List ℕ) (next : Memory) (new : List ℕ) (r : Result ℕ Refusal) → Waits (kept s) line n → HearsLine self t (take n line) old next new r → HearsLine self t s old next new r
hears_waiting self t s line n old next new r w h =
    record {
      reached = h.reached;
      meets = λ k. rw (waits_from (length old) k.class t s line n w) at (h.meets k);
      leaves = λ k. rw (waits_from (length old) k.class t s line n w) at (h.leaves k);
    }

-- the lengths of memory that calls lead to
pub reached_whole : (self : Memory) → Reached self → length self.held ≡ 302
unfolding packed_class
reached_whole self k = ap (λ (m : Memory). length m.held) k.is ∙ ap length (held_numbered k.class _) ∙ numbered_length _ _ _

pub reached_two : (self : Memory) → Reached self → length self.filed ≡ 2
unfolding packed_class packed_with laid_out filed_in
reached_two self k = ap (λ (m : Memory). length m.filed) k.is

-- a part's place is within
pub tag_within : (t : ℕ) (held : List ℕ) → length held ≡ 302 → t < 30 → t * 10 < length held
tag_within t held e l = omega arith

-- the numbers of the sessions alone
pub front_length : (held : List ℕ) → length held ≡ 302 → 300 ≡ length (take 300 held)
front_length held e = sym (length-take-le 300 held (omega arith))

-- a line that may be one to the store is an idle tablet's
pub files_idle : (tag : ℕ) (s : List ℕ) (b : Bool) → b ≡ (eqb tag 0 && eqb (byte_at s 0) 70) → b ≡ true → tag ≡ 0
files_idle tag s b e y =
    either (eqb tag 0) (λ z. eqb-true tag 0 z) (λ n. let never : false ≡ true = sym (rw n at e) ∙ y in absurd (false≢true never))

-- Idle is not Answering
pub zero_four : ◌≡◌ {A = ℕ} 0 4 → ⊥
zero_four e = omega arith

-- what is not denied holds
pub not_denied : (b : Bool) → not b ≡ false → b ≡ true
not_denied true e = refl
not_denied false e = absurd (true≢false e)
