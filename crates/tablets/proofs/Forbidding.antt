-- A line of an idle tablet by what the others make of it: it is heard, it is refused and changes nothing, or a form leaves and they follow.
use Prim.Native.Nat.{ℕ, ◌*◌, ◌≤◌, ◌<◌}
use mathlib.Core.Path.{◌≡◌, refl, sym, ◌∙◌, ap}
use mathlib.Core.Bool.{true, false, true≢false}
use mathlib.Core.List.{List, []}
use mathlib.Core.Option.{none, some}
use lib.ListN.{length, take, get_or}
use lib.Dec.{eqb}
use borrow.Author.Tests.{eqb-true, lt-ltb, le-ltb}
use Rattle.std.specs.Prelude.{Option, Result, Ok, Err, None}
use Rattle.paper.specs.Byte.{when◌then◌else◌, every}
use Rattle.paper.specs.Line.{kept, long, control}
use Rattle.paper.specs.Command.{is_shown}
use Rattle.paper.specs.Refusal as R
use Rattle.paper.specs.Read.{Reading, unread, read}
use Rattle.paper.specs.Form.{Form, is_some}
use Rattle.paper.specs.Bench as P
use Rattle.paper.specs.Class.{Class, desk, thirty, prints, holds_form, open_lines, filing_of, barred, hear_unless, Reply, tablet_of, reply, denied, hear_of, hear_from, SaneClass}
use Rattle.paper.proofs.Law.{by_test}
use Rattle.paper.proofs.Dropped.{kept_stays, stays_kept, stays_take}
use Rattle.wait.specs.Waiting.{Waits}
use Rattle.listen.proofs.Hearing.{heard_waits}
use Rattle.paper.proofs.Test.{either}
use Rattle.paper.proofs.Apart.{seat_own, seat_other}
use Rattle.paper.proofs.ClassRefused.{tablet_over}
use Rattle.command.specs.View.{width, refusal_of}
use Rattle.command.specs.Answer.{Reports}
use Rattle.command.specs.declared.Refusal.{Refusal}
use Rattle.command.specs.declared.Refusal.TheVariants as W
use Rattle.store.specs.Lent.{store_of}
use Rattle.store.specs.declared.Filed.{Filed}
use Rattle.call.specs.Call.{Memory}
use Rattle.call.proofs.Calling.{ReadsFiled}
use Rattle.lend.specs.Laid.{SeatHears}
use Rattle.guard.specs.Guarded.{Frees, Watching, Guarding, Guards}
use Rattle.guard.specs.declared.Leaving.{Leaving}
use Rattle.tablets.specs.Calls.{packed_class, Reached, Warns, HearsLine}
use Rattle.tablets.proofs.Leading.{hears_on, reached_sane}
use Rattle.tablets.proofs.Counting.{idle_silent}
use Rattle.tablets.proofs.Hearing.{quiet_hears, reply_quiet}
use Rattle.tablets.proofs.Leaving.{fault_frees, reached_idle, reached_quiet, answer_frees, idle_files, reached_watches}

-- a refusal that changes nothing
same_hears : (self : Memory) (t : ℕ) (s old : List ℕ) (why : Refusal) (r : Result ℕ Refusal) → r ≡ Err why → Reached self
    → ((k : Reached self) → (hear_from width (length old) k.class t s).answer ≡ R.refused (refusal_of why))
    → ((k : Reached self) → packed_class (hear_from width (length old) k.class t s).next ≡ packed_class k.class)
    → HearsLine self t s old self old r
unfolding Reports R.lent
same_hears self t s old why r e k₀ says stays =
    let leaves : (k : Reached self) → self ≡ packed_class (hear_from width (length old) k.class t s).next = λ k. k.is ∙ sym (stays k) in
    record {
      reached = hears_on self k₀ self t (length old) s (leaves k₀);
      meets = λ k. rw (says k, e) (record { reports = refl; buffer = refl });
      leaves = leaves;
    }

-- no such tablet
pub over_hears : (self : Memory) (t : ℕ) (s old : List ℕ) (r : Result ℕ Refusal) → 30 ≤ t → r ≡ Err W.NoTablet → Reached self → HearsLine self t s old self old r
unfolding denied refusal_of
over_hears self t s old r h e k₀ =
    same_hears self t s old W.NoTablet r e k₀
    (λ k. ap (λ (x : Reply). x.answer) (tablet_over width (length old) k.class t s (le-ltb t 30 h)))
    (λ k. ap (λ (x : Reply). packed_class x.next) (tablet_over width (length old) k.class t s (le-ltb t 30 h)))

-- an answer is asked for
pub answer_hears : (self : Memory) (t : ℕ) → t < 30 → (s old : List ℕ) (mid : Memory) (new : List ℕ) (r : Result ℕ Refusal) → SeatHears self t s old mid new r → get_or self.held (t * 10) 0 ≡ 4 → Reached self → HearsLine self t s old mid new r
answer_hears self t l s old mid new r h e k₀ =
    quiet_hears self t l s old mid new r h (λ k. answer_frees self k t l s e) k₀
    (λ k. reply_quiet k.class (reached_sane self k) t l s (length old) (answer_frees self k t l s e).free (reached_quiet self k t l (length old) s e))

-- a line with a control byte is refused
control_unread : (K : Reading → Type 0) (x : List ℕ) → control x ≡ true → ((r : R.Refusal) → K (unread r)) → K (read width x)
unfolding read
control_unread K x e k = by_test K (long x) (unread R.too_long) _ (λ y. k R.too_long) (λ n. by_test K (control x) (unread R.control_byte) _ (λ y. k R.control_byte) (λ m. absurd (true≢false (sym e ∙ m))))

-- which leaves whoever prints
control_quiet : (room : ℕ) (fs : List Form) (st : P.Session) (x : List ℕ) → control x ≡ true → prints (P.heard width room fs st x).next.session ≡ prints st
unfolding P.heard P.obeyed P.in_answering P.refuse P.outcome P.after_refusal prints
control_quiet room fs P.idle x e = control_unread (λ r. prints (P.obeyed fs P.idle (P.in_idle room fs) r).next.session ≡ false) x e (λ r. refl)
control_quiet room fs (P.collecting name ls) x e = control_unread (λ r. prints (P.obeyed fs (P.collecting name ls) (P.in_collecting fs name ls) r).next.session ≡ false) x e (λ r. refl)
control_quiet room fs P.spoiled x e = control_unread (λ r. prints (P.obeyed fs P.spoiled (P.in_spoiled fs) r).next.session ≡ false) x e (λ r. refl)
control_quiet room fs (P.opened ls) x e = control_unread (λ r. prints (P.obeyed fs (P.opened ls) (P.in_opened fs ls) r).next.session ≡ false) x e (λ r. refl)
control_quiet room fs (P.answering ls given) x e =
    by_test (λ (o : P.Outcome). prints o.next.session ≡ false) (long x) _ _ (λ y. refl)
    (λ n. by_test (λ (o : P.Outcome). prints o.next.session ≡ false) (control x) _ _ (λ y. refl) (λ m. absurd (true≢false (sym e ∙ m))))
control_quiet room fs (P.ready ls given) x e = control_unread (λ r. prints (P.obeyed fs (P.ready ls given) (P.in_ready fs ls given) r).next.session ≡ false) x e (λ r. refl)
control_quiet room fs (P.printing ls given n c i) x e =
    control_unread (λ r. prints (P.obeyed fs (P.printing ls given n c i) (P.in_printing fs (P.printing ls given n c i)) r).next.session ≡ true) x e (λ r. refl)

fault_quiet : (room : ℕ) (fs : List Form) (st : P.Session) (s line : List ℕ) (n : ℕ) → Waits (kept s) line n → control (take n line) ≡ true
    → prints (P.hear width room (record { forms = fs; session = st }) s).next.session ≡ prints st
unfolding P.hear
fault_quiet room fs st s line n w c =
    let front : kept (take n line) ≡ take n line = ap kept w.front ∙ kept_stays (take 257 (kept s)) (stays_take 257 (kept s) (stays_kept s)) ∙ sym w.front in
    ap (λ (o : P.Outcome). prints o.next.session) (sym (heard_waits room (record { forms = fs; session = st }) s line n w))
    ∙ ap (λ x. prints (P.heard width room fs st x).next.session) front
    ∙ control_quiet room fs st (take n line) c

pub fault_hears : (self : Memory) (t : ℕ) → t < 30 → (s line : List ℕ) (n : ℕ) (old : List ℕ) (mid : Memory) (r : Result ℕ Refusal) → Waits (kept s) line n → control (take n line) ≡ true
    → SeatHears self t s old mid old r → Reached self → HearsLine self t s old mid old r
fault_hears self t l s line n old mid r w c h k₀ =
    quiet_hears self t l s old mid old r h (λ k. fault_frees self k t l s line n w c) k₀
    (λ k. reply_quiet k.class (reached_sane self k) t l s (length old) (fault_frees self k t l s line n w c).free (fault_quiet (length old) k.class.forms (k.class.tablet t).session s line n w c))

-- an idle tablet's line that the others forbid
module _ (c : Class) (sane : SaneClass width c) (t : ℕ) (l : t < 30) (s : List ℕ) (room : ℕ) (rest : (c.tablet t).session ≡ P.idle) (why : R.Refusal)
    (bar : barred c t (filing_of width (c.tablet t).session s) ≡ some why) where
  barred_reply : hear_from width room c t s ≡ reply c t c.last (filing_of width (c.tablet t).session s) (P.refuse why c.forms (c.tablet t).session)
  unfolding hear_from hear_of hear_unless desk thirty when◌then◌else◌
  barred_reply = rw (lt-ltb t 30 l, bar) refl

  barred_says : (hear_from width room c t s).answer ≡ R.refused why
  unfolding reply P.refuse P.outcome
  barred_says = ap (λ (x : Reply). x.answer) barred_reply

  -- the tablet is left as it was
  barred_tablet : (form : List ℕ) → tablet_of (P.after_refusal (c.tablet t).session) form ≡ c.tablet t
  unfolding tablet_of P.after_refusal holds_form open_lines is_some when◌then◌else◌
  barred_tablet form =
      let named : (c.tablet t).form ≡ [] = sane.nameless t l (rw rest) in
      let afterwards : (c.tablet t).session ≡ P.after_refusal (c.tablet t).session = rw rest in
      let unnamed : (c.tablet t).form ≡ (when holds_form (P.after_refusal (c.tablet t).session) then form else []) = rw rest named in
      sym (λ j. record { session = afterwards j; form = unnamed j })

  barred_same : (j : ℕ) → (reply c t c.last (filing_of width (c.tablet t).session s) (P.refuse why c.forms (c.tablet t).session)).next.tablet j ≡ c.tablet j
  unfolding reply P.refuse P.outcome
  barred_same j =
      either (eqb j t)
      (λ y. seat_own t _ c.tablet j y ∙ barred_tablet _ ∙ ap c.tablet (sym (eqb-true j t y)))
      (λ n. seat_other t _ c.tablet j n)

  barred_class : (hear_from width room c t s).next ≡ c
  unfolding reply P.refuse P.outcome
  barred_class = ap (λ (x : Reply). x.next) barred_reply ∙ (λ i. record { forms = c.forms; tablet = λ j. barred_same j i; last = c.last })

-- the others watch
pub warns_by : (self : Memory) (t : ℕ) (l : t < 30) (s : List ℕ) (filed : Filed) → ReadsFiled self.filed filed → (g : Result (Option Leaving) Refusal)
    → Guards (store_of filed self.all self.names self.texts self.lens) (take 300 self.held) t s g → Warns self t s g
warns_by self t l s filed rf g b = record { guards = λ k. b.guards k.class (reached_watches self k t l filed rf) }

pub warned_watching : (self : Memory) (t : ℕ) (l : t < 30) (filed : Filed) → ReadsFiled self.filed filed → Reached self
    → Watching (store_of filed self.all self.names self.texts self.lens) (take 300 self.held) t
warned_watching self t l filed rf k = record { class = k.class; watches = reached_watches self k t l filed rf }

-- a tablet that is Idle
module _ (self : Memory) (t : ℕ) (l : t < 30) (s old : List ℕ) (idle : get_or self.held (t * 10) 0 ≡ 0) (shown : every is_shown s ≡ true) (k₀ : Reached self) where
  -- what they make of its line
  pub idle_guards : (g : Result (Option Leaving) Refusal) → Warns self t s g → (k : Reached self) → Guarding k.class t (filing_of width (k.class.tablet t).session s) g
  idle_guards g b k = rw (idle_files self k t l s idle shown) (b.guards k)

  -- nobody prints behind it
  pub idle_quiet : (k : Reached self) → barred k.class t (filing_of width (k.class.tablet t).session s) ≡ none
      → prints ((hear_from width (length old) k.class t s).next.tablet t).session ≡ prints (k.class.tablet t).session
  unfolding prints
  idle_quiet k free =
      reply_quiet k.class (reached_sane self k) t l s (length old) free (rw (reached_idle self k t l idle) (idle_silent (length old) k.class.forms s))

  -- nothing
  pub free_hears : (g : Option Leaving) (mid : Memory) (new : List ℕ) (r : Result ℕ Refusal) → Warns self t s (Ok g) → g ≡ None → SeatHears self t s old mid new r → HearsLine self t s old mid new r
  unfolding Guarding
  free_hears g mid new r b e h =
      let frees : (k : Reached self) → Frees k.class t (filing_of width (k.class.tablet t).session s) = λ k. let w = idle_guards (Ok g) b k in rw e at w in
      quiet_hears self t l s old mid new r h frees k₀ (λ k. idle_quiet k (frees k).free)

  -- a refusal
  pub refused_hears : (why : Refusal) (r : Result ℕ Refusal) → Warns self t s (Err why) → r ≡ Err why → HearsLine self t s old self old r
  unfolding Guarding
  refused_hears why r b q =
      let bars : (k : Reached self) → barred k.class t (filing_of width (k.class.tablet t).session s) ≡ some (refusal_of why) = idle_guards (Err why) b in
      same_hears self t s old why r q k₀
      (λ k. barred_says k.class (reached_sane self k) t l s (length old) (reached_idle self k t l idle) (refusal_of why) (bars k))
      (λ k. ap packed_class (barred_class k.class (reached_sane self k) t l s (length old) (reached_idle self k t l idle) (refusal_of why) (bars k)))
