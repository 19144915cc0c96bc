-- A form leaves: the sessions that hold a form behind it follow in memory as they do on paper.
use Prim.Native.Nat.{ℕ, ◌*◌, ◌<◌}
use mathlib.Core.Path.{◌≡◌, refl, sym, ◌∙◌, ap}
use mathlib.Core.Bool.{Bool, true, false, ◌&&◌, ◌||◌}
use mathlib.Core.List.{List, [], ◌∷◌, ◌++◌}
use mathlib.Core.Option.{none, some}
use native.Mathlib.Omega.{arith}
use lib.ListN.{length, take, drop, get_or, length-append, length-drop}
use lib.Seq.{take_at, drop_at}
use lib.Dec.{eqb}
use Rattle.std.specs.Prelude.{Option, Result, Ok, Some}
use Rattle.paper.specs.Byte.{when◌then◌else◌, every, same}
use Rattle.paper.specs.Line.{kept}
use Rattle.paper.specs.Command as C
use Rattle.paper.specs.Command.{is_shown, Filing, delete, star}
use Rattle.paper.specs.Read.{Reading, command, unread, read}
use Rattle.paper.specs.Form.{Form, without}
use Rattle.paper.specs.Bench as P
use Rattle.paper.specs.Class.{Class, at_rest, printers, holds_form, open_lines, strikes, filing_read, filing_of, Reply, seat, reply, hear_from, SaneClass}
use Rattle.paper.proofs.Law.{if_true, if_false}
use Rattle.paper.proofs.Test.{either}
use Rattle.paper.proofs.Others.{some_none, may_strike, each_other}
use Rattle.paper.proofs.Apart.{seat_own, seat_other, free_reply}
use Rattle.command.specs.View.{width}
use Rattle.command.specs.Answer.{Meets}
use Rattle.command.specs.declared.Refusal.{Refusal}
use Rattle.session.specs.Memory.{Session, Shelf, packed_session, packed_shelf, number_of}
use Rattle.session.specs.Outcome.{after_line}
use Rattle.session.specs.declared.state.Held.{Held}
use Rattle.seats.specs.Seats.{numbers_of, lowered, with_held}
use Rattle.seats.proofs.Parted.{numbers_length}
use Rattle.seats.proofs.Gone.{rests_lowered, leaves_lowered}
use Rattle.call.specs.Call.{Memory}
use Rattle.lend.specs.Laid.{numbered, laid_out, SeatHears}
use Rattle.guard.specs.Guarded.{Takes, Guarding}
use Rattle.guard.specs.declared.Leaving.{Leaving}
use Rattle.tablets.specs.Calls.{packed_tablet, packed_with, packed_class, Reached, Warns, HearsLine}
use Rattle.tablets.proofs.Leading.{hears_on, reached_sane}
use Rattle.tablets.proofs.Packed.{packed_seated}
use Rattle.tablets.proofs.Hearing.{laid_alike, with_numbers, seated_next, free_count}
use Rattle.tablets.proofs.Leaving.{reached_idle}
use Rattle.tablets.proofs.Forbidding.{idle_guards, idle_quiet}

-- the numbers of the sessions follow, and the two behind them stay
pub follows_numbered : (held new : List ℕ) (n size : ℕ) → ((h : ℕ → Held) → take 300 held ≡ numbers_of h → new ≡ numbers_of (λ k. lowered n size (h k)))
    → (f : ℕ → Session) (last printing : ℕ) → held ≡ numbered f last printing → new ++ drop 300 held ≡ numbered (λ k. with_held (lowered n size (f k).held) (f k)) last printing
unfolding numbered with_held
follows_numbered held new n size e f last printing is =
    let front : take 300 held ≡ numbers_of (λ k. (f k).held) = ap (take 300) is ∙ take_at (numbers_of (λ k. (f k).held)) (last ∷ printing ∷ []) 300 (numbers_length (λ k. (f k).held)) in
    let back : drop 300 held ≡ last ∷ printing ∷ [] = ap (drop 300) is ∙ drop_at (numbers_of (λ k. (f k).held)) (last ∷ printing ∷ []) 300 (numbers_length (λ k. (f k).held)) in
    rw (e (λ k. (f k).held) front, back)

pub follows_length : (held new : List ℕ) → length held ≡ 302 → length new ≡ 300 → length (new ++ drop 300 held) ≡ 302
follows_length held new e s = length-append new (drop 300 held) ∙ rw (s, length-drop, e)

-- a line that was read as one to the store
filing_command : (r : Reading) (g : Filing) → filing_read r ≡ some g → r ≡ command (C.file g)
unfolding filing_read
filing_command (command C.empty) g e = some_none e refl
filing_command (command C.new) g e = some_none e refl
filing_command (command (C.keep line)) g e = some_none e refl
filing_command (command (C.file f)) g e = let same : f ≡ g = cc in ap (λ x. command (C.file x)) same
filing_command (command C.ask) g e = some_none e refl
filing_command (command (C.print n c)) g e = some_none e refl
filing_command (unread r) g e = some_none e refl

-- `FK` in Idle
struck_hears : (room : ℕ) (fs : List Form) (s name : List ℕ) → read width (kept s) ≡ command (C.file (delete name))
    → P.hear width room (record { forms = fs; session = P.idle }) s ≡ P.done (P.deleted name fs) P.idle
unfolding P.hear P.heard P.obeyed P.in_idle P.filed
struck_hears room fs s name e = ap (P.obeyed fs P.idle (P.in_idle room fs)) e

-- nobody else holds the form that leaves
apart_from : (h : Bool) (name form : List ℕ) → (h && (same name star || same name form)) ≡ false → same name star ≡ false → h ≡ true → same name form ≡ false
apart_from h name form e one y = rw (y, one) at e

module _ (c : Class) (sane : SaneClass width c) (t : ℕ) (l : t < 30) (s : List ℕ) (room : ℕ) (rest : (c.tablet t).session ≡ P.idle)
    (n size : ℕ) (takes : Takes c t (filing_of width (c.tablet t).session s) n size) where
  abbrev leaving : P.Outcome
  leaving = P.hear width room (record { forms = c.forms; session = (c.tablet t).session }) s

  -- the form has left, and the tablet is Idle
  left : leaving ≡ P.done (without takes.name c.forms) P.idle
  unfolding filing_of at_rest when◌then◌else◌ P.deleted
  left =
      let reads : filing_read (read width (kept s)) ≡ some (delete takes.name) = sym (if_true _ _ none (ap at_rest rest)) ∙ takes.is in
      ap (λ st. P.hear width room (record { forms = c.forms; session = st }) s) rest
      ∙ struck_hears room c.forms s takes.name (filing_command _ _ reads)
      ∙ ap (λ fs. P.done fs P.idle) (if_false _ _ _ takes.one)

  left_forms : leaving.next.forms ≡ without takes.name c.forms
  unfolding P.done P.outcome
  left_forms = ap (λ (o : P.Outcome). o.next.forms) left

  left_session : leaving.next.session ≡ P.idle
  unfolding P.done P.outcome
  left_session = ap (λ (o : P.Outcome). o.next.session) left

  -- another tablet follows
  other_follows : (j : ℕ) → j < 30 → eqb j t ≡ false
      → with_held (lowered n size (packed_tablet c.forms (c.tablet j)).held) (packed_tablet c.forms (c.tablet j)) ≡ packed_tablet leaving.next.forms (c.tablet j)
  unfolding packed_tablet strikes
  other_follows j b m =
      let struck = each_other c t j (λ x. holds_form x.session && strikes (filing_of width (c.tablet t).session s) x.form) b m (may_strike c t _ takes.free) in
      let apart : holds_form (c.tablet j).session ≡ true → same takes.name (c.tablet j).form ≡ false =
      apart_from (holds_form (c.tablet j).session) takes.name (c.tablet j).form (rw takes.is at struck) takes.one in
      rw (left_forms, takes.number, takes.bytes)
      (sym (leaves_lowered width takes.name (c.tablet j).form c.forms takes.gone (c.tablet j).session sane.forms.each takes.found apart))

  -- the tablet's own numbers have no form to follow
  abbrev own : Session
  own = packed_session leaving.next.forms (after_line (number_of (c.tablet t).form c.forms) c.forms (c.tablet t).session (kept s)) leaving.next.session

  own_follows : with_held (lowered n size own.held) own ≡ own
  unfolding open_lines
  own_follows = sym (rests_lowered _ _ _ _ n size leaving.next.session (ap open_lines left_session))

  abbrev before : ℕ → Session
  before j = packed_tablet c.forms (c.tablet j)

  -- all follow
  all_follow : (j : ℕ) → with_held (lowered n size (seat t own before j).held) (seat t own before j) ≡ seat t own (λ i. with_held (lowered n size (before i).held) (before i)) j
  all_follow j =
      either (eqb j t)
      (λ y. ap (λ (x : Session). with_held (lowered n size x.held) x) (seat_own t own before j y) ∙ own_follows ∙ sym (seat_own t own _ j y))
      (λ m. ap (λ (x : Session). with_held (lowered n size x.held) x) (seat_other t own before j m) ∙ sym (seat_other t own _ j m))

  follow_next : (printing : ℕ)
      → laid_out (packed_shelf leaving.next.forms) (λ j. with_held (lowered n size (seat t own before j).held) (seat t own before j)) c.last printing
      ≡ packed_with (hear_from width room c t s).next printing
  follow_next printing =
      laid_alike _ _ _ c.last printing (λ j b. all_follow j)
      ∙ seated_next c sane t l s room _ printing other_follows
      ∙ ap (λ (x : Reply). packed_with x.next printing) (sym (free_reply width c t l s room takes.free))

-- memory with the numbers of sessions that have followed
follow_laid : (shelf : Shelf) (f : ℕ → Session) (last printing n size : ℕ)
    → with_numbers (laid_out shelf f last printing) (numbered (λ k. with_held (lowered n size (f k).held) (f k)) last printing) ≡ laid_out shelf (λ k. with_held (lowered n size (f k).held) (f k)) last printing
unfolding laid_out with_held
follow_laid shelf f last printing n size = refl

module _ (self : Memory) (t : ℕ) (l : t < 30) (s old : List ℕ) (idle : get_or self.held (t * 10) 0 ≡ 0) (shown : every is_shown s ≡ true) (k₀ : Reached self)
    (g : Option Leaving) (n size : ℕ) (warns : Warns self t s (Ok g)) (e : g ≡ Some (record { n = n; size = size })) (mid : Memory) (new : List ℕ) (r : Result ℕ Refusal) (h : SeatHears self t s old mid new r)
    (held : List ℕ) (follows : (f : ℕ → Session) (last printing : ℕ) → mid.held ≡ numbered f last printing → held ≡ numbered (λ k. with_held (lowered n size (f k).held) (f k)) last printing) where
  leaves_takes : (k : Reached self) → Takes k.class t (filing_of width (k.class.tablet t).session s) n size
  unfolding Guarding
  leaves_takes k = let w = idle_guards self t l s old idle shown k₀ (Ok g) warns k in rw e at w

  leaves_memory : (k : Reached self) → with_numbers mid held ≡ packed_class (hear_from width (length old) k.class t s).next
  unfolding packed_class laid_out
  leaves_memory k =
      let c : Class = k.class in
      let is = h.leaves _ _ _ _ _ _ (packed_seated self k t l) in
      let counts = free_count c (reached_sane self k) t l s (length old) (leaves_takes k).free in
      let same : printers (hear_from width (length old) c t s).next ≡ printers c =
      omega (arith, rw (idle_quiet self t l s old idle shown k₀ k (leaves_takes k).free) at counts) in
      ap (with_numbers mid) (follows _ _ _ (ap (λ (m : Memory). m.held) is)) ∙ ap (λ (m : Memory). with_numbers m (numbered (λ j. with_held (lowered n size (seat t (own c (reached_sane self k) t l s (length old) (reached_idle self k t l idle) n size (leaves_takes k)) (before c (reached_sane self k) t l s (length old) (reached_idle self k t l idle) n size (leaves_takes k)) j).held) (seat t (own c (reached_sane self k) t l s (length old) (reached_idle self k t l idle) n size (leaves_takes k)) (before c (reached_sane self k) t l s (length old) (reached_idle self k t l idle) n size (leaves_takes k)) j)) c.last (printers c))) is
      ∙ follow_laid _ _ c.last (printers c) n size
      ∙ follow_next c (reached_sane self k) t l s (length old) (reached_idle self k t l idle) n size (leaves_takes k) (printers c)
      ∙ ap (packed_with (hear_from width (length old) c t s).next) (sym same)

  leaves_meets : (k : Reached self) → Meets (hear_from width (length old) k.class t s).answer old new r
  unfolding reply
  leaves_meets k = rw (free_reply width k.class t l s (length old) (leaves_takes k).free) (h.meets _ _ _ _ _ _ (packed_seated self k t l))

  pub leaves_hears : HearsLine self t s old (with_numbers mid held) new r
  leaves_hears = record { reached = hears_on self k₀ (with_numbers mid held) t (length old) s (leaves_memory k₀); meets = leaves_meets; leaves = leaves_memory }
