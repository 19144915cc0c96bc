-- A line of one tablet: where nothing is forbidden, what is heard at its seat is what the paper's class hears, the others stay, and the count
-- of those that print is put right.
use Prim.Native.Nat.{ℕ, ◌+◌, ◌*◌, ◌≤◌, ◌<◌}
use mathlib.Core.Path.{◌≡◌, refl, sym, ◌∙◌, ap}
use mathlib.Core.Bool.{false}
use mathlib.Core.List.{List, [], ◌∷◌, ◌++◌}
use mathlib.Core.Option.{Option, none}
use native.Mathlib.Omega.{arith}
use lib.ListN.{length, get_or, set, length-append, get_or-append}
use lib.Seq.{get_or_at, get_or-append-add}
use lib.Dec.{eqb}
use Rattle.std.specs.Prelude.{Result}
use Rattle.paper.specs.Line.{kept}
use Rattle.paper.specs.Command.{Filing}
use Rattle.paper.specs.Bench as P
use Rattle.paper.specs.Class.{Class, thirty, prints, printers, filing_of, barred, Reply, seat, reply, hear_from, SaneClass}
use Rattle.paper.proofs.Test.{either}
use Rattle.paper.proofs.Apart.{seat_own, seat_other, reply_session, free_reply}
use Rattle.paper.proofs.Changes.{line_changes}
use Rattle.paper.proofs.Count.{one_if, reply_count}
use Rattle.command.specs.View.{width}
use Rattle.command.specs.Answer.{Meets}
use Rattle.command.specs.declared.Refusal.{Refusal}
use Rattle.session.specs.Memory.{Session, Shelf, packed_session, packed_shelf, number_of}
use Rattle.session.specs.Outcome.{after_line}
use Rattle.seats.specs.Seats.{flat, numbers_of}
use Rattle.seats.proofs.Flat.{flat_alike}
use Rattle.seats.specs.Numbers.{code_of}
use Rattle.seats.proofs.Parted.{numbers_alike, numbers_length, middle_set, tag_at}
use Rattle.seats.proofs.States.{prints_at}
use Rattle.call.specs.Call.{Memory, memory_of}
use Rattle.lend.specs.Laid.{numbered, laid_out, SeatHears}
use Rattle.guard.specs.Guarded.{Frees}
use Rattle.tablets.specs.Calls.{packed_tablet, packed_with, packed_class, Reached, HearsLine, recounted}
use Rattle.tablets.proofs.Leading.{hears_on, reached_sane}
use Rattle.tablets.proofs.Naming.{own_packed}
use Rattle.tablets.proofs.Packed.{packed_seated}
use Rattle.tablets.proofs.Staying.{others_stay}
use Rattle.tablets.proofs.Counting.{printers_within, recounts}

-- thirty sessions in memory are those below thirty
pub laid_alike : (shelf : Shelf) (f g : ℕ → Session) (last printing : ℕ) → ((k : ℕ) → k < 30 → f k ≡ g k) → laid_out shelf f last printing ≡ laid_out shelf g last printing
unfolding laid_out numbered
laid_alike shelf f g last printing e =
    let name : flat (λ k. (f k).name) 0 30 ≡ flat (λ k. (g k).name) 0 30 = flat_alike _ _ 0 30 (λ k m n. ap (λ (x : Session). x.name) (e k n)) in
    let text : flat (λ k. (f k).text) 0 30 ≡ flat (λ k. (g k).text) 0 30 = flat_alike _ _ 0 30 (λ k m n. ap (λ (x : Session). x.text) (e k n)) in
    let answers : flat (λ k. (f k).answers) 0 30 ≡ flat (λ k. (g k).answers) 0 30 = flat_alike _ _ 0 30 (λ k m n. ap (λ (x : Session). x.answers) (e k n)) in
    let values : flat (λ k. (f k).values) 0 30 ≡ flat (λ k. (g k).values) 0 30 = flat_alike _ _ 0 30 (λ k m n. ap (λ (x : Session). x.values) (e k n)) in
    let held : numbers_of (λ k. (f k).held) ≡ numbers_of (λ k. (g k).held) = numbers_alike _ _ (λ k n. ap (λ (x : Session). x.held) (e k n)) in
    let base = laid_out shelf f last printing in
    λ j. record {
      all = base.all;
      names = base.names;
      texts = base.texts;
      lens = base.lens;
      plans = base.plans;
      filed = base.filed;
      name = name j;
      text = text j;
      answers = answers j;
      values = values j;
      held = held j ++ (last ∷ printing ∷ []);
    }

-- memory with other numbers
abbrev pub with_numbers : Memory → List ℕ → Memory
with_numbers m held = memory_of m.all m.names m.texts m.lens m.plans m.filed m.name m.text m.answers m.values held

module _ (c : Class) (sane : SaneClass width c) (t : ℕ) (l : t < 30) (s : List ℕ) (room : ℕ) where
  abbrev outcome : P.Outcome
  outcome = P.hear width room (record { forms = c.forms; session = (c.tablet t).session }) s

  abbrev filing : Option Filing
  filing = filing_of width (c.tablet t).session s

  -- the sessions behind it, where the others stay or follow
  pub seated_next : (others : ℕ → Session) (printing : ℕ)
      → ((j : ℕ) → j < 30 → eqb j t ≡ false → others j ≡ packed_tablet outcome.next.forms (c.tablet j))
      → laid_out (packed_shelf outcome.next.forms) (seat t (packed_session outcome.next.forms (after_line (number_of (c.tablet t).form c.forms) c.forms (c.tablet t).session (kept s)) outcome.next.session) others) c.last printing
      ≡ packed_with (reply c t c.last filing outcome).next printing
  unfolding packed_with reply
  seated_next others printing e =
      laid_alike _ _ _ c.last printing
      (λ j b. either (eqb j t)
      (λ y. seat_own t _ others j y ∙ own_packed room c.forms (c.tablet t).session (c.tablet t).form s ∙ ap (packed_tablet outcome.next.forms) (sym (seat_own t _ c.tablet j y)))
      (λ n. seat_other t _ others j n ∙ e j b n ∙ ap (packed_tablet outcome.next.forms) (sym (seat_other t _ c.tablet j n))))

  -- where nothing is forbidden and no form leaves that others hold, they stay
  free_next : Frees c t filing → (printing : ℕ)
      → laid_out (packed_shelf outcome.next.forms) (seat t (packed_session outcome.next.forms (after_line (number_of (c.tablet t).form c.forms) c.forms (c.tablet t).session (kept s)) outcome.next.session) (λ j. packed_tablet c.forms (c.tablet j))) c.last printing
      ≡ packed_with (hear_from width room c t s).next printing
  free_next free printing =
      seated_next (λ j. packed_tablet c.forms (c.tablet j)) printing
      (λ j b n. sym (others_stay c t filing sane j b n (c.tablet t).session outcome.next.forms outcome.next.session (line_changes width room c.forms (c.tablet t).session s) free))
      ∙ ap (λ (x : Reply). packed_with x.next printing) (sym (free_reply width c t l s room free.free))

  -- how many print behind it
  pub free_count : barred c t filing ≡ none → printers (hear_from width room c t s).next + one_if (prints (c.tablet t).session) ≡ printers c + one_if (prints ((hear_from width room c t s).next.tablet t).session)
  unfolding printers thirty
  free_count e = rw (free_reply width c t l s room e, reply_session c t c.last filing outcome) (reply_count prints c t c.last filing outcome l)

  -- what its tablet's session is then
  pub reply_quiet : barred c t filing ≡ none → prints outcome.next.session ≡ prints (c.tablet t).session
      → prints ((hear_from width room c t s).next.tablet t).session ≡ prints (c.tablet t).session
  reply_quiet e q = ap (λ (x : Reply). prints (x.next.tablet t).session) (free_reply width c t l s room e) ∙ ap prints (reply_session c t c.last filing outcome) ∙ q

-- the numbers of thirty sessions with the two behind them
module _ (f : ℕ → Session) (last printing : ℕ) where
  pub numbered_length : length (numbered f last printing) ≡ 302
  unfolding numbered
  numbered_length = length-append (numbers_of (λ k. (f k).held)) (last ∷ printing ∷ []) ∙ ap (λ n. n + 2) (numbers_length (λ k. (f k).held))

  pub numbered_last : get_or (numbered f last printing) 300 0 ≡ last
  unfolding numbered
  numbered_last = get_or_at (numbers_of (λ k. (f k).held)) last (printing ∷ []) 0 300 (numbers_length (λ k. (f k).held))

  pub numbered_count : get_or (numbered f last printing) 301 0 ≡ printing
  unfolding numbered
  numbered_count = rw (numbers_length (λ k. (f k).held)) at (get_or-append-add (numbers_of (λ k. (f k).held)) (last ∷ printing ∷ []) 1 0)

  pub numbered_recount : (n : ℕ) → set (numbered f last printing) 301 n ≡ numbered f last n
  unfolding numbered
  numbered_recount n = middle_set _ (numbers_of (λ k. (f k).held)) (last ∷ printing ∷ []) 300 1 n refl (numbers_length (λ k. (f k).held))

  pub numbered_serve : (n : ℕ) → set (numbered f last printing) 300 n ≡ numbered f n printing
  unfolding numbered
  numbered_serve n = middle_set _ (numbers_of (λ k. (f k).held)) (last ∷ printing ∷ []) 300 0 n refl (numbers_length (λ k. (f k).held))

  -- the tag of a tablet's state
  pub numbered_tag : (t : ℕ) → t < 30 → get_or (numbered f last printing) (t * 10) 0 ≡ (code_of (f t).held.mode).tag
  unfolding numbered
  numbered_tag t l =
      get_or-append (numbers_of (λ k. (f k).held)) (last ∷ printing ∷ []) 0 (t * 10) (rw (numbers_length (λ k. (f k).held)) (omega arith))
      ∙ tag_at (numbers_of (λ k. (f k).held)) (λ k. (f k).held) refl t l

-- the numbers of a class
module _ (c : Class) (printing : ℕ) where
  pub held_numbered : (packed_with c printing).held ≡ numbered (λ k. packed_tablet c.forms (c.tablet k)) c.last printing
  unfolding packed_with laid_out
  held_numbered = refl

  pub with_tag : (t : ℕ) → t < 30 → eqb (get_or (packed_with c printing).held (t * 10) 0) 6 ≡ prints (c.tablet t).session
  unfolding packed_tablet
  with_tag t l =
      ap (λ xs. eqb (get_or xs (t * 10) 0) 6) held_numbered ∙ ap (λ n. eqb n 6) (numbered_tag (λ k. packed_tablet c.forms (c.tablet k)) c.last printing t l)
      ∙ prints_at c.forms (number_of (c.tablet t).form c.forms) (c.tablet t).session

  -- counted anew
  pub with_recount : (n : ℕ) → with_numbers (packed_with c printing) (set (packed_with c printing).held 301 n) ≡ packed_with c n
  unfolding packed_with laid_out
  with_recount n =
      ap (with_numbers (packed_with c printing)) (numbered_recount (λ k. packed_tablet c.forms (c.tablet k)) c.last printing n)

module _ (self : Memory) (t : ℕ) (l : t < 30) (s old : List ℕ) (mid : Memory) (new : List ℕ) (r : Result ℕ Refusal) (h : SeatHears self t s old mid new r)
    (free : (k : Reached self) → Frees k.class t (filing_of width (k.class.tablet t).session s)) where
  -- the answer
  seat_meets : (k : Reached self) → Meets (hear_from width (length old) k.class t s).answer old new r
  unfolding reply
  seat_meets k = rw (free_reply width k.class t l s (length old) (free k).free) (h.meets _ _ _ _ _ _ (packed_seated self k t l))

  -- and the memory, but that it is not counted yet how many print
  pub seat_leaves : (k : Reached self) → mid ≡ packed_with (hear_from width (length old) k.class t s).next (printers k.class)
  seat_leaves k = h.leaves _ _ _ _ _ _ (packed_seated self k t l) ∙ free_next k.class (reached_sane self k) t l s (length old) (free k) (printers k.class)

  -- where it need not be counted
  pub quiet_hears : Reached self
      → ((k : Reached self) → prints ((hear_from width (length old) k.class t s).next.tablet t).session ≡ prints (k.class.tablet t).session)
      → HearsLine self t s old mid new r
  unfolding packed_class
  quiet_hears k₀ quiet =
      let leaves : (k : Reached self) → mid ≡ packed_class (hear_from width (length old) k.class t s).next =
      λ k. let counts = free_count k.class (reached_sane self k) t l s (length old) (free k).free in
      let same : printers (hear_from width (length old) k.class t s).next ≡ printers k.class = omega (arith, rw (quiet k) at counts) in
      seat_leaves k ∙ ap (packed_with (hear_from width (length old) k.class t s).next) (sym same) in
      record { reached = hears_on self k₀ mid t (length old) s (leaves k₀); meets = seat_meets; leaves = leaves }

  -- what counting asks for
  pub mid_counted : Reached self → (length mid.held ≡ 302) × (get_or mid.held 301 0 ≤ 30)
  mid_counted k =
      let is : mid.held ≡ numbered (λ j. packed_tablet (hear_from width (length old) k.class t s).next.forms ((hear_from width (length old) k.class t s).next.tablet j)) (hear_from width (length old) k.class t s).next.last (printers k.class) =
      ap (λ (m : Memory). m.held) (seat_leaves k) ∙ held_numbered _ _ in
      let count : get_or mid.held 301 0 ≡ printers k.class = ap (λ xs. get_or xs 301 0) is ∙ numbered_count _ _ _ in
      (ap length is ∙ numbered_length _ _ _, omega (arith, printers_within k.class))

  -- counted anew
  module _ (held : List ℕ) (was : ℕ) (w : was ≡ get_or self.held (t * 10) 0) (e : held ≡ set mid.held 301 (recounted (get_or mid.held 301 0) was (get_or mid.held (t * 10) 0))) where
    counted_leaves : (k : Reached self) → with_numbers mid held ≡ packed_class (hear_from width (length old) k.class t s).next
    unfolding packed_class
    counted_leaves k =
        let next : Class = (hear_from width (length old) k.class t s).next in
        let p : ℕ = printers k.class in
        let is : mid ≡ packed_with next p = seat_leaves k in
        let before : eqb was 6 ≡ prints (k.class.tablet t).session = ap (λ n. eqb n 6) w ∙ ap (λ (m : Memory). eqb (get_or m.held (t * 10) 0) 6) k.is ∙ with_tag k.class p t l in
        let behind : eqb (get_or mid.held (t * 10) 0) 6 ≡ prints (next.tablet t).session = ap (λ (m : Memory). eqb (get_or m.held (t * 10) 0) 6) is ∙ with_tag next p t l in
        let count : get_or mid.held 301 0 ≡ p = ap (λ (m : Memory). get_or m.held 301 0) is ∙ ap (λ xs. get_or xs 301 0) (held_numbered next p) ∙ numbered_count _ _ _ in
        let right : recounted (get_or mid.held 301 0) was (get_or mid.held (t * 10) 0) ≡ printers next =
        ap (λ n. recounted n was (get_or mid.held (t * 10) 0)) count
        ∙ recounts (printers next) p was _ _ _ before behind (free_count k.class (reached_sane self k) t l s (length old) (free k).free) in
        ap (with_numbers mid) (e ∙ ap (set mid.held 301) right) ∙ ap (λ (m : Memory). with_numbers m (set m.held 301 (printers next))) is ∙ with_recount next p (printers next)

    pub order_hears : Reached self → HearsLine self t s old (with_numbers mid held) new r
    order_hears k₀ = record { reached = hears_on self k₀ (with_numbers mid held) t (length old) s (counted_leaves k₀); meets = seat_meets; leaves = counted_leaves }
