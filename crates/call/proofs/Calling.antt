-- The calls: memory that calls lead to is a session beside a shelf, and what a step leaves is such memory again.
use Prim.Native.Nat.{ℕ}
use mathlib.Core.Path.{◌≡◌, refl, sym, ◌∙◌, ap}
use mathlib.Core.Bool.{true}
use mathlib.Core.List.{List, [], ◌∷◌}
use native.Mathlib.Omega.{arith}
use lib.ListN.{length, take, get_or}
use Rattle.std.specs.Prelude.{Result}
use Rattle.paper.specs.Byte.{every}
use Rattle.paper.specs.Command.{is_shown}
use Rattle.paper.specs.Line.{kept, control}
use Rattle.paper.specs.Bench as P
use Rattle.command.specs.View.{width}
use Rattle.command.specs.declared.Refusal.{Refusal}
use Rattle.store.specs.Packed.{Store}
use Rattle.store.specs.declared.Filed.{Filed}
use Rattle.session.specs.Memory.{Session, Shelf, session_of, shelf_of, packed_session, packed_shelf}
use Rattle.session.specs.Outcome.{At, Does, Hears, Answers, Refuses, Takes, Showing, Planned, Kept, NotAnswering, after_line}
use Rattle.call.specs.Call.{Memory, memory_of, laid, packed_bench, Reached, HearsLine, TakesSet}
use Rattle.seats.specs.Numbers.{code_of, held_in, filed_in}
use Rattle.session.specs.declared.state.Held.{Held}
use Rattle.session.specs.declared.state.Mode.{Mode}
use Rattle.session.specs.declared.state.Mode.TheVariants as M
use Rattle.wait.specs.Waiting.{Waits, fault_of}
use Rattle.listen.proofs.Hearing.{hears_shown, kept_fault, heard_waits, after_waits}
use Rattle.call.proofs.Leading.{hears_on, takes_on}

-- numbers of a session that were read
abbrev pub ReadsHeld : List ℕ → Held → Type 0
ReadsHeld ns r = (h : Held) → ns ≡ held_in h → r ≡ h

-- and those of the store
abbrev pub ReadsFiled : List ℕ → Filed → Type 0
ReadsFiled ns r = (s : Store) → ns ≡ filed_in s → r ≡ record { used = s.used; count = s.count }

-- the session and the shelf of memory whose numbers are these
abbrev pub session_in : Memory → Held → Session
session_in m h = session_of h m.name m.text m.answers m.values

abbrev pub shelf_in : Memory → Filed → Shelf
shelf_in m f = shelf_of f m.all m.names m.texts m.lens m.plans

-- the numbers of memory that calls lead to: ten
pub reached_ten : (m : Memory) → Reached m → length m.held ≡ 10
unfolding packed_bench laid held_in
reached_ten m k = ap (λ (x : Memory). length x.held) k.is

-- and two
reached_two : (m : Memory) → Reached m → length m.filed ≡ 2
unfolding packed_bench laid filed_in
reached_two m k = ap (λ (x : Memory). length x.filed) k.is

module _ (m : Memory) (h : Held) (rh : ReadsHeld m.held h) (k : Reached m) where
  -- the session on paper
  reached_held : m.held ≡ held_in (packed_session k.paper.forms k.number k.paper.session).held
  unfolding packed_bench laid
  reached_held = ap (λ (x : Memory). x.held) k.is

  reached_here : session_in m h ≡ packed_session k.paper.forms k.number k.paper.session
  unfolding packed_bench laid
  reached_here =
      let p = packed_session k.paper.forms k.number k.paper.session in
      ap (session_in m) (rh p.held (ap (λ (x : Memory). x.held) k.is)) ∙ ap (λ (x : Memory). session_in x p.held) k.is

  -- and the shelf
  reached_there : (f : Filed) → ReadsFiled m.filed f → shelf_in m f ≡ packed_shelf k.paper.forms
  unfolding packed_bench laid
  reached_there f rf =
      let p = packed_shelf k.paper.forms in
      ap (shelf_in m) (rf p.store (ap (λ (x : Memory). x.filed) k.is)) ∙ ap (λ (x : Memory). shelf_in x (record { used = p.store.used; count = p.store.count })) k.is

  -- memory that calls lead to is as all promises want it
  unfoldable reached_at : (f : Filed) → ReadsFiled m.filed f → At (session_in m h) (shelf_in m f)
  reached_at f rf =
      record {
        forms = k.paper.forms;
        state = k.paper.session;
        number = k.number;
        sane = k.sane;
        opens = k.opens;
        here = reached_here;
        there = reached_there f rf;
      }

  -- the store's numbers where they are not read
  unfoldable reached_filed : Filed
  reached_filed = let p = packed_shelf k.paper.forms in record { used = p.store.used; count = p.store.count }

  reached_reads : ReadsFiled m.filed reached_filed
  unfolding reached_filed packed_bench laid filed_in
  reached_reads s e =
      let p = packed_shelf k.paper.forms in
      let two : filed_in p.store ≡ filed_in s = sym (ap (λ (x : Memory). x.filed) k.is) ∙ e in
      let used : p.store.used ≡ s.used = cc in
      let count : p.store.count ≡ s.count = cc in
      rw (used, count)

  reached_showing : Showing (session_in m h) m.all m.plans
  reached_showing = record { shelf = shelf_in m reached_filed; texts = refl; planned = refl; at = reached_at reached_filed reached_reads }

-- what a step leaves in memory
does_laid : (o : P.Outcome) (n : ℕ) (old new : List ℕ) (answer : Result ℕ Refusal) (next : Session) (more : Shelf) → Does o n old new answer next more → laid more next ≡ packed_bench o.next n
unfolding packed_bench
does_laid o n old new answer next more d = ap (λ x. laid x next) d.shelf ∙ ap (laid (packed_shelf o.next.forms)) d.session

module _ (m : Memory) (h : Held) (rh : ReadsHeld m.held h) (name text answers values held old new : List ℕ) (answer : Result ℕ Refusal) (next : Held)
    (t : Takes (session_in m h) m.all m.plans old new answer (session_of next name text answers values)) (e : held ≡ held_in next) where
  -- the memory that a take leaves
  abbrev taken_in : Memory
  taken_in = memory_of m.all m.names m.texts m.lens m.plans m.filed name text answers values held

  taken_does : (k : Reached m) → Does (P.take_set (length old) k.paper) k.number old new answer (session_of next name text answers values) (shelf_in m (reached_filed m h rh k))
  unfolding P.take_set reached_at
  taken_does k = t.takes (shelf_in m (reached_filed m h rh k)) refl refl (reached_at m h rh k (reached_filed m h rh k) (reached_reads m h rh k))

  taken_is : (k : Reached m) → taken_in ≡ packed_bench (P.take_set (length old) k.paper).next k.number
  unfolding laid filed_in reached_filed packed_bench
  taken_is k =
      let f : m.filed ≡ filed_in (packed_shelf k.paper.forms).store = ap (λ (x : Memory). x.filed) k.is in
      ap (λ x. memory_of m.all m.names m.texts m.lens m.plans x name text answers values held) f
      ∙ ap (λ x. memory_of m.all m.names m.texts m.lens m.plans (filed_in (packed_shelf k.paper.forms).store) name text answers values x) e
      ∙ does_laid _ k.number old new answer _ _ (taken_does k)

  -- a set is taken from memory
  takes_memory : Reached m → TakesSet m old taken_in new answer
  unfolding P.take_set
  takes_memory k =
      record {
        reached = takes_on m k taken_in (length old) (taken_is k);
        meets = λ k. (taken_does k).meets;
        leaves = taken_is;
      }

module _ (m : Memory) (h : Held) (rh : ReadsHeld m.held h) (f : Filed) (rf : ReadsFiled m.filed f)
    (all names texts lens plans filed name text answers values held s old new : List ℕ) (answer : Result ℕ Refusal) (next : Held) (more : Filed)
    (t : Hears (session_in m h) (shelf_in m f) (kept s) old new answer (session_of next name text answers values) (shelf_of more all names texts lens plans))
    (e : held ≡ held_in next) (g : filed ≡ more.used ∷ more.count ∷ []) where
  -- what a line does to memory
  heard_does : (k : Reached m)
      → Does (P.hear width (length old) k.paper s) (after_line k.number k.paper.forms k.paper.session (kept s)) old new answer (session_of next name text answers values) (shelf_of more all names texts lens plans)
  unfolding reached_at P.hear
  heard_does k = t.hears (reached_at m h rh k f rf)

  heard_is : (k : Reached m)
      → memory_of all names texts lens plans filed name text answers values held ≡ packed_bench (P.hear width (length old) k.paper s).next (after_line k.number k.paper.forms k.paper.session (kept s))
  unfolding laid filed_in
  heard_is k =
      ap (λ x. memory_of all names texts lens plans x name text answers values held) g
      ∙ ap (λ x. memory_of all names texts lens plans (more.used ∷ more.count ∷ []) name text answers values x) e
      ∙ does_laid _ _ old new answer _ _ (heard_does k)

  -- a line is heard by it
  hears_memory : Reached m → HearsLine m s old (memory_of all names texts lens plans filed name text answers values held) new answer
  unfolding P.hear
  hears_memory k =
      record {
        reached = hears_on m k _ (length old) s (heard_is k);
        meets = λ k. (heard_does k).meets;
        leaves = heard_is;
      }

-- the numbers of a session in Answering
answering_tag : (h : Held) → get_or (held_in h) 0 0 ≡ 4 → h.mode ≡ M.Answering (get_or (held_in h) 1 0)
unfolding held_in code_of
answering_tag h e = by h.mode refl
  where
    by : (mode : Mode) → h.mode ≡ mode → h.mode ≡ M.Answering (get_or (held_in h) 1 0)
    by M.Idle m = let z : ◌≡◌ {A = ℕ} 0 4 = rw m at e in absurd (omega arith)
    by (M.Collecting lines) m = let z : ◌≡◌ {A = ℕ} 1 4 = rw m at e in absurd (omega arith)
    by M.Spoiled m = let z : ◌≡◌ {A = ℕ} 2 4 = rw m at e in absurd (omega arith)
    by M.Opened m = let z : ◌≡◌ {A = ℕ} 3 4 = rw m at e in absurd (omega arith)
    by (M.Answering k) m = rw m
    by M.Ready m = let z : ◌≡◌ {A = ℕ} 5 4 = rw m at e in absurd (omega arith)
    by (M.Printing sets copies out) m = let z : ◌≡◌ {A = ℕ} 6 4 = rw m at e in absurd (omega arith)

-- and of one that is not
other_tag : (h : Held) → (get_or (held_in h) 0 0 ≡ 4 → ⊥) → NotAnswering h.mode
unfolding held_in code_of
other_tag h n k e = n (rw e)

-- a line of which a session and the lent buffer hear beside every store with these plans
module _ (m : Memory) (h : Held) (rh : ReadsHeld m.held h) (name text answers values held s b : List ℕ) (answer : Result ℕ Refusal) (next : Held)
    (t : (store : Store) → Hears (session_in m h) (record { store = store; plans = m.plans }) (kept s) b b answer (session_of next name text answers values) (record { store = store; plans = m.plans }))
    (e : held ≡ held_in next) (k : Reached m) where
  stays_memory : HearsLine m s b (memory_of m.all m.names m.texts m.lens m.plans m.filed name text answers values held) b answer
  unfolding packed_bench laid filed_in reached_filed
  stays_memory =
      let f = reached_filed m h rh k in
      hears_memory m h rh f (reached_reads m h rh k) m.all m.names m.texts m.lens m.plans m.filed name text answers values held s b b
      answer next f (t _) e (ap (λ (x : Memory). x.filed) k.is) k

-- the same by the slices: the numbers
pub slices_ten : (all names texts lens plans filed name text answers values held : List ℕ) → Reached (memory_of all names texts lens plans filed name text answers values held) → length held ≡ 10
slices_ten all names texts lens plans filed name text answers values held k = reached_ten (memory_of all names texts lens plans filed name text answers values held) k

pub slices_two : (all names texts lens plans filed name text answers values held : List ℕ) → Reached (memory_of all names texts lens plans filed name text answers values held) → length filed ≡ 2
slices_two all names texts lens plans filed name text answers values held k = reached_two (memory_of all names texts lens plans filed name text answers values held) k

module _ (all names texts lens plans filed name text answers values held : List ℕ) (h : Held)
    (k : Reached (memory_of all names texts lens plans filed name text answers values held)) (rh : ReadsHeld held h) where
  -- for a set
  pub slices_showing : Showing (session_of h name text answers values) all plans
  slices_showing = reached_showing (memory_of all names texts lens plans filed name text answers values held) h rh k

  pub slices_taken : (name' text' answers' values' held' old new : List ℕ) (answer : Result ℕ Refusal) (next : Held)
      → Takes (session_of h name text answers values) all plans old new answer (session_of next name' text' answers' values') → held' ≡ held_in next
      → TakesSet (memory_of all names texts lens plans filed name text answers values held) old (memory_of all names texts lens plans filed name' text' answers' values' held') new answer
  slices_taken name' text' answers' values' held' old new answer next t e =
      takes_memory (memory_of all names texts lens plans filed name text answers values held) h rh name' text' answers' values' held' old new answer next t e k

  -- for an answer: the state, the plans, and what is promised of it
  pub slices_answering : get_or held 0 0 ≡ 4 → h.mode ≡ M.Answering (get_or held 1 0)
  slices_answering e =
      let p = (packed_session k.paper.forms k.number k.paper.session).held in
      let is : held ≡ held_in p = reached_held (memory_of all names texts lens plans filed name text answers values held) h rh k in
      let same : h ≡ p = rh p is in
      rw (is, same) (answering_tag p (rw is at e))

  pub slices_other : (get_or held 0 0 ≡ 4 → ⊥) → NotAnswering h.mode
  slices_other n =
      let p = (packed_session k.paper.forms k.number k.paper.session).held in
      let is : held ≡ held_in p = reached_held (memory_of all names texts lens plans filed name text answers values held) h rh k in
      let same : h ≡ p = rh p is in
      rw same (other_tag p (λ e. n (rw is e)))

  -- and for a line
  pub slices_at : (f : Filed) → ReadsFiled filed f → At (session_of h name text answers values) (shelf_of f all names texts lens plans)
  slices_at f rf = reached_at (memory_of all names texts lens plans filed name text answers values held) h rh k f rf

  pub slices_heard : (f : Filed) → ReadsFiled filed f → (all' names' texts' lens' plans' filed' name' text' answers' values' held' s old new : List ℕ) (answer : Result ℕ Refusal) (next : Held) (more : Filed)
      → Hears (session_of h name text answers values) (shelf_of f all names texts lens plans) (kept s) old new answer (session_of next name' text' answers' values') (shelf_of more all' names' texts' lens' plans')
      → held' ≡ held_in next → filed' ≡ more.used ∷ more.count ∷ []
      → HearsLine (memory_of all names texts lens plans filed name text answers values held) s old (memory_of all' names' texts' lens' plans' filed' name' text' answers' values' held') new answer
  slices_heard f rf all' names' texts' lens' plans' filed' name' text' answers' values' held' s old new answer next more t e g =
      hears_memory (memory_of all names texts lens plans filed name text answers values held) h rh f rf all' names' texts' lens' plans' filed' name' text' answers' values' held' s old new answer next more t e g k

  -- an answer is heard
  pub slices_planned : Planned (session_of h name text answers values) plans
  slices_planned = record { store = _; at = reached_at (memory_of all names texts lens plans filed name text answers values held) h rh k _ (reached_reads (memory_of all names texts lens plans filed name text answers values held) h rh k) }

  pub slices_answered : (name' text' answers' values' held' s b : List ℕ) (answer : Result ℕ Refusal) (next : Held) → every is_shown s ≡ true
      → Answers (session_of h name text answers values) plans s answer (session_of next name' text' answers' values') → held' ≡ held_in next
      → HearsLine (memory_of all names texts lens plans filed name text answers values held) s b (memory_of all names texts lens plans filed name' text' answers' values' held') b answer
  slices_answered name' text' answers' values' held' s b answer next y t e =
      stays_memory (memory_of all names texts lens plans filed name text answers values held) h rh name' text' answers' values' held' s b answer next
      (λ store. hears_shown _ _ s b b _ _ _ y (t.answers store b)) e k

  -- a line is refused for a control byte, or because it is too long
  pub slices_kept : Kept (session_of h name text answers values)
  slices_kept = let p = slices_planned in record { shelf = _; at = p.at }

  pub slices_refused : (line : List ℕ) (n : ℕ) (name' text' answers' values' held' s b : List ℕ) (why : Refusal) (answer : Result ℕ Refusal) (next : Held) → Waits (kept s) line n → control (take n line) ≡ true → why ≡ fault_of n
      → Refuses why (session_of h name text answers values) answer (session_of next name' text' answers' values') → held' ≡ held_in next
      → HearsLine (memory_of all names texts lens plans filed name text answers values held) s b (memory_of all names texts lens plans filed name' text' answers' values' held') b answer
  slices_refused line n name' text' answers' values' held' s b why answer next w c q r e =
      stays_memory (memory_of all names texts lens plans filed name text answers values held) h rh name' text' answers' values' held' s b answer next
      (λ store. kept_fault _ _ s line n w b _ _ c (rw q at r)) e k

-- what waits of a line is heard as the line
pub hears_waiting : (m : Memory) (s line : List ℕ) (n : ℕ) (old : List ℕ) (next : Memory) (new : List ℕ) (r : Result ℕ Refusal) → Waits (kept s) line n → HearsLine m (take n line) old next new r → HearsLine m s old next new r
hears_waiting m s line n old next new r w t =
    record {
      reached = t.reached;
      meets = λ k. rw (heard_waits (length old) k.paper s line n w) at (t.meets k);
      leaves = λ k. rw (heard_waits (length old) k.paper s line n w, after_waits k.number k.paper.forms k.paper.session s line n w) at (t.leaves k);
    }
