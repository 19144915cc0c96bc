-- Every call of a class has one outcome, and so have calls in a row. A refused one leaves what the paper says and writes nothing;
-- all that holds of classes holds of each memory that calls leave; and a single line leads each tablet home.
use Prim.Native.Nat.{ℕ, ◌≤◌, ◌<◌}
use mathlib.Core.Path.{◌≡◌, refl, sym, ◌∙◌, ap}
use mathlib.Core.Bool.{false}
use mathlib.Core.List.{List, [], ◌∷◌, map}
use lib.ListN.{length}
use lib.Dec.{eqb}
use borrow.Author.Tests.{eqb-true, le-ltb}
use Rattle.std.specs.Prelude.{Result, Err}
use Rattle.paper.specs.Refusal as R
use Rattle.paper.specs.Bench as P
use Rattle.paper.specs.Class.{Class, at_rest, denied, Reply, sends, reply_to, SaneClass}
use Rattle.paper.proofs.Home.{way_home}
use Rattle.paper.proofs.Apart.{leaves_others}
use Rattle.paper.proofs.Silent.{line_elsewhere}
use Rattle.paper.proofs.ClassRefused as Paper
use Rattle.paper.proofs.ClassRefused.{Untouched, tablet_over, class_home}
use Rattle.command.specs.View.{width, refusal_of}
use Rattle.command.specs.Answer.{Reports}
use Rattle.command.specs.declared.Refusal.{Refusal}
use Rattle.command.specs.declared.Refusal.TheVariants as W
use Rattle.command.proofs.Outcome.{meets_one, refused_keeps}
use Rattle.call.specs.Call.{Memory}
use Rattle.tablets.specs.Calls.{packed_class, Reached, Begins, HearsLine, TakesSet, Counts, SetsLeft, AllLeft}
use Rattle.tablets.specs.Runs.{Kind, hears, takes, Made, PromisedBy, Chain, state_in}
use Rattle.tablets.proofs.Leading.{hears_on, reached_sane}
use Rattle.tablets.proofs.Leaving.{tag_rests, reached_tag}
use Rattle.tablets.proofs.Taking.{reports_refused}
use Rattle.tablets.proofs.Chain.{made_steps, chain_follows}

-- `hear` has one outcome: the memory, the buffer and the answer
pub hear_unique : (self : Memory) → Reached self → (t : ℕ) (s old : List ℕ) (next next' : Memory) (new new' : List ℕ) (r r' : Result ℕ Refusal)
    → HearsLine self t s old next new r → HearsLine self t s old next' new' r' → (next ≡ next') × (new ≡ new') × (r ≡ r')
hear_unique self k t s old next next' new new' r r' p p' =
    let (buffer, answer) = meets_one _ old new new' r r' (p.meets k) (p'.meets k) in
    (p.leaves k ∙ sym (p'.leaves k), buffer, answer)

-- `take` has one, with the tablet that it tells
pub take_unique : (self : Memory) → Reached self → (old : List ℕ) (next next' : Memory) (new new' : List ℕ) (whose whose' : ℕ) (r r' : Result ℕ Refusal)
    → TakesSet self old next new whose r → TakesSet self old next' new' whose' r' → (next ≡ next') × (new ≡ new') × (whose ≡ whose') × (r ≡ r')
take_unique self k old next next' new new' whose whose' r r' p p' =
    let (buffer, answer) = meets_one _ old new new' r r' (p.meets k) (p'.meets k) in
    (p.leaves k ∙ sym (p'.leaves k), buffer, p.whose k ∙ sym (p'.whose k), answer)

-- `sets_left` has one
pub left_unique : (held : List ℕ) → Counts held → (t r r' : ℕ) → SetsLeft held t r → SetsLeft held t r' → r ≡ r'
left_unique held k t r r' p p' = p.is k ∙ sym (p'.is k)

-- `all_left` has one
pub all_left_unique : (held : List ℕ) → Counts held → (r r' : ℕ) → AllLeft held r → AllLeft held r' → r ≡ r'
all_left_unique held k r r' p p' = p.is k ∙ sym (p'.is k)

-- `new` has one
pub new_unique : (self self' : Memory) → Begins self → Begins self' → self ≡ self'
new_unique self self' p p' = p.is ∙ sym p'.is

-- a call as promised has one
made_unique : (self : Memory) → Reached self → (what : Kind) (old : List ℕ) (next next' : Memory) (new new' : List ℕ) (whose whose' : ℕ) (r r' : Result ℕ Refusal)
    → PromisedBy self what old next new whose r → PromisedBy self what old next' new' whose' r' → (next ≡ next') × (new ≡ new') × (whose ≡ whose') × (r ≡ r')
made_unique self k (hears t s) old next next' new new' whose whose' r r' p p' =
    let (memory, buffer, answer) = hear_unique self k t s old next next' new new' r r' p.1 p'.1 in
    (memory, buffer, p.0 ∙ sym p'.0, answer)
made_unique self k takes old next next' new new' whose whose' r r' p p' = take_unique self k old next next' new new' whose whose' r r' p p'

-- the same calls, with the same buffers lent to them, have one outcome: all buffers, answers, tablets and memory are the same
pub chain_unique : (self : Memory) → Reached self → (ms ms' : List Made) → map (λ m. m.what) ms ≡ map (λ m. m.what) ms' → map (λ m. m.old) ms ≡ map (λ m. m.old) ms'
    → Chain self ms → Chain self ms' → ms ≡ ms'
chain_unique self k [] [] e f h h' = refl
chain_unique self k [] (m' ∷ ms') e f h h' = cc
chain_unique self k (m ∷ ms) [] e f h h' = cc
chain_unique self k (m ∷ ms) (m' ∷ ms') e f h h' =
    let what : m.what ≡ m'.what = cc in
    let old : m.old ≡ m'.old = cc in
    let whats : map (λ m. m.what) ms ≡ map (λ m. m.what) ms' = cc in
    let olds : map (λ m. m.old) ms ≡ map (λ m. m.old) ms' = cc in
    let p' : PromisedBy self m.what m.old m'.next m'.new m'.whose m'.answer = rw (what, old) h'.0 in
    let (next, new, whose, answer) = made_unique self k m.what m.old m.next m'.next m.new m'.new m.whose m'.whose m.answer m'.answer h.0 p' in
    let one : m ≡ m' = λ j. record { what = what j; old = old j; new = new j; next = next j; whose = whose j; answer = answer j } in
    let more : Chain m.next ms' = rw next h'.1 in
    let rest = chain_unique m.next (made_steps self k m.what m.old m.next m.new m.whose m.answer h.0).reached ms ms' whats olds h.1 more in
    ap (λ x. x ∷ ms) one ∙ ap (λ xs. m' ∷ xs) rest

-- all that holds of classes that calls lead to holds of the memory behind some calls
pub chain_sane : (self : Memory) (k : Reached self) (ms : List Made) (h : Chain self ms) → SaneClass width (chain_follows self k ms h).reached.class
chain_sane self k ms h = reached_sane _ (chain_follows self k ms h).reached

-- what a refused line leaves: memory of a class in which only its own tablet may have changed, and that as on the bench of 01; the
-- buffer is as it was
pub record Refuses (c : Class) (t : ℕ) (r : R.Refusal) (old : List ℕ) (next : Memory) (new : List ℕ) : Type 0 where
  pub reached : Reached next
  pub untouched : Untouched c t r reached.class
  pub buffer : new ≡ old

pub hear_refused : (self : Memory) (k : Reached self) (t : ℕ) (s old : List ℕ) (next : Memory) (new : List ℕ) (why : Refusal) → t < 30
    → HearsLine self t s old next new (Err why) → Refuses k.class t (refusal_of why) old next new
unfolding hears_on
hear_refused self k t s old next new why l p =
    record {
      reached = hears_on self k next t (length old) s (p.leaves k);
      untouched = Paper.line_untouched width (length old) k.class t s (refusal_of why) l (reports_refused why _ (p.meets k).reports);
      buffer = refused_keeps _ old new why (p.meets k);
    }

-- a line of no tablet is 18, and nothing changes
pub hear_over : (self : Memory) → Reached self → (t : ℕ) (s old : List ℕ) (next : Memory) (new : List ℕ) (r : Result ℕ Refusal) → 30 ≤ t
    → HearsLine self t s old next new r → (next ≡ self) × (new ≡ old) × (r ≡ Err W.NoTablet)
unfolding denied Reports R.lent refusal_of
hear_over self k t s old next new r l p =
    let is = tablet_over width (length old) k.class t s (le-ltb t 30 l) in
    let (buffer, answer) = meets_one (R.refused R.no_tablet) old new old r (Err W.NoTablet) (rw is at (p.meets k)) (record { reports = refl; buffer = refl }) in
    (p.leaves k ∙ ap (λ (x : Reply). packed_class x.next) is ∙ sym k.is, buffer, answer)

-- a refused take changes nothing
pub take_refused : (self : Memory) → Reached self → (old : List ℕ) (next : Memory) (new : List ℕ) (whose : ℕ) (why : Refusal)
    → TakesSet self old next new whose (Err why) → (next ≡ self) × (new ≡ old)
take_refused self k old next new whose why p =
    let stays = Paper.take_untouched (length old) k.class (refusal_of why) (reports_refused why _ (p.meets k).reports) in
    (p.leaves k ∙ ap packed_class stays ∙ sym k.is, refused_keeps _ old new why (p.meets k))

-- a tablet came home, and the others are where they were
pub record Home (c : Class) (t : ℕ) (next : Memory) : Type 0 where
  pub reached : Reached next
  pub idle : (reached.class.tablet t).session ≡ P.idle
  pub number : state_in next t ≡ 0
  pub others : (u : ℕ) → eqb u t ≡ false → reached.class.tablet u ≡ c.tablet u

-- HOME: from every state a single line of its own leads a tablet to Idle
pub hear_home : (self : Memory) (k : Reached self) (t : ℕ) (old : List ℕ) (next : Memory) (new : List ℕ) (r : Result ℕ Refusal) → t < 30
    → HearsLine self t (way_home (k.class.tablet t).session) old next new r → Home k.class t next
unfolding hears_on reply_to state_in at_rest
hear_home self k t old next new r l p =
    let s : List ℕ = way_home (k.class.tablet t).session in
    let on = hears_on self k next t (length old) s (p.leaves k) in
    let home = class_home width (length old) k.class t l in
    record {
      reached = on;
      idle = home;
      number = reached_tag next on t l ∙ eqb-true _ 0 (tag_rests _ _ (on.class.tablet t).session ∙ ap at_rest home);
      others = λ u n. leaves_others width u k.class (sends t (length old) s) (line_elsewhere width u t (length old) k.class s n);
    }
