-- Filling the buffers: each step says what is next to be said, and steps add up.
use Prim.Native.Nat.{ℕ, suc, ◌+◌, ◌-◌, ◌^◌, ◌≤◌, ◌<◌}
use mathlib.Core.Path.{◌≡◌, refl, sym, ◌∙◌, ap}
use mathlib.Core.Bool.{Bool, true, false, false≢true}
use mathlib.Core.List.{List, [], ◌∷◌, ◌++◌, append_assoc}
use native.Mathlib.Omega.{arith}
use lib.ListN.{length, take, drop, drop_of_length-le}
use lib.Dec.{eqb, ltb}
use borrow.Author.Tests.{eqb-true, ltb-true, ltb-false}
use Rattle.paper.specs.Byte.{when◌then◌else◌}
use Rattle.paper.specs.Line.{lf, kept}
use Rattle.paper.specs.Bench as P
use Rattle.paper.specs.State.{Led, hearing, taking}
use Rattle.paper.specs.Class.{thirty, desk}
use Rattle.paper.specs.Program.{enough, to_take}
use Rattle.paper.proofs.Law.{by_test}
use Rattle.paper.proofs.Test.{either}
use Rattle.paper.proofs.SetOf.{take_gives}
use Rattle.paper.proofs.Invariant.{led_sane}
use Rattle.command.specs.View.{width}
use Rattle.text.specs.Place.{from}
use Rattle.text.proofs.Written.{writes_none, writes_then, writes_length}
use Rattle.call.specs.Call.{Memory}
use Rattle.wait.specs.Waiting.{Waiting, Comes, Gathered, line_by}
use Rattle.tablets.specs.Calls.{left_of, SetsLeft}
use Rattle.tablets.proofs.Leading.{reached_counts}
use Rattle.tablets.proofs.Left.{left_few}
use Rattle.reports.specs.Said.{Lone, Sole, HearsAt, TakesAt}
use Rattle.flow.specs.Feed.{feed, line}
use Rattle.flow.specs.declared.fill.Reach.{Reach}
use Rattle.flow.specs.Emit.{Standing, silence, joined, heard, heard_says, taken, taken_says, waiting}
use Rattle.flow.specs.Fill.{Desk, Place, place_of, At, Stands, Inside, Room, Ending, Leads, Puts, Goes, weight, Steps, Lacks, out_full, err_full, Fills}
use Rattle.flow.proofs.Cutting.{Line, part_ends, kept_none, rest_inside, rest_part, feed_inside, feed_line}
use Rattle.flow.proofs.Gathering.{clean_more, heard_as}
use Rattle.flow.proofs.Emitting.{joined_none, joined_assoc, emit_takes, emit_hears, emit_waits, after_takes_it, after_hears, after_waits}

-- a run that stands somewhere has its bench to itself
abbrev pub bench_at : {d : Desk} {s : Standing} → At d s → Sole d.memory
bench_at {d} {s} a = record { bench = s.bench; lone = a.lone }

-- and some bytes of a line wait
abbrev pub line_at : {d : Desk} {s : Standing} → At d s → Waiting d.waiting d.run.len
line_at {d} {s} a = record { line = s.wait; waits = a.waits }

-- nothing said
pub leads_none : {d : Desk} {s : Standing} (input : List ℕ) → At d s → Leads s input d input
leads_none {d} {s} input a = record { here = s; at = a; said = silence; says = λ more. sym (joined_none _); stays = λ more. refl }

-- one thing said behind another
unfoldable pub leads_then : {s : Standing} {x y z : List ℕ} {d e : Desk} (l : Leads s x d y) → Leads l.here y e z → Leads s x e z
leads_then l m =
    record {
      here = m.here;
      at = m.at;
      said = joined l.said m.said;
      says = λ more. l.says more ∙ ap (joined l.said) (m.says more) ∙ sym (joined_assoc l.said m.said _);
      stays = λ more. l.stays more ∙ m.stays more;
    }

due_at : {d : Desk} {s : Standing} → At d s → d.run.left ≤ 65535
due_at {d} {s} a = omega (arith, a.leaves, a.due, left_few s.bench.forms s.bench.session (led_sane width a.led).session)

-- what is left to the tablet is what its bench has left
left_due : (memory : Memory) (b : P.Bench) (n : ℕ) → Lone memory b → SetsLeft memory.held 0 n → n ≡ to_take b.session
unfolding reached_counts left_of thirty desk when◌then◌else◌
left_due memory b n l tells = tells.is (reached_counts memory l.reached) ∙ ap (λ (x : P.Bench). to_take x.session) l.is

-- behind a set one less is left to be taken
pub due_less : (b : P.Bench) (s : P.Session) → Led width b → b.session ≡ s → to_take (P.take_set enough b).next.session ≡ to_take s - 1
unfolding to_take P.take_set P.taken P.outcome P.after_set enough
due_less b P.idle led e = rw e
due_less b (P.collecting name ls) led e = rw e
due_less b P.spoiled led e = rw e
due_less b (P.opened ls) led e = rw e
due_less b (P.answering ls answers) led e = rw e
due_less b (P.ready ls answers) led e = rw e
due_less b (P.printing ls answers n c i) led e =
    ap (λ o. to_take o.next.session) (take_gives width enough b ls answers n c i (omega arith) (omega arith) (led_sane width led) e)
    ∙ by_test (λ t. to_take t ≡ n - i - 1) (eqb (suc i) n) _ _ (λ y. omega (arith, eqb-true (suc i) n y)) (λ m. omega arith)

-- the places of a run lie in the input and in the buffers, and the lines to come can be counted
pub record Within (p : Place) (input out err : List ℕ) : Type 0 where
  pub next_inside : p.next ≤ length input
  pub out_inside : p.out ≤ length out
  pub err_inside : p.err ≤ length err
  pub countable : p.desk.run.lines + (length input - p.next) < 2 ^ 64

pub inside_within : (r : Reach) (memory : Memory) (waiting input out err : List ℕ) → Inside r input out err → Within (place_of r memory waiting) input out err
inside_within r memory waiting input out err i =
    record { next_inside = i.next_inside; out_inside = i.out_inside; err_inside = i.err_inside; countable = i.countable }

pub room_within : (r : Reach) (memory : Memory) (waiting input out err : List ℕ) → Room r input out err → Within (place_of r memory waiting) input out err
room_within r memory waiting input out err i =
    record { next_inside = i.next_inside; out_inside = omega (arith, i.out_room); err_inside = omega (arith, i.err_room); countable = i.countable }

module _ {input : List ℕ} {p : Place} {out₀ err₀ : List ℕ} where
  -- a run came further, by what it put
  goes_by : {q : Place} {out err : List ℕ} → Stands p.desk → ((s : Standing) → At p.desk s → Puts s input p out₀ err₀ q out err)
      → q.desk.run.left ≤ 65535 → p.next ≤ q.next → q.next ≤ length input → q.desk.run.lines + (length input - q.next) ≤ p.desk.run.lines + (length input - p.next)
      → Goes input p out₀ err₀ q out err
  goes_by t puts sets onward inside few =
      let l = (puts t.paper t.at).leads in
      record { stands = record { paper = l.here; at = l.at; few = sets }; puts = puts; onward = onward; inside = inside; few = few }

  -- not at all
  goes_none : Stands p.desk → Within p input out₀ err₀ → Goes input p out₀ err₀ p out₀ err₀
  unfolding leads_none
  goes_none t i =
      record {
        stands = t;
        puts = λ s a.
            record { leads = leads_none (from input p.next) a; outs = writes_none out₀ p.out i.out_inside; errs = writes_none err₀ p.err i.err_inside };
        onward = omega arith;
        inside = i.next_inside;
        few = omega arith;
      }

  -- and further still
  goes_then : {q r : Place} {out err new newer : List ℕ} → Goes input p out₀ err₀ q out err → Goes input q out err r new newer → Goes input p out₀ err₀ r new newer
  unfolding joined leads_then
  goes_then c d =
      record {
        stands = d.stands;
        puts = λ s a.
            let x = c.puts s a in
            let y = d.puts x.leads.here x.leads.at in
            record {
              leads = leads_then x.leads y.leads;
              outs = writes_then _ _ _ _ _ _ _ _ x.outs y.outs;
              errs = writes_then _ _ _ _ _ _ _ _ x.errs y.errs;
            };
        onward = omega (arith, c.onward, d.onward);
        inside = d.inside;
        few = omega (arith, c.few, d.few);
      }

  -- the buffers keep their sizes, and the bytes that wait lie in them
  pub goes_inside : {q : Place} {out err : List ℕ} → Stands p.desk → Goes input p out₀ err₀ q out err
      → (q.out ≤ length out₀) × (q.err ≤ length err₀) × (length out ≡ length out₀) × (length err ≡ length err₀)
  goes_inside t c =
      let x = c.puts t.paper t.at in
      (x.outs.room, x.errs.room, writes_length _ _ _ _ _ x.outs, writes_length _ _ _ _ _ x.errs)

-- a step from a place in the input and in the buffers
module _ {input : List ℕ} {p : Place} {out₀ err₀ : List ℕ} (t : Stands p.desk) (i : Within p input out₀ err₀) where
  -- a set is taken
  abbrev taking_on : Memory → ℕ → Place
  taking_on next end =
      record {
        desk = record { memory = next; waiting = p.desk.waiting; run = record { len = p.desk.run.len; lines = p.desk.run.lines; left = p.desk.run.left - 1 } };
        next = p.next;
        out = end;
        err = p.err;
      }

  pub steps_takes : 0 < p.desk.run.left → (next : Memory) (out : List ℕ) (end : ℕ) → TakesAt p.desk.memory out₀ p.out next out end
      → Steps input p out₀ err₀ (taking_on next end) false out err₀
  unfolding weight taken taken_says P.take_set
  steps_takes h next out end takes =
      record {
        goes = goes_by t
            (λ s a. record {
              leads = record {
                here = taken s;
                at = record {
                  lone = takes.leaves s.bench a.lone;
                  led = taking a.led enough;
                  waits = a.waits;
                  clean = a.clean;
                  counts = a.counts;
                  leaves = ap (λ n. n - 1) a.leaves;
                  due = ap (λ n. n - 1) a.due ∙ sym (due_less s.bench s.bench.session a.led refl);
                };
                said = taken_says s;
                says = λ more. emit_takes s (from input p.next ++ more) (omega (arith, a.leaves));
                stays = λ more. after_takes_it s (from input p.next ++ more) (omega (arith, a.leaves));
              };
              outs = takes.outs s.bench a.lone;
              errs = writes_none err₀ p.err i.err_inside;
            })
            (omega (arith, t.few)) (omega arith) i.next_inside (omega arith);
        ends = λ e. absurd (false≢true e);
        moves = λ e. omega arith;
      }

  module _ (none : p.desk.run.left ≡ 0) where
    -- the rest of the input waits for the end of its line
    abbrev waiting_on : List ℕ → ℕ → Place
    waiting_on new n =
        record {
          desk = record { memory = p.desk.memory; waiting = new; run = record { len = n; lines = p.desk.run.lines; left = p.desk.run.left } };
          next = length input;
          out = p.out;
          err = p.err;
        }

    puts_waits : (new : List ℕ) (n : ℕ) → Ending input p.next (length input) → Comes p.desk.waiting p.desk.run.len (from input p.next) new n
        → (s : Standing) → At p.desk s → Puts s input p out₀ err₀ (waiting_on new n) out₀ err₀
    unfolding from waiting
    puts_waits new n ending comes s a =
        let empty : from input (length input) ≡ [] = drop_of_length-le input {i = length input} (omega arith) in
        let w : List ℕ = s.wait ++ kept (from input p.next) in
        let rests : s.left ≡ 0 = sym a.leaves ∙ none in
        let fed : (more : List ℕ) → feed s.wait (from input p.next ++ more) ≡ feed w more =
        λ more. feed_inside s.wait (from input p.next) more (rest_inside input p.next ending) in
        record {
          leads = record {
            here = waiting s w;
            at = record {
              lone = a.lone;
              led = a.led;
              waits = comes.comes s.wait a.waits;
              clean = clean_more s.wait (from input p.next) a.clean;
              counts = a.counts;
              leaves = a.leaves;
              due = a.due;
            };
            said = silence;
            says = λ more. emit_waits s w (from input p.next ++ more) more rests (fed more) ∙ rw (joined_none, empty);
            stays = λ more. after_waits s w (from input p.next ++ more) more rests (fed more) ∙ rw empty;
          };
          outs = writes_none out₀ p.out i.out_inside;
          errs = writes_none err₀ p.err i.err_inside;
        }

    pub steps_waits : (new : List ℕ) (n : ℕ) → Ending input p.next (length input) → Comes p.desk.waiting p.desk.run.len (take (length input - p.next) (drop p.next input)) new n
        → Steps input p out₀ err₀ (waiting_on new n) true out₀ err₀
    unfolding from
    steps_waits new n ending comes =
        record {
          goes = goes_by t (puts_waits new n ending (rw (rest_part input p.next) at comes)) t.few i.next_inside (omega arith) (omega arith);
          ends = λ u. record { whole = refl; none = none };
          moves = λ u. absurd (false≢true (sym u));
        }

    -- the next line is heard
    abbrev hearing_on : ℕ → List ℕ → Memory → ℕ → ℕ → ℕ → Place
    hearing_on end new next out_end err_end left =
        record {
          desk = record { memory = next; waiting = new; run = record { len = 0; lines = p.desk.run.lines + 1; left = left } };
          next = end + 1;
          out = out_end;
          err = err_end;
        }

    module _ (end : ℕ) (before : end < length input) (rest : List ℕ) (new : List ℕ) (n : ℕ)
        (lies : Line input p.next end rest)
        (g : Gathered 257 p.desk.waiting p.desk.run.len rest (eqb p.desk.run.len 0) new n)
        (next : Memory) (out : List ℕ) (out_end : ℕ) (err : List ℕ) (err_end : ℕ)
        (hears : HearsAt p.desk.memory (line_by (eqb p.desk.run.len 0) rest (take n new)) (p.desk.run.lines + 1) out₀ p.out err₀ p.err next out out_end err err_end)
        (left : ℕ) (tells : SetsLeft next.held 0 left) where
      puts_hears : (s : Standing) → At p.desk s → Puts s input p out₀ err₀ (hearing_on end new next out_end err_end left) out err
      unfolding heard heard_says P.hear
      puts_hears s a =
          let said : List ℕ = line_by (eqb p.desk.run.len 0) rest (take n new) in
          let w : List ℕ = s.wait ++ kept rest in
          let same : P.hear width enough s.bench said ≡ P.hear width enough s.bench w = heard_as s.bench s.wait p.desk.waiting p.desk.run.len rest new n a.waits a.clean g in
          let counts : p.desk.run.lines + 1 ≡ s.lines + 1 = ap (λ k. k + 1) a.counts in
          let lone : Lone next (P.hear width enough s.bench w).next = rw same at (hears.leaves s.bench a.lone) in
          let fed : (more : List ℕ) → feed s.wait (from input p.next ++ more) ≡ line w (from input (end + 1) ++ more) =
          λ more. ap (λ x. feed s.wait (x ++ more)) lies.is ∙ ap (feed s.wait) (append_assoc rest (lf ∷ from input (end + 1)) more) ∙ feed_line s.wait rest (from input (end + 1) ++ more) lies.inner in
          record {
            leads = record {
              here = heard s w;
              at = record {
                lone = lone;
                led = hearing a.led enough w;
                waits = record { front = refl; counts = refl; room = g.size ∙ a.waits.room };
                clean = kept_none;
                counts = counts;
                leaves = left_due next _ left lone tells;
                due = refl;
              };
              said = heard_says s w;
              says = λ more. emit_hears s (from input p.next ++ more) w (from input (end + 1) ++ more) (sym a.leaves ∙ none) (fed more);
              stays = λ more. after_hears s (from input p.next ++ more) w (from input (end + 1) ++ more) (sym a.leaves ∙ none) (fed more);
            };
            outs = rw same at (hears.outs s.bench a.lone);
            errs = rw (same, counts) at (hears.errs s.bench a.lone);
          }

      steps_hears : Steps input p out₀ err₀ (hearing_on end new next out_end err_end left) false out err
      unfolding weight
      steps_hears =
          let few : left ≤ 65535 = due_at (puts_hears t.paper t.at).leads.at in
          record {
            goes = goes_by t puts_hears few (omega (arith, lies.before)) (omega (arith, before)) (omega (arith, before, lies.before));
            ends = λ u. absurd (false≢true u);
            moves = λ u. omega (arith, before, lies.before, few);
          }

    -- where it lies
    pub steps_heard : (end : ℕ) → Ending input p.next end → end < length input → (new : List ℕ) (n : ℕ)
        → Gathered 257 p.desk.waiting p.desk.run.len (take (end - p.next) (drop p.next input)) (eqb p.desk.run.len 0) new n
        → (said : List ℕ) → said ≡ line_by (eqb p.desk.run.len 0) (take (end - p.next) (drop p.next input)) (take n new)
        → (next : Memory) (out : List ℕ) (out_end : ℕ) (err : List ℕ) (err_end : ℕ)
        → HearsAt p.desk.memory said (p.desk.run.lines + 1) out₀ p.out err₀ p.err next out out_end err err_end
        → (left : ℕ) → SetsLeft next.held 0 left → Steps input p out₀ err₀ (hearing_on end new next out_end err_end left) false out err
    steps_heard end ending before new n g said is next out out_end err err_end hears left tells =
        steps_hears end before _ new n (part_ends input p.next end ending before) g next out out_end err err_end (rw is at hears) left tells

-- from turn to turn: how far the run came, and that it moved on or is where it began
pub record Filling (input : List ℕ) (p : Place) (out₀ err₀ : List ℕ) (q : Place) (out err : List ℕ) : Type 0 where
  pub first : Stands p.desk
  pub goes : Goes input p out₀ err₀ q out err
  pub within : Within q input out err
  pub out_size : length out ≡ length out₀
  pub err_size : length err ≡ length err₀
  pub less : weight (length input) q ≤ weight (length input) p
  pub still : weight (length input) q ≡ weight (length input) p → (q.out ≡ p.out) × (q.err ≡ p.err)

pub filling_begins : (input : List ℕ) (p : Place) (out err : List ℕ) → Stands p.desk → Within p input out err → Filling input p out err p out err
filling_begins input p out err t i =
    record { first = t; goes = goes_none t i; within = i; out_size = refl; err_size = refl; less = omega arith; still = λ e. (refl, refl) }

module _ {input : List ℕ} {p : Place} {out₀ err₀ : List ℕ} {q : Place} {out err : List ℕ} (t : Filling input p out₀ err₀ q out err) where
  -- a step more
  module _ {r : Place} {used : Bool} {new newer : List ℕ} (s : Steps input q out err r used new newer) where
    pub filling_turns : used ≡ false → Filling input p out₀ err₀ r new newer
    filling_turns e =
        let c = goes_then t.goes s.goes in
        let (a, b, o, x) = goes_inside t.first c in
        let m = s.moves e in
        record {
          first = t.first;
          goes = c;
          within = record { next_inside = c.inside; out_inside = rw o a; err_inside = rw x b; countable = omega (arith, s.goes.few, t.within.countable) };
          out_size = o;
          err_size = x;
          less = omega (arith, t.less);
          still = λ w. absurd (omega (arith, t.less));
        }

    -- which used the input up
    pub fills_used : used ≡ true → Fills input p out₀ err₀ r used new newer
    fills_used e =
        record {
          goes = goes_then t.goes s.goes;
          ends = s.ends;
          full = λ u. absurd (false≢true (sym u ∙ e));
          moves = λ u. absurd (false≢true (sym u ∙ e));
        }

  -- a buffer is full
  pub fills_full : Lacks q out err → Fills input p out₀ err₀ q false out err
  fills_full l = record { goes = t.goes; ends = λ u. absurd (false≢true u); full = λ u. lacks l; moves = λ u x y. moves l x y }
    where
      lacks : Lacks q out err → Lacks q out₀ err₀
      lacks (out_full h) = out_full (omega (arith, t.out_size))
      lacks (err_full h) = err_full (omega (arith, t.err_size))

      moves : Lacks q out err → p.out + 10291 ≤ length out₀ → p.err + 64 ≤ length err₀ → weight (length input) q < weight (length input) p
      moves h x y =
          either (ltb (weight (length input) q) (weight (length input) p))
          (λ e. ltb-true _ _ e)
          (λ e. let same = t.still (omega (arith, t.less, ltb-false (weight (length input) q) (weight (length input) p) e)) in absurd (never h same.0 same.1))
        where
          never : Lacks q out err → q.out ≡ p.out → q.err ≡ p.err → ⊥
          never (out_full k) a b = omega (arith, t.out_size)
          never (err_full k) a b = omega (arith, t.err_size)

-- memory keeps its sizes
pub record Sized (d e : Desk) : Type 0 where
  pub all : length e.memory.all ≡ length d.memory.all
  pub names : length e.memory.names ≡ length d.memory.names
  pub texts : length e.memory.texts ≡ length d.memory.texts
  pub lens : length e.memory.lens ≡ length d.memory.lens
  pub plans : length e.memory.plans ≡ length d.memory.plans
  pub filed : length e.memory.filed ≡ length d.memory.filed
  pub name : length e.memory.name ≡ length d.memory.name
  pub text : length e.memory.text ≡ length d.memory.text
  pub answers : length e.memory.answers ≡ length d.memory.answers
  pub values : length e.memory.values ≡ length d.memory.values
  pub held : length e.memory.held ≡ length d.memory.held
  pub waiting : length e.waiting ≡ length d.waiting

-- how far the run came, in memory of the sizes that it had
pub record Turning (input : List ℕ) (p : Place) (out₀ err₀ : List ℕ) (q : Place) (out err : List ℕ) : Type 0 where
  pub filling : Filling input p out₀ err₀ q out err
  pub sizes : Sized p.desk q.desk

pub turning_begins : (input : List ℕ) (p : Place) (out err : List ℕ) → Stands p.desk → Within p input out err → Turning input p out err p out err
turning_begins input p out err t i =
    record {
      filling = filling_begins input p out err t i;
      sizes = record { all = refl; names = refl; texts = refl; lens = refl; plans = refl; filed = refl; name = refl; text = refl; answers = refl; values = refl; held = refl; waiting = refl };
    }
