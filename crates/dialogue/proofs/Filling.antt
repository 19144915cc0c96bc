-- Filling the buffer: each step says what is next to be said, and steps add up.
use Prim.Native.Nat.{ℕ, ◌+◌, ◌-◌, ◌≤◌, ◌<◌}
use mathlib.Core.Path.{◌≡◌, refl, sym, ◌∙◌, ap}
use mathlib.Core.Bool.{Bool, true, false, false≢true}
use mathlib.Core.List.{List, [], ◌∷◌, ◌++◌, append_assoc}
use native.Mathlib.Omega.{arith}
use lib.ListN.{length, take, drop, drop_of_length-le}
use lib.Dec.{ltb}
use borrow.Author.Tests.{ltb-true, ltb-false}
use Rattle.paper.specs.Byte.{every}
use Rattle.paper.specs.Command.{is_shown}
use Rattle.paper.specs.Line.{lf, kept}
use Rattle.paper.proofs.Test.{either}
use Rattle.text.specs.Place.{from}
use Rattle.text.proofs.Written.{writes_none, writes_then, writes_length}
use Rattle.call.specs.Call.{Memory}
use Rattle.tablets.specs.Calls.{Reached}
use Rattle.flow.specs.Feed.{feed, line}
use Rattle.flow.specs.Fill.{Ending, Clear}
use Rattle.flow.proofs.Cutting.{Line, part_ends, kept_none, rest_inside, rest_part, feed_inside, feed_line}
use Rattle.flow.proofs.Gathering.{clean_more}
use Rattle.dialogue.specs.Emit.{Standing, line_reply, answered, answered_says, waiting}
use Rattle.dialogue.specs.Tell.{Tells}
use Rattle.wait.specs.Waiting.{Gathered, line_by}
use Rattle.dialogue.specs.Waiting.{Waiting, Comes}
use Rattle.dialogue.specs.Fill.{Desk, Place, place_of, At, Stands, Inside, Room, Leads, Puts, Goes, Steps, Fills}
use Rattle.dialogue.specs.declared.fill.Reach.{Reach}
use Rattle.dialogue.proofs.Gathering.{line_leads}
use Rattle.dialogue.proofs.Emitting.{emit_answers, emit_waits, after_answers, after_waits}

-- some bytes of a line wait
abbrev pub line_at : {d : Desk} {s : Standing} → At d s → Waiting d.waiting d.len
line_at {d} {s} a = record { line = s.wait; waits = a.waits }

-- nothing said
pub leads_none : {d : Desk} {s : Standing} (input : List ℕ) → At d s → Leads s input d input
leads_none {d} {s} input a = record { here = s; at = a; said = []; says = λ more. refl; stays = λ more. refl }

-- one thing said behind another
unfoldable pub leads_then : {s : Standing} {x y z : List ℕ} {d e : Desk} (l : Leads s x d y) → Leads l.here y e z → Leads s x e z
leads_then l m =
    record {
      here = m.here;
      at = m.at;
      said = l.said ++ m.said;
      says = λ more. l.says more ∙ ap (λ x. l.said ++ x) (m.says more) ∙ sym (append_assoc l.said m.said _);
      stays = λ more. l.stays more ∙ m.stays more;
    }

-- the places of a run lie in the input and in the buffer
pub record Within (p : Place) (input out : List ℕ) : Type 0 where
  pub next_inside : p.next ≤ length input
  pub out_inside : p.out ≤ length out

pub inside_within : (r : Reach) (memory : Memory) (waiting input reply out : List ℕ) → Inside r input reply out → Within (place_of r memory waiting) input out
inside_within r memory waiting input reply out i = record { next_inside = i.next_inside; out_inside = i.out_inside }

pub room_within : (r : Reach) (memory : Memory) (waiting input reply out : List ℕ) → Room r input reply out → Within (place_of r memory waiting) input out
room_within r memory waiting input reply out i = record { next_inside = i.next_inside; out_inside = omega (arith, i.out_room) }

module _ {input : List ℕ} {p : Place} {out₀ : List ℕ} where
  -- a run came further, by what it put
  goes_by : {q : Place} {out : List ℕ} → Stands p.desk → ((s : Standing) → At p.desk s → Puts s input p out₀ q out) → p.next ≤ q.next → q.next ≤ length input → Goes input p out₀ q out
  goes_by t puts onward inside =
      let l = (puts t.paper t.at).leads in
      record { stands = record { paper = l.here; at = l.at }; puts = puts; onward = onward; inside = inside }

  -- not at all
  goes_none : Stands p.desk → Within p input out₀ → Goes input p out₀ p out₀
  unfolding leads_none
  goes_none t i =
      record {
        stands = t;
        puts = λ s a. record { leads = leads_none (from input p.next) a; outs = writes_none out₀ p.out i.out_inside };
        onward = omega arith;
        inside = i.next_inside;
      }

  -- and further still
  goes_then : {q r : Place} {out new : List ℕ} → Goes input p out₀ q out → Goes input q out r new → Goes input p out₀ r new
  unfolding leads_then
  goes_then c d =
      record {
        stands = d.stands;
        puts = λ s a.
            let x = c.puts s a in
            let y = d.puts x.leads.here x.leads.at in
            record { leads = leads_then x.leads y.leads; outs = writes_then _ _ _ _ _ _ _ _ x.outs y.outs };
        onward = omega (arith, c.onward, d.onward);
        inside = d.inside;
      }

  -- the buffer keeps its size, and the bytes that wait lie in it
  pub goes_inside : {q : Place} {out : List ℕ} → Stands p.desk → Goes input p out₀ q out → (q.out ≤ length out₀) × (length out ≡ length out₀)
  goes_inside t c = let x = c.puts t.paper t.at in (x.outs.room, writes_length _ _ _ _ _ x.outs)

-- a step from a place in the input and in the buffer
module _ {input : List ℕ} {p : Place} {out₀ : List ℕ} (t : Stands p.desk) (i : Within p input out₀) where
  -- the rest of the input waits for the end of its line
  abbrev waiting_on : List ℕ → ℕ → Place
  waiting_on new n = record { desk = record { memory = p.desk.memory; waiting = new; len = n }; next = length input; out = p.out }

  puts_waits : (new : List ℕ) (n : ℕ) → Ending input p.next (length input) → Comes p.desk.waiting p.desk.len (from input p.next) new n
      → (s : Standing) → At p.desk s → Puts s input p out₀ (waiting_on new n) out₀
  unfolding from waiting
  puts_waits new n ending comes s a =
      let empty : from input (length input) ≡ [] = drop_of_length-le input {i = length input} (omega arith) in
      let w : List ℕ = s.wait ++ kept (from input p.next) in
      let fed : (more : List ℕ) → feed s.wait (from input p.next ++ more) ≡ feed w more =
      λ more. feed_inside s.wait (from input p.next) more (rest_inside input p.next ending) in
      record {
        leads = record {
          here = waiting s w;
          at = record { holds = a.holds; waits = comes.comes s.wait a.waits; clean = clean_more s.wait (from input p.next) a.clean };
          said = [];
          says = λ more. emit_waits s w (from input p.next ++ more) more (fed more) ∙ rw empty;
          stays = λ more. after_waits s w (from input p.next ++ more) more (fed more) ∙ rw empty;
        };
        outs = writes_none out₀ p.out i.out_inside;
      }

  pub steps_waits : (new : List ℕ) (n : ℕ) → Ending input p.next (length input) → Comes p.desk.waiting p.desk.len (take (length input - p.next) (drop p.next input)) new n
      → Steps input p out₀ (waiting_on new n) true out₀
  unfolding from
  steps_waits new n ending comes =
      record {
        goes = goes_by t (puts_waits new n ending (rw (rest_part input p.next) at comes)) i.next_inside (omega arith);
        ends = λ u. refl;
        moves = λ u. absurd (false≢true (sym u));
      }

  -- the next line is answered
  abbrev answering_on : ℕ → List ℕ → Memory → ℕ → Place
  answering_on end new next out_end = record { desk = record { memory = next; waiting = new; len = 0 }; next = end + 1; out = out_end }

  module _ (end : ℕ) (before : end < length input) (rest : List ℕ) (shown : Bool) (new : List ℕ) (n : ℕ)
      (lies : Line input p.next end rest)
      (clear : shown ≡ true → (p.desk.len ≡ 0) × (every is_shown rest ≡ true))
      (g : Gathered 263 p.desk.waiting p.desk.len rest shown new n)
      (next : Memory) (out : List ℕ) (out_end : ℕ)
      (tells : Tells p.desk.memory (λ c. line_reply c (line_by shown rest (take n new))) out₀ p.out next out out_end) where
    puts_answers : (s : Standing) → At p.desk s → Puts s input p out₀ (answering_on end new next out_end) out
    unfolding answered answered_says
    puts_answers s a =
        let w : List ℕ = s.wait ++ kept rest in
        let k : Reached p.desk.memory = a.holds.reached in
        let same : line_reply k.class (line_by shown rest (take n new)) ≡ line_reply s.class w =
        line_leads k.class s.wait p.desk.waiting p.desk.len rest shown new n a.waits a.clean clear g ∙ ap (λ c. line_reply c w) a.holds.is in
        let fed : (more : List ℕ) → feed s.wait (from input p.next ++ more) ≡ line w (from input (end + 1) ++ more) =
        λ more. ap (λ x. feed s.wait (x ++ more)) lies.is ∙ ap (feed s.wait) (append_assoc rest (lf ∷ from input (end + 1)) more) ∙ feed_line s.wait rest (from input (end + 1) ++ more) lies.inner in
        record {
          leads = record {
            here = answered s w;
            at = record {
              holds = rw same at (tells.leaves k);
              waits = record { front = refl; counts = refl; room = g.size ∙ a.waits.room };
              clean = kept_none;
            };
            said = answered_says s w;
            says = λ more. emit_answers s (from input p.next ++ more) w (from input (end + 1) ++ more) (fed more);
            stays = λ more. after_answers s (from input p.next ++ more) w (from input (end + 1) ++ more) (fed more);
          };
          outs = rw same at (tells.puts k);
        }

    steps_answers : Steps input p out₀ (answering_on end new next out_end) false out
    steps_answers =
        record {
          goes = goes_by t puts_answers (omega (arith, lies.before)) (omega (arith, before));
          ends = λ u. absurd (false≢true u);
          moves = λ u. omega (arith, lies.before);
        }

  -- where it lies
  pub steps_answered : (end : ℕ) → Ending input p.next end → end < length input → (shown : Bool) → Clear input p.next p.desk.len end shown → (new : List ℕ) (n : ℕ)
      → Gathered 263 p.desk.waiting p.desk.len (take (end - p.next) (drop p.next input)) shown new n
      → (said : List ℕ) → said ≡ line_by shown (take (end - p.next) (drop p.next input)) (take n new)
      → (next : Memory) (out : List ℕ) (out_end : ℕ) → Tells p.desk.memory (λ c. line_reply c said) out₀ p.out next out out_end
      → Steps input p out₀ (answering_on end new next out_end) false out
  steps_answered end ending before shown clear new n g said is next out out_end tells =
      steps_answers end before _ shown new n (part_ends input p.next end ending before) clear g next out out_end (rw is at tells)

-- from turn to turn: how far the run came, and that it moved on or is where it began
pub record Filling (input : List ℕ) (p : Place) (out₀ : List ℕ) (q : Place) (out : List ℕ) : Type 0 where
  pub first : Stands p.desk
  pub goes : Goes input p out₀ q out
  pub within : Within q input out
  pub out_size : length out ≡ length out₀
  pub still : q.next ≡ p.next → q.out ≡ p.out

pub filling_begins : (input : List ℕ) (p : Place) (out : List ℕ) → Stands p.desk → Within p input out → Filling input p out p out
filling_begins input p out t i = record { first = t; goes = goes_none t i; within = i; out_size = refl; still = λ e. refl }

module _ {input : List ℕ} {p : Place} {out₀ : List ℕ} {q : Place} {out : List ℕ} (t : Filling input p out₀ q out) where
  -- a step more
  module _ {r : Place} {used : Bool} {new : List ℕ} (s : Steps input q out r used new) where
    pub filling_turns : used ≡ false → Filling input p out₀ r new
    filling_turns e =
        let c = goes_then t.goes s.goes in
        let (a, o) = goes_inside t.first c in
        let m = s.moves e in
        record {
          first = t.first;
          goes = c;
          within = record { next_inside = c.inside; out_inside = rw o a };
          out_size = o;
          still = λ w. absurd (omega (arith, t.goes.onward));
        }

    -- which used the input up
    pub fills_used : used ≡ true → Fills input p out₀ r used new
    fills_used e =
        record { goes = goes_then t.goes s.goes; ends = s.ends; full = λ u. absurd (false≢true (sym u ∙ e)); moves = λ u. absurd (false≢true (sym u ∙ e)) }

  -- the buffer is full
  pub fills_full : length out < q.out + 10357 → Fills input p out₀ q false out
  fills_full h =
      record {
        goes = t.goes;
        ends = λ u. absurd (false≢true u);
        full = λ u. omega (arith, t.out_size);
        moves = λ u x.
            either (ltb p.next q.next)
            (λ e. ltb-true _ _ e)
            (λ e. absurd (omega (arith, t.out_size, t.still (omega (arith, t.goes.onward, ltb-false p.next q.next e)))));
      }

-- memory keeps its sizes
pub record Sized (d e : Desk) : Type 0 where
  pub all : length e.memory.all ≡ length d.memory.all
  pub names : length e.memory.names ≡ length d.memory.names
  pub texts : length e.memory.texts ≡ length d.memory.texts
  pub lens : length e.memory.lens ≡ length d.memory.lens
  pub plans : length e.memory.plans ≡ length d.memory.plans
  pub filed : length e.memory.filed ≡ length d.memory.filed
  pub name : length e.memory.name ≡ length d.memory.name
  pub text : length e.memory.text ≡ length d.memory.text
  pub answers : length e.memory.answers ≡ length d.memory.answers
  pub values : length e.memory.values ≡ length d.memory.values
  pub held : length e.memory.held ≡ length d.memory.held
  pub waiting : length e.waiting ≡ length d.waiting

unfoldable pub sized_same : (d : Desk) → Sized d d
sized_same d =
    record { all = refl; names = refl; texts = refl; lens = refl; plans = refl; filed = refl; name = refl; text = refl; answers = refl; values = refl; held = refl; waiting = refl }

pub sized_then : {a b d : Desk} → Sized a b → Sized b d → Sized a d
sized_then s t =
    record {
      all = t.all ∙ s.all;
      names = t.names ∙ s.names;
      texts = t.texts ∙ s.texts;
      lens = t.lens ∙ s.lens;
      plans = t.plans ∙ s.plans;
      filed = t.filed ∙ s.filed;
      name = t.name ∙ s.name;
      text = t.text ∙ s.text;
      answers = t.answers ∙ s.answers;
      values = t.values ∙ s.values;
      held = t.held ∙ s.held;
      waiting = t.waiting ∙ s.waiting;
    }

-- how far the run came, in memory and with a buffer of the sizes that they had
pub record Turning (input : List ℕ) (p : Place) (reply₀ out₀ : List ℕ) (q : Place) (reply out : List ℕ) : Type 0 where
  pub filling : Filling input p out₀ q out
  pub sizes : Sized p.desk q.desk
  pub reply_size : length reply ≡ length reply₀
  pub reply_room : 99999 ≤ length reply₀

pub turning_begins : (input : List ℕ) (p : Place) (reply out : List ℕ) → Stands p.desk → Within p input out → 99999 ≤ length reply → Turning input p reply out p reply out
turning_begins input p reply out t i room = record { filling = filling_begins input p out t i; sizes = sized_same p.desk; reply_size = refl; reply_room = room }

module _ {input : List ℕ} {p : Place} {reply₀ out₀ : List ℕ} {q : Place} {reply out : List ℕ} (t : Turning input p reply₀ out₀ q reply out) where
  -- there is room for a record
  pub turning_room : 10357 ≤ length out - q.out → (q.next ≤ length input) × (q.out + 10357 ≤ length out) × (99999 ≤ length reply)
  turning_room h =
      (t.filling.within.next_inside, omega (arith, t.filling.within.out_inside), omega (arith, t.reply_size, t.reply_room))

  -- a step more
  pub turning_turns : {r : Place} {used : Bool} {newReply new : List ℕ} → Steps input q out r used new → used ≡ false → Sized q.desk r.desk → length newReply ≡ length reply
      → Turning input p reply₀ out₀ r newReply new
  turning_turns s e sizes same =
      record { filling = filling_turns t.filling s e; sizes = sized_then t.sizes sizes; reply_size = same ∙ t.reply_size; reply_room = t.reply_room }
