-- A piece of input, fill by fill, and the reads one after the other.
use Prim.Native.Nat.{ℕ, ◌+◌, ◌-◌, ◌*◌, ◌^◌, ◌≤◌, ◌<◌}
use mathlib.Core.Path.{◌≡◌, refl, ◌∙◌}
use mathlib.Core.Bool.{Bool, true, false, false≢true}
use mathlib.Core.List.{List}
use native.Mathlib.Omega.{arith}
use lib.ListN.{length, take, length-append, length-take}
use Rattle.paper.specs.Bench.{begin}
use Rattle.paper.specs.Class.{begin_class, desk}
use Rattle.paper.specs.Line.{kept}
use Rattle.paper.specs.State.{begun}
use Rattle.paper.specs.Program.{to_take}
use Rattle.paper.proofs.Alone.{begin_alone}
use Rattle.paper.proofs.Test.{either}
use Rattle.text.specs.Place.{from}
use Rattle.std.proofs.Common.{Option, Some, Result, Ok, Err}
use Rattle.streams.specs.Streams.{bytes_of, Writes}
use Rattle.streams.specs.declared.errors.Errno.{Errno}
use Rattle.call.specs.Call.{Memory}
use Rattle.tablets.specs.Calls.{Reached, Begins}
use Rattle.tablets.proofs.Leading.{begins_on}
use Rattle.reports.specs.Said.{Lone}
use Rattle.flow.specs.declared.fill.Run.{Run}
use Rattle.program.specs.declared.Passed.{Passed}
use Rattle.flow.specs.Emit.{Standing, start, joined}
use Rattle.flow.specs.Fill.{Desk, desk_of, Place, place_in, At, Stands, Inside, Leads, weight, Fills}
use Rattle.program.specs.Pass.{StandsAt, Passes, Obeys, Starting}
use Rattle.flow.proofs.Filling.{leads_none, leads_then, goes_inside}

-- each part of memory has the size that it had
pub record Sized (old new : Memory) : Type 0 where
  pub all : length new.all ≡ length old.all
  pub names : length new.names ≡ length old.names
  pub texts : length new.texts ≡ length old.texts
  pub lens : length new.lens ≡ length old.lens
  pub plans : length new.plans ≡ length old.plans
  pub filed : length new.filed ≡ length old.filed
  pub name : length new.name ≡ length old.name
  pub text : length new.text ≡ length old.text
  pub answers : length new.answers ≡ length old.answers
  pub values : length new.values ≡ length old.values
  pub held : length new.held ≡ length old.held

pub sized_same : (m : Memory) → Sized m m
sized_same m =
    record { all = refl; names = refl; texts = refl; lens = refl; plans = refl; filed = refl; name = refl; text = refl; answers = refl; values = refl; held = refl }

pub sized_then : {a b d : Memory} → Sized a b → Sized b d → Sized a d
sized_then s t =
    record {
      all = t.all ∙ s.all;
      names = t.names ∙ s.names;
      texts = t.texts ∙ s.texts;
      lens = t.lens ∙ s.lens;
      plans = t.plans ∙ s.plans;
      filed = t.filed ∙ s.filed;
      name = t.name ∙ s.name;
      text = t.text ∙ s.text;
      answers = t.answers ∙ s.answers;
      values = t.values ∙ s.values;
      held = t.held ∙ s.held;
    }

-- the run stands where the piece up to a place leads, no more is left to do than was, the buffers have room for what a step can say, and
-- memory and the buffers have the sizes that they had
pub record Passing (d : Desk) (input out₀ err₀ : List ℕ) (e : Desk) (next : ℕ) (out err : List ℕ) : Type 0 where
  pub stands : Stands e
  pub leads : (s : Standing) → At d s → Leads s input e (from input next)
  pub inside : next ≤ length input
  pub few : e.run.lines + (length input - next) ≤ d.run.lines + length input
  pub countable : d.run.lines + length input < 2 ^ 64
  pub less : weight (length input) (place_in e next) ≤ weight (length input) (place_in d 0)
  pub room : (10291 ≤ length out₀) × (64 ≤ length err₀)
  pub sized : Sized d.memory e.memory
  pub wait_size : length e.waiting ≡ length d.waiting
  pub out_size : length out ≡ length out₀
  pub err_size : length err ≡ length err₀

pub passing_begins : (d : Desk) (input out err : List ℕ) → StandsAt d (length input) → (10291 ≤ length out) × (64 ≤ length err) → Passing d input out err d 0 out err
unfolding from
passing_begins d input out err t room =
    record {
      stands = t.stands;
      leads = λ s a. leads_none input a;
      inside = omega arith;
      few = omega arith;
      countable = t.countable;
      less = omega arith;
      room = room;
      sized = sized_same d.memory;
      wait_size = refl;
      out_size = refl;
      err_size = refl;
    }

module _ {d : Desk} {input out₀ err₀ : List ℕ} {e : Desk} {next : ℕ} {out err : List ℕ} (t : Passing d input out₀ err₀ e next out err) where
  pub passing_inside : Inside (record { run = e.run; next = next; out = 0; err = 0 }) input out err
  passing_inside = record { next_inside = t.inside; out_inside = omega arith; err_inside = omega arith; countable = omega (arith, t.few, t.countable) }

  -- they are filled
  module _ (q : Place) (used : Bool) (new newer : List ℕ) (fills : Fills input (place_in e next) out err q used new newer) where
    -- the bytes that wait lie in the buffers
    pub passing_waits : (q.out ≤ length new) × (q.err ≤ length newer)
    passing_waits = let (i, j, o, x) = goes_inside t.stands fills.goes in (omega arith, omega arith)

    -- no more is left to do than was, and less where there are bytes: they are used up, or the run moved on
    passing_less : (weight (length input) (place_in q.desk q.next) ≤ weight (length input) (place_in d 0))
        × (0 < length input → weight (length input) (place_in q.desk q.next) < weight (length input) (place_in d 0))
    unfolding weight
    passing_less =
        either used
        (λ u. let up = fills.ends u in (omega (arith, up.whole, up.none), λ h. omega (arith, up.whole, up.none)))
        (λ u.
        let moves = fills.moves u (omega (arith, t.out_size, t.room.0)) (omega (arith, t.err_size, t.room.1)) in
        (omega (arith, t.less), λ h. omega (arith, t.less)))

    module _ (sizes : Sized e.memory q.desk.memory) (wait : length q.desk.waiting ≡ length e.waiting) where
      pub passing_turns : Passing d input out₀ err₀ q.desk q.next new newer
      passing_turns =
          let (i, j, o, x) = goes_inside t.stands fills.goes in
          record {
            stands = fills.goes.stands;
            leads = λ s a. let l = t.leads s a in leads_then l (fills.goes.puts l.here l.at).leads;
            inside = fills.goes.inside;
            few = omega (arith, fills.goes.few, t.few);
            countable = t.countable;
            less = passing_less.0;
            room = t.room;
            sized = sized_then t.sized sizes;
            wait_size = wait ∙ t.wait_size;
            out_size = o ∙ t.out_size;
            err_size = x ∙ t.err_size;
          }

      -- what was put for standard output was said
      speaks : 0 < q.out → (s : Standing) (a : At d s) → 0 < length (passing_turns.leads s a).said.out
      unfolding passing_turns leads_then joined
      speaks h s a =
          let l = t.leads s a in
          let x = fills.goes.puts l.here l.at in
          omega (arith, x.outs.ends, length-append l.said.out x.leads.said.out)

      -- standard output did not take it, or the input is used up
      pub passes_ends : (going : Bool) → (going ≡ false → 0 < length (take q.out new)) → (going ≡ true → used ≡ true) → Passes d input q.desk q.next going
      passes_ends going lost whole =
          let p = passing_turns in
          record {
            stands = p.stands;
            leads = p.leads;
            few = omega (arith, p.few);
            ends = λ g. fills.ends (whole g);
            moves = passing_less.1;
            speaks = λ g some. speaks (omega (arith, lost g, length-take q.out new));
          }

-- a write of no bytes does not fail
pub failed_some : (n : ℕ) (written : Result Unit Errno) (error : Errno) → written ≡ Err error → Writes n written → 0 < n
failed_some n written error e h = let some : Writes n (Err error) = rw e at h in some.0

-- a run that ends
abbrev last : Run → Passed
last run = record { run = run; next = 0; going = false }

module _ (run : Run) (memory : Memory) (waiting : List ℕ) (read : Result (Option ℕ) Errno) (input : List ℕ) where
  -- a read brought nothing
  obeys_none : bytes_of read ≡ 0 → Stands (desk_of run memory waiting) → Obeys (desk_of run memory waiting) read input (desk_of run memory waiting) 0 false
  unfolding from
  obeys_none e t =
      record {
        passes = rw e
            (record {
              stands = t;
              leads = λ s a. leads_none _ a;
              few = omega arith;
              ends = λ g. absurd (false≢true g);
              moves = λ h. absurd (omega arith);
              speaks = λ g h. absurd (omega arith);
            });
        stops = λ z. refl;
      }

  pub obeys_nothing : (r : Passed) → bytes_of read ≡ 0 → Stands (desk_of run memory waiting) → r ≡ last run → Obeys (desk_of run memory waiting) read input (desk_of r.run memory waiting) r.next r.going
  obeys_nothing r e t is = rw is (obeys_none e t)

-- or it brought some bytes
pub obeys_bytes : (d : Desk) (read : Result (Option ℕ) Errno) (input : List ℕ) (n : ℕ) (e : Desk) (next : ℕ) (going : Bool) → read ≡ Ok (Some n) → (n ≡ 0 → ⊥) → Passes d (take n input) e next going
    → Obeys d read input e next going
obeys_bytes d read input n e next going is some p =
    record { passes = rw is p; stops = λ z. absurd (some (rw is at z)) }

-- they can be counted
pub bytes_counted : (d : Desk) (input : List ℕ) (n : ℕ) → StandsAt d (length input) → StandsAt d (length (take n input))
bytes_counted d input n t = record { stands = t.stands; countable = omega (arith, t.countable, length-take n input) }

-- a run with nothing that waits
abbrev begins_run : Run
begins_run = record { len = 0; lines = 0; left = 0 }

-- tablet 0 has a bench that has just begun to itself
begins_lone : (m : Memory) → Begins m → Lone m begin
unfolding begins_on begin_class desk begin
begins_lone m b = record { reached = begins_on m b; alone = begin_alone 0 (omega arith); is = refl }

-- with it a run stands at the start
pub begins_at : (m : Memory) (wait : List ℕ) → Begins m → length wait ≡ 257 → At (desk_of begins_run m wait) start
unfolding begin kept to_take
begins_at m wait b e =
    record {
      lone = begins_lone m b;
      led = begun;
      waits = record { front = refl; counts = refl; room = e };
      clean = refl;
      counts = refl;
      leaves = refl;
      due = refl;
    }

-- memory of a run that stands somewhere is memory that calls lead to
pub stands_reached : {d : Desk} → Stands d → Reached d.memory
stands_reached t = t.at.lone.reached

-- the run stands where calls and input lead to, no more lines have come than so many reads can bring, and memory and the buffers have
-- the sizes that they had
pub record Reading (m : Memory) (input₀ out₀ err₀ : List ℕ) (d : Desk) (input out err : List ℕ) (turns : ℕ) : Type 0 where
  pub stands : Stands d
  pub few : d.run.lines ≤ turns * 65536
  pub starts : Starting m input₀ out₀ err₀
  pub sized : Sized m d.memory
  pub input_size : length input ≡ length input₀
  pub out_size : length out ≡ length out₀
  pub err_size : length err ≡ length err₀

pub reading_begins : (d : Desk) (input out err : List ℕ) → Starting d.memory input out err → At d start → Reading d.memory input out err d input out err 0
reading_begins d input out err t a =
    record {
      stands = record { paper = start; at = a; few = omega (arith, a.leaves) };
      few = omega (arith, a.counts);
      starts = t;
      sized = sized_same d.memory;
      input_size = refl;
      out_size = refl;
      err_size = refl;
    }

module _ {m : Memory} {input₀ out₀ err₀ : List ℕ} {d : Desk} {input out err : List ℕ} {turns : ℕ} (t : Reading m input₀ out₀ err₀ d input out err turns) (h : turns < 140737488355328) where
  -- a read can be obeyed
  pub reading_stands : (new : List ℕ) → length new ≡ length input → StandsAt d (length new)
  reading_stands new e = record { stands = t.stands; countable = omega (arith, t.few, t.input_size, t.starts.few) }

  pub reading_room : (10291 ≤ length out) × (64 ≤ length err)
  reading_room = (omega (arith, t.out_size, t.starts.out_room), omega (arith, t.err_size, t.starts.err_room))

  -- a read more
  pub reading_turns : (e : Desk) (new new_out new_err : List ℕ) (read : Result (Option ℕ) Errno) (next : ℕ) (going : Bool) → Obeys d read new e next going → Sized d.memory e.memory
      → length new ≡ length input → length new_out ≡ length out → length new_err ≡ length err → Reading m input₀ out₀ err₀ e new new_out new_err (turns + 1)
  reading_turns e new new_out new_err read next going o sizes i j k =
      record {
        stands = o.passes.stands;
        few = omega (arith, t.few, t.starts.few, o.passes.few, t.input_size, length-take (bytes_of read) new);
        starts = t.starts;
        sized = sized_then t.sized sizes;
        input_size = i ∙ t.input_size;
        out_size = j ∙ t.out_size;
        err_size = k ∙ t.err_size;
      }
