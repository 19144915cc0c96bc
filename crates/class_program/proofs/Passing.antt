-- A piece of input, fill by fill, and the reads one after the other.
use Prim.Native.Nat.{ℕ, ◌≤◌, ◌<◌}
use mathlib.Core.Path.{◌≡◌, refl, ◌∙◌}
use mathlib.Core.Bool.{Bool, true, false, false≢true}
use mathlib.Core.List.{List}
use native.Mathlib.Omega.{arith}
use lib.ListN.{length, take, length-append, length-take}
use Rattle.paper.specs.Line.{kept}
use Rattle.paper.proofs.Test.{either}
use Rattle.text.specs.Place.{from}
use Rattle.std.proofs.Common.{Option, Some, Result, Ok, Err}
use Rattle.streams.specs.Streams.{bytes_of, Writes}
use Rattle.streams.specs.declared.errors.Errno.{Errno}
use Rattle.call.specs.Call.{Memory}
use Rattle.tablets.specs.Calls.{Reached, Begins}
use Rattle.tablets.proofs.Leading.{begins_on}
use Rattle.dialogue.specs.Emit.{Standing, start}
use Rattle.dialogue.specs.Fill.{Desk, desk_of, Place, At, Stands, Inside, Leads, Fills}
use Rattle.dialogue.proofs.Filling.{leads_none, leads_then, goes_inside, Sized, sized_same, sized_then}
use Rattle.class_program.specs.Pass.{Roomy, Passes, Obeys, Starting}
use Rattle.class_program.specs.declared.Passed.{Passed}

-- a run at a place in the input, with no byte in the buffer
abbrev pub place_in : Desk → ℕ → Place
place_in d next = record { desk = d; next = next; out = 0 }

-- the run stands where the piece up to a place leads, the buffers have room, and memory and the buffers have the sizes that they had
pub record Passing (d : Desk) (input reply₀ out₀ : List ℕ) (e : Desk) (next : ℕ) (reply out : List ℕ) : Type 0 where
  pub stands : Stands e
  pub leads : (s : Standing) → At d s → Leads s input e (from input next)
  pub inside : next ≤ length input
  pub roomy : Roomy reply₀ out₀
  pub sized : Sized d e
  pub reply_size : length reply ≡ length reply₀
  pub out_size : length out ≡ length out₀

pub passing_begins : (d : Desk) (input reply out : List ℕ) → Stands d → Roomy reply out → Passing d input reply out d 0 reply out
unfolding from
passing_begins d input reply out t room =
    record { stands = t; leads = λ s a. leads_none input a; inside = omega arith; roomy = room; sized = sized_same d; reply_size = refl; out_size = refl }

module _ {d : Desk} {input reply₀ out₀ : List ℕ} {e : Desk} {next : ℕ} {reply out : List ℕ} (t : Passing d input reply₀ out₀ e next reply out) where
  pub passing_inside : Inside (record { len = e.len; next = next; out = 0 }) input reply out
  passing_inside = record { next_inside = t.inside; out_inside = omega arith; reply_room = omega (arith, t.reply_size, t.roomy.reply_room) }

  -- the buffer is filled
  module _ (q : Place) (used : Bool) (new : List ℕ) (fills : Fills input (place_in e next) out q used new) where
    -- the bytes that wait lie in it
    pub passing_waits : q.out ≤ length new
    passing_waits = let (i, o) = goes_inside t.stands fills.goes in omega arith

    -- where it was filled before the input was used up, the run moved on
    pub passing_less : used ≡ false → next < q.next
    passing_less u = fills.moves u (omega (arith, t.out_size, t.roomy.out_room))

    passing_moves : 0 < length input → 0 < q.next
    passing_moves h = either used (λ u. omega (arith, fills.ends u)) (λ u. omega (arith, passing_less u))

    module _ (newReply : List ℕ) (sizes : Sized e q.desk) (same : length newReply ≡ length reply) where
      pub passing_turns : Passing d input reply₀ out₀ q.desk q.next newReply new
      passing_turns =
          let (i, o) = goes_inside t.stands fills.goes in
          record {
            stands = fills.goes.stands;
            leads = λ s a. let l = t.leads s a in leads_then l (fills.goes.puts l.here l.at).leads;
            inside = fills.goes.inside;
            roomy = t.roomy;
            sized = sized_then t.sized sizes;
            reply_size = same ∙ t.reply_size;
            out_size = o ∙ t.out_size;
          }

      -- what was put was said
      speaks : 0 < q.out → (s : Standing) (a : At d s) → 0 < length (passing_turns.leads s a).said
      unfolding passing_turns leads_then
      speaks h s a =
          let l = t.leads s a in
          let x = fills.goes.puts l.here l.at in
          omega (arith, x.outs.ends, length-append l.said x.leads.said)

      -- standard output did not take it, or the input is used up
      pub passes_ends : (going : Bool) → (going ≡ false → 0 < length (take q.out new)) → (going ≡ true → used ≡ true) → Passes d input q.desk q.next going
      passes_ends going lost whole =
          let p = passing_turns in
          record {
            stands = p.stands;
            leads = p.leads;
            ends = λ g. fills.ends (whole g);
            moves = passing_moves;
            speaks = λ g some. speaks (omega (arith, lost g, length-take q.out new));
          }

-- a write of no bytes does not fail
pub failed_some : (n : ℕ) (written : Result Unit Errno) (error : Errno) → written ≡ Err error → Writes n written → 0 < n
failed_some n written error e h = let some : Writes n (Err error) = rw e at h in some.0

-- a run that ends
abbrev last : ℕ → Passed
last len = record { len = len; next = 0; going = false }

module _ (len : ℕ) (memory : Memory) (waiting : List ℕ) (read : Result (Option ℕ) Errno) (input : List ℕ) where
  -- a read brought nothing
  obeys_none : bytes_of read ≡ 0 → Stands (desk_of len memory waiting) → Obeys (desk_of len memory waiting) read input (desk_of len memory waiting) 0 false
  unfolding from
  obeys_none e t =
      record {
        passes = rw e
            (record { stands = t; leads = λ s a. leads_none _ a; ends = λ g. absurd (false≢true g); moves = λ h. absurd (omega arith); speaks = λ g h. absurd (omega arith) });
        stops = λ z. refl;
      }

  pub obeys_nothing : (r : Passed) → bytes_of read ≡ 0 → Stands (desk_of len memory waiting) → r ≡ last len → Obeys (desk_of len memory waiting) read input (desk_of r.len memory waiting) r.next r.going
  obeys_nothing r e t is = rw is (obeys_none e t)

-- or it brought some bytes
pub obeys_bytes : (d : Desk) (read : Result (Option ℕ) Errno) (input : List ℕ) (n : ℕ) (e : Desk) (next : ℕ) (going : Bool) → read ≡ Ok (Some n) → (n ≡ 0 → ⊥) → Passes d (take n input) e next going
    → Obeys d read input e next going
obeys_bytes d read input n e next going is some p =
    record { passes = rw is p; stops = λ z. absurd (some (rw is at z)) }

-- a run with nothing that waits stands at the start with a class that has just begun
pub begins_at : (m : Memory) (wait : List ℕ) → Begins m → length wait ≡ 263 → At (desk_of 0 m wait) start
unfolding kept begins_on
begins_at m wait b e =
    record { holds = record { reached = begins_on m b; is = refl }; waits = record { front = refl; counts = refl; room = e }; clean = refl }

-- memory of a run that stands somewhere is memory that calls lead to
pub stands_reached : {d : Desk} → Stands d → Reached d.memory
stands_reached t = t.at.holds.reached

-- the run stands where calls and input lead to, and memory and the buffers have the sizes that they had
pub record Reading (d₀ : Desk) (input₀ reply₀ out₀ : List ℕ) (d : Desk) (input reply out : List ℕ) : Type 0 where
  pub stands : Stands d
  pub roomy : Roomy reply₀ out₀
  pub sized : Sized d₀ d
  pub input_size : length input ≡ length input₀
  pub reply_size : length reply ≡ length reply₀
  pub out_size : length out ≡ length out₀

pub reading_begins : (d : Desk) (input reply out : List ℕ) → Starting d.memory input reply out → At d start → Reading d input reply out d input reply out
reading_begins d input reply out t a =
    record {
      stands = record { paper = start; at = a };
      roomy = t.roomy;
      sized = sized_same d;
      input_size = refl;
      reply_size = refl;
      out_size = refl;
    }

module _ {d₀ : Desk} {input₀ reply₀ out₀ : List ℕ} {d : Desk} {input reply out : List ℕ} (t : Reading d₀ input₀ reply₀ out₀ d input reply out) where
  -- a read can be obeyed
  pub reading_roomy : Roomy reply out
  reading_roomy = record { reply_room = omega (arith, t.reply_size, t.roomy.reply_room); out_room = omega (arith, t.out_size, t.roomy.out_room) }

  -- a read more
  pub reading_turns : (e : Desk) (new newReply new_out : List ℕ) (read : Result (Option ℕ) Errno) (next : ℕ) (going : Bool) → Obeys d read new e next going → Sized d e
      → length new ≡ length input → length newReply ≡ length reply → length new_out ≡ length out → Reading d₀ input₀ reply₀ out₀ e new newReply new_out
  reading_turns e new newReply new_out read next going o sizes i j k =
      record {
        stands = o.passes.stands;
        roomy = t.roomy;
        sized = sized_then t.sized sizes;
        input_size = i ∙ t.input_size;
        reply_size = j ∙ t.reply_size;
        out_size = k ∙ t.out_size;
      }
