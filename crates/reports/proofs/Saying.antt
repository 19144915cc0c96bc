-- A call of the bench: its bytes stand behind those that wait.
use Prim.Native.Nat.{ℕ, ◌+◌, ◌-◌, ◌≤◌}
use mathlib.Core.Path.{◌≡◌, refl, sym, ◌∙◌, ap}
use mathlib.Core.List.{List, ◌++◌, append_assoc}
use native.Mathlib.Omega.{arith}
use lib.ListN.{length, take, drop, length-append, length-take, length-drop, take-append-drop}
use lib.Seq.{drop-append-le, drop-drop}
use Rattle.std.specs.Prelude.{Result, Ok, Err}
use Rattle.std.specs.Result.{result_unwrap_or}
use Rattle.paper.specs.Refusal as R
use Rattle.paper.specs.Bench.{Bench, hear, take_set}
use Rattle.paper.specs.Calls.{line, taking, called}
use Rattle.paper.specs.Class.{hear_from, take_next, reply_to}
use Rattle.paper.specs.Diary.{request_of}
use Rattle.paper.specs.Program.{enough, out_of, err_of}
use Rattle.paper.proofs.Alone.{AtDesk, call_at_desk}
use Rattle.command.specs.View.{width}
use Rattle.command.specs.Answer.{Reports, Meets}
use Rattle.command.specs.declared.Refusal.{Refusal}
use Rattle.text.specs.Write.{written, Writes}
use Rattle.call.specs.Call.{Memory}
use Rattle.tablets.specs.Calls.{packed_class, HearsLine, TakesSet}
use Rattle.tablets.proofs.Leading.{hears_on, takes_on}
use Rattle.reports.specs.Said.{Lone, Sole, HearsAt, TakesAt}

-- the bytes of an answer: those that an accepted one counts, and of a refusal none
pub bytes_told : (answer : Result ℕ Refusal) (n : ℕ) → n ≡ result_unwrap_or answer 0 → (p : R.Answer) → Reports answer p → n ≡ length (out_of p)
unfolding Reports out_of
bytes_told (Ok len) n e (R.accepted bytes) m = e ∙ m
bytes_told (Ok len) n e (R.refused r) m = absurd m
bytes_told (Err why) n e (R.accepted bytes) m = absurd m
bytes_told (Err why) n e (R.refused r) m = e

-- a lent buffer after a call: its bytes stand at the front
lent_out : (old : List ℕ) (p : R.Answer) → R.lent old p ≡ out_of p ++ drop (length (out_of p)) old
unfolding R.lent out_of
lent_out old (R.accepted bytes) = refl
lent_out old (R.refused r) = refl

-- the bytes of a part behind its front, and those behind the part
part_behind : (m k : ℕ) (xs : List ℕ) → m ≤ k → k ≤ length xs → drop m (take k xs) ++ drop k xs ≡ drop m xs
part_behind m k xs h l =
    sym (drop-append-le m (take k xs) (drop k xs) (rw length-take (omega arith))) ∙ rw take-append-drop

-- a part of a buffer was lent to a call: its bytes stand at the part's place
pub lent_writes : (p : R.Answer) (out : List ℕ) (at k : ℕ) (new : List ℕ) (n : ℕ) → at + k ≤ length out → new ≡ R.lent (take k (drop at out)) p
    → length new ≡ k → n ≡ length (out_of p) → Writes out at (out_of p) (take at out ++ (new ++ drop k (drop at out))) (at + n)
unfolding written
lent_writes p out at k new n h e s f =
    let size : length new ≡ length (out_of p) + (length (take k (drop at out)) - length (out_of p)) =
    ap length (e ∙ lent_out (take k (drop at out)) p) ∙ simp (length-append, length-drop) in
    let part : length (take k (drop at out)) ≡ k = simp (length-take, length-drop) (omega arith) in
    let short : length (out_of p) ≤ k = omega arith in
    let rest : drop (length (out_of p)) (take k (drop at out)) ++ drop k (drop at out) ≡ drop (at + length (out_of p)) out =
    part_behind (length (out_of p)) k (drop at out) short (rw length-drop (omega arith)) ∙ drop-drop (length (out_of p)) at out in
    record {
      ends = ap (λ m. at + m) f;
      room = omega arith;
      is = rw (e, lent_out (take k (drop at out)) p, append_assoc (out_of p), rest) (sym (append_assoc (take at out) (out_of p) (drop (at + length (out_of p)) out)));
    }

-- tablet 0 is alone: a line of it is answered as at its desk, and leaves what it leaves there
module _ (self : Memory) (b : Bench) (l : Lone self b) where
  hears_as : (s : List ℕ) → AtDesk 0 (hear width enough b s) (hear_from width enough l.reached.class 0 s)
  unfolding called reply_to request_of
  hears_as s = rw l.is at (call_at_desk width 0 l.reached.class (line enough s) l.alone)

  lone_hears : (s : List ℕ) (next : Memory) → next ≡ packed_class (hear_from width enough l.reached.class 0 s).next → Lone next (hear width enough b s).next
  unfolding hears_on
  lone_hears s next e = let d = hears_as s in record { reached = hears_on self l.reached next 0 enough s e; alone = d.alone; is = d.next }

  -- and so is a take
  takes_as : AtDesk 0 (take_set enough b) (take_next enough l.reached.class)
  unfolding called reply_to request_of
  takes_as = rw l.is at (call_at_desk width 0 l.reached.class (taking enough) l.alone)

  lone_takes : (next : Memory) → next ≡ packed_class (take_next enough l.reached.class).next → Lone next (take_set enough b).next
  unfolding takes_on
  lone_takes next e = record { reached = takes_on self l.reached next enough e; alone = takes_as.alone; is = takes_as.next }

-- the part behind the bytes that wait, with room for any reply or set
abbrev part : List ℕ → ℕ → List ℕ
part out at = take (at + 10291 - at) (drop at out)

-- a call to which it was lent, and how many bytes the answer says
module _ (self : Memory) (out : List ℕ) (at : ℕ) (next : Memory) (new : List ℕ) (answer : Result ℕ Refusal) (n : ℕ) (h : at + 10291 ≤ length out)
    (z : length new ≡ length (part out at)) (f : (p : R.Answer) → Reports answer p → n ≡ length (out_of p)) where
  -- the room is the paper's
  room : length (part out at) ≡ enough
  unfolding enough
  room = simp (length-take, length-drop) (omega arith)

  size : length new ≡ at + 10291 - at
  size = z ∙ simp (length-take, length-drop) (omega arith)

  -- the buffer then
  abbrev back : List ℕ
  back = take at out ++ (new ++ drop (at + 10291 - at) (drop at out))

  -- what the answer adds, by what the paper says of the room
  adds : (p : ℕ → R.Answer) → Meets (p (length (part out at))) (part out at) new answer → Writes out at (out_of (p enough)) back (at + n)
  adds p m =
      let says : Meets (p enough) (part out at) new answer = rw room at m in
      lent_writes (p enough) out at (at + 10291 - at) new n (omega arith) says.buffer size (f _ says.reports)

  -- a set
  module _ (served : ℕ) (t : TakesSet self (part out at) next new served answer) where
    pub takes_at : TakesAt self out at next back (at + n)
    takes_at =
        record {
          reached = t.reached;
          leaves = λ b l. let e = t.leaves l.reached in lone_takes self b l next (rw room at e);
          outs = λ b l. rw (takes_as self b l).answer at (adds (λ room. (take_next room l.reached.class).answer) (t.meets l.reached));
        }

    -- its bytes end within the buffer
    pub takes_fits : Sole self → at + n ≤ length out
    takes_fits k = (takes_at.outs k.bench k.lone).room

  -- a line
  module _ (s : List ℕ) (t : HearsLine self 0 s (part out at) next new answer) where
    hears_out : (b : Bench) → Lone self b → Writes out at (out_of (hear width enough b s).answer) back (at + n)
    hears_out b l = rw (hears_as self b l s).answer at (adds (λ room. (hear_from width room l.reached.class 0 s).answer) (t.meets l.reached))

    pub hears_at : (k : ℕ) (err : List ℕ) (place : ℕ) (new_err : List ℕ) (err_end : ℕ) → ((p : R.Answer) → Reports answer p → Writes err place (err_of k p) new_err err_end)
        → HearsAt self s k out at err place next back (at + n) new_err err_end
    hears_at k err place new_err err_end g =
        record {
          reached = t.reached;
          leaves = λ b l. let e = t.leaves l.reached in lone_hears self b l s next (rw room at e);
          outs = hears_out;
          errs = λ b l. let m = (t.meets l.reached).reports in g _ (rw (room, (hears_as self b l s).answer) at m);
        }

    -- its reply ends within the buffer
    pub hears_fits : Sole self → at + n ≤ length out
    hears_fits k = (hears_out k.bench k.lone).room
