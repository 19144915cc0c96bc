-- One tablet alone is the bench of 01, over the code: calls that were made of a class in which one tablet sends, every other being
-- Idle, gave what the bench of 01 gives, with all bytes.
use Prim.Native.Nat.{ℕ}
use mathlib.Core.Path.{◌≡◌, refl, ◌∙◌, ap}
use mathlib.Core.Bool.{true}
use mathlib.Core.List.{List, [], ◌∷◌, map}
use native.Mathlib.Omega.{arith}
use borrow.Author.Tests.{eqb-true}
use Rattle.paper.specs.Bench as P
use Rattle.paper.specs.Calls.{answers_to, after_calls}
use Rattle.paper.specs.Class.{sends, begin_class, desk, class_after}
use Rattle.paper.specs.Diary.{call_of, request_of}
use Rattle.paper.proofs.Law.{and_left, and_right}
use Rattle.paper.proofs.Alone.{Alone, alone_answers, alone_leaves, begin_alone}
use Rattle.command.specs.View.{width}
use Rattle.call.specs.Call.{Memory}
use Rattle.tablets.specs.Calls.{Reached, Begins}
use Rattle.tablets.specs.Runs.{Kind, hears, takes, Made, Chain, after, request_for, room_of, on_paper, on_bench, Report, sent_by, only}
use Rattle.tablets.proofs.Leading.{begins_on}
use Rattle.tablets.proofs.Chain.{chain_follows}

-- a call of one tablet is told by the call of the bench of 01
one_request : (t room : ℕ) (what : Kind) → sent_by t what ≡ true → request_for room what ≡ request_of t (call_of (request_for room what))
unfolding sent_by request_for request_of call_of
one_request t room (hears u s) e = ap (λ x. sends x room s) (eqb-true u t e)
one_request t room takes e = refl

only_paper : (t : ℕ) (ms : List Made) → only t ms ≡ true → map on_paper ms ≡ map (request_of t) (map on_bench ms)
unfolding only on_paper on_bench
only_paper t [] e = refl
only_paper t (m ∷ ms) e =
    let here = one_request t (room_of m) m.what (and_left _ _ e) in
    let rest = only_paper t ms (and_right (sent_by t m.what) _ e) in
    λ i. here i ∷ rest i

-- calls went as on a bench of 01: their answers and buffers are its own, and so are the store and the session that they left
pub record AsBench (self : Memory) (t : ℕ) (b : P.Bench) (ms : List Made) : Type 0 where
  pub reports : Report (answers_to width b (map on_bench ms)) ms
  pub reached : Reached (after self ms)
  pub leaves : desk reached.class t ≡ after_calls width b (map on_bench ms)

-- ALONE: so they did while one tablet had the class to itself
pub chain_alone : (self : Memory) (k : Reached self) (t : ℕ) (ms : List Made) → Alone t k.class → only t ms ≡ true → Chain self ms → AsBench self t (desk k.class t) ms
chain_alone self k t ms a e h =
    let f = chain_follows self k ms h in
    let one = only_paper t ms e in
    record {
      reports = rw (one, alone_answers width t k.class (map on_bench ms) a) at f.reports;
      reached = f.reached;
      leaves = ap (λ d. desk d t) (f.class ∙ ap (class_after width k.class) one) ∙ alone_leaves width t k.class (map on_bench ms) a;
    }

-- and from the start the program of 01, which sends as tablet 0, is served as by the bench of 01
pub chain_begins : (self : Memory) (ms : List Made) → Begins self → only 0 ms ≡ true → Chain self ms → AsBench self 0 P.begin ms
unfolding begins_on begin_class desk P.begin
chain_begins self ms b e h = chain_alone self (begins_on self b) 0 ms (begin_alone 0 (omega arith)) e h
