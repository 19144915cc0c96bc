-- What `step` and `fill` promise: which bytes stand behind those that wait, where the run stands then, and why it stopped.
use Rattle.std.specs.Prelude.{ℕ, ◌+◌, ◌≤◌, ◌<◌, ◌≡◌, Bool, true, false, List, ◌++◌, length}
use Rattle.paper.specs.Line.{kept}
use Rattle.text.specs.Place.{from}
use Rattle.text.specs.Write.{Writes}
use Rattle.call.specs.Call.{Memory}
use Rattle.dialogue.specs.Emit.{Standing, after, emit}
use Rattle.dialogue.specs.Tell.{Holds}
use Rattle.dialogue.specs.Waiting.{Waits}
use Rattle.dialogue.specs.declared.fill.Reach.{Reach}

-- a run in memory: the class, the bytes that wait, and how many
pub record Desk : Type 0 where
  pub memory : Memory
  pub waiting : List ℕ
  pub len : ℕ

abbrev pub desk_of : ℕ → Memory → List ℕ → Desk
desk_of len memory waiting = record { memory = memory; waiting = waiting; len = len }

-- a run at a place in the input and in the buffer
pub record Place : Type 0 where
  pub desk : Desk
  pub next : ℕ
  pub out : ℕ

abbrev pub place_of : Reach → Memory → List ℕ → Place
place_of r memory waiting = record { desk = desk_of r.len memory waiting; next = r.next; out = r.out }

-- the memory of a run that stands there, with a class that calls lead to; no dropped byte waits
pub record At (d : Desk) (s : Standing) : Type 0 where
  pub holds : Holds d.memory s.class
  pub waits : Waits s.wait d.waiting d.len
  pub clean : kept s.wait ≡ s.wait

-- a run with a class that calls lead to, and some waiting bytes
pub record Stands (d : Desk) : Type 0 where
  pub paper : Standing
  pub at : At d paper

-- the places lie in the input and in the buffer, and any set fits into the one that replies go to
pub record Inside (r : Reach) (input reply out : List ℕ) : Type 0 where
  pub next_inside : r.next ≤ length input
  pub out_inside : r.out ≤ length out
  pub reply_room : 99999 ≤ length reply

-- and there is room behind them for a record
pub record Room (r : Reach) (input reply out : List ℕ) : Type 0 where
  pub next_inside : r.next ≤ length input
  pub out_room : r.out + 10357 ≤ length out
  pub reply_room : 99999 ≤ length reply

-- from a standing, with input to come, to a run with input to come: what was said. Whatever follows, all that was to be said
-- is this and what is still to be said, and the run comes to stand where it was to stand
pub record Leads (s : Standing) (input : List ℕ) (d : Desk) (rest : List ℕ) : Type 0 where
  pub here : Standing
  pub at : At d here
  pub said : List ℕ
  pub says : (more : List ℕ) → emit s (input ++ more) ≡ said ++ emit here (rest ++ more)
  pub stays : (more : List ℕ) → after s (input ++ more) ≡ after here (rest ++ more)

-- and its bytes stand behind those that wait
pub record Puts (s : Standing) (input : List ℕ) (p : Place) (out₀ : List ℕ) (q : Place) (out : List ℕ) : Type 0 where
  pub leads : Leads s (from input p.next) q.desk (from input q.next)
  pub outs : Writes out₀ p.out leads.said out q.out

-- a run came as far or further
pub record Goes (input : List ℕ) (p : Place) (out₀ : List ℕ) (q : Place) (out : List ℕ) : Type 0 where
  pub stands : Stands q.desk
  pub puts : (s : Standing) → At p.desk s → Puts s input p out₀ q out
  pub onward : p.next ≤ q.next
  pub inside : q.next ≤ length input

-- `step`: the input is used up, or the run moved on
pub record Steps (input : List ℕ) (p : Place) (out₀ : List ℕ) (q : Place) (used : Bool) (out : List ℕ) : Type 0 where
  pub goes : Goes input p out₀ q out
  pub ends : used ≡ true → q.next ≡ length input
  pub moves : used ≡ false → p.next < q.next

-- `fill`: what it put, and why it stopped: the input is used up, or the buffer lacks room for a record. With room for one it moved on
pub record Fills (input : List ℕ) (p : Place) (out₀ : List ℕ) (q : Place) (used : Bool) (out : List ℕ) : Type 0 where
  pub goes : Goes input p out₀ q out
  pub ends : used ≡ true → q.next ≡ length input
  pub full : used ≡ false → length out₀ < q.out + 10357
  pub moves : used ≡ false → p.out + 10357 ≤ length out₀ → p.next < q.next
