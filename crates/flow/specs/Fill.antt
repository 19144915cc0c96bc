-- What `step` and `fill` promise: which bytes stand behind those that wait, where the run stands then, and why it stopped.
use Rattle.std.specs.Prelude.{ℕ, ◌+◌, ◌-◌, ◌*◌, ◌^◌, ◌≤◌, ◌<◌, ◌≡◌, Bool, true, false, List, ◌++◌, length, take, drop}
use Rattle.paper.specs.Byte.{every}
use Rattle.paper.specs.Command.{is_shown}
use Rattle.paper.specs.Line.{kept}
use Rattle.paper.specs.State.{Led}
use Rattle.paper.specs.Program.{Output, to_take}
use Rattle.command.specs.View.{width}
use Rattle.text.specs.Place.{from}
use Rattle.text.specs.Write.{Writes}
use Rattle.form.specs.Walk.{first_line}
use Rattle.call.specs.Call.{Memory}
use Rattle.wait.specs.Waiting.{Waits}
use Rattle.reports.specs.Said.{Lone}
use Rattle.flow.specs.Emit.{Standing, joined, after, emit}
use Rattle.flow.specs.declared.fill.Run.{Run}
use Rattle.flow.specs.declared.fill.Reach.{Reach}

-- a run in memory: the bench, the bytes that wait, and the run's numbers
pub record Desk : Type 0 where
  pub memory : Memory
  pub waiting : List ℕ
  pub run : Run

abbrev pub desk_of : Run → Memory → List ℕ → Desk
desk_of run memory waiting = record { memory = memory; waiting = waiting; run = run }

-- a run at a place in the input and in both buffers
pub record Place : Type 0 where
  pub desk : Desk
  pub next : ℕ
  pub out : ℕ
  pub err : ℕ

abbrev pub place_of : Reach → Memory → List ℕ → Place
place_of r memory waiting = record { desk = desk_of r.run memory waiting; next = r.next; out = r.out; err = r.err }

-- and at a place in the input, with no byte in the buffers
abbrev pub place_in : Desk → ℕ → Place
place_in d next = record { desk = d; next = next; out = 0; err = 0 }

-- the memory of a run that stands there, with a bench that calls lead to, which tablet 0 has before it; no dropped byte waits, and the
-- sets that are still to be taken are those that the bench has left
pub record At (d : Desk) (s : Standing) : Type 0 where
  pub lone : Lone d.memory s.bench
  pub led : Led width s.bench
  pub waits : Waits s.wait d.waiting d.run.len
  pub clean : kept s.wait ≡ s.wait
  pub counts : d.run.lines ≡ s.lines
  pub leaves : d.run.left ≡ s.left
  pub due : s.left ≡ to_take s.bench.session

-- a run with a bench that calls lead to, some waiting bytes, and fewer than 65,536 sets still to be taken
pub record Stands (d : Desk) : Type 0 where
  pub paper : Standing
  pub at : At d paper
  pub few : d.run.left ≤ 65535

-- the places lie in the input and in the buffers, and the lines to come can be counted
pub record Inside (r : Reach) (input out err : List ℕ) : Type 0 where
  pub next_inside : r.next ≤ length input
  pub out_inside : r.out ≤ length out
  pub err_inside : r.err ≤ length err
  pub countable : r.run.lines + (length input - r.next) < 2 ^ 64

-- and there is room behind them for what a step can say
pub record Room (r : Reach) (input out err : List ℕ) : Type 0 where
  pub next_inside : r.next ≤ length input
  pub out_room : r.out + 10291 ≤ length out
  pub err_room : r.err + 64 ≤ length err
  pub countable : r.run.lines + (length input - r.next) < 2 ^ 64

-- where the line from a place on ends
abbrev pub Ending : List ℕ → ℕ → ℕ → Type 0
Ending input next end = end ≡ next + length (first_line (from input next))

-- a line that is known to be clear: nothing of it waits, and all its bytes up to its end are shown
abbrev pub Clear : List ℕ → ℕ → ℕ → ℕ → Bool → Type 0
Clear input next len end shown = shown ≡ true → (len ≡ 0) × (every is_shown (take (end - next) (drop next input)) ≡ true)

-- from a standing, with input to come, to a run with input to come: what was said. Whatever follows, all that was to be said
-- is this and what is still to be said, and the run comes to stand where it was to stand
pub record Leads (s : Standing) (input : List ℕ) (d : Desk) (rest : List ℕ) : Type 0 where
  pub here : Standing
  pub at : At d here
  pub said : Output
  pub says : (more : List ℕ) → emit s (input ++ more) ≡ joined said (emit here (rest ++ more))
  pub stays : (more : List ℕ) → after s (input ++ more) ≡ after here (rest ++ more)

-- and its bytes stand behind those that wait
pub record Puts (s : Standing) (input : List ℕ) (p : Place) (out₀ err₀ : List ℕ) (q : Place) (out err : List ℕ) : Type 0 where
  pub leads : Leads s (from input p.next) q.desk (from input q.next)
  pub outs : Writes out₀ p.out leads.said.out out q.out
  pub errs : Writes err₀ p.err leads.said.err err q.err

-- a run came as far or further, and no more lines came than bytes
pub record Goes (input : List ℕ) (p : Place) (out₀ err₀ : List ℕ) (q : Place) (out err : List ℕ) : Type 0 where
  pub stands : Stands q.desk
  pub puts : (s : Standing) → At p.desk s → Puts s input p out₀ err₀ q out err
  pub onward : p.next ≤ q.next
  pub inside : q.next ≤ length input
  pub few : q.desk.run.lines + (length input - q.next) ≤ p.desk.run.lines + (length input - p.next)

-- nothing is left to do but to read
pub record UsedUp (size next left : ℕ) : Type 0 where
  pub whole : next ≡ size
  pub none : left ≡ 0

-- what is left to do, as a number
unfoldable pub weight : ℕ → Place → ℕ
weight size p = (size - p.next) * 65536 + p.desk.run.left

-- `step`: the input is used up, or less is left to do
pub record Steps (input : List ℕ) (p : Place) (out₀ err₀ : List ℕ) (q : Place) (used : Bool) (out err : List ℕ) : Type 0 where
  pub goes : Goes input p out₀ err₀ q out err
  pub ends : used ≡ true → UsedUp (length input) q.next q.desk.run.left
  pub moves : used ≡ false → weight (length input) q < weight (length input) p

-- a buffer lacks room for what a step can say
pub data Lacks (p : Place) (out err : List ℕ) : Type 0 where
  out_full : length out < p.out + 10291 → Lacks p out err
  err_full : length err < p.err + 64 → Lacks p out err

-- `fill`: what it put, and why it stopped; with room in both buffers it moved on
pub record Fills (input : List ℕ) (p : Place) (out₀ err₀ : List ℕ) (q : Place) (used : Bool) (out err : List ℕ) : Type 0 where
  pub goes : Goes input p out₀ err₀ q out err
  pub ends : used ≡ true → UsedUp (length input) q.next q.desk.run.left
  pub full : used ≡ false → Lacks q out₀ err₀
  pub moves : used ≡ false → p.out + 10291 ≤ length out₀ → p.err + 64 ≤ length err₀ → weight (length input) q < weight (length input) p
