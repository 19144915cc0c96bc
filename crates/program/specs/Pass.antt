-- What the loops that read and write promise: what was to be said and where the run stands, and nothing of the streams that it went to.
use Rattle.std.specs.Prelude.{ℕ, ◌+◌, ◌^◌, ◌≤◌, ◌<◌, ◌≡◌, Bool, true, false, List, length, take, Option, Result}
use Rattle.text.specs.Place.{from}
use Rattle.streams.specs.declared.errors.Errno.{Errno}
use Rattle.streams.specs.Streams.{bytes_of}
use Rattle.call.specs.Call.{Memory}
use Rattle.tablets.specs.Calls.{Begins}
use Rattle.flow.specs.Emit.{Standing}
use Rattle.flow.specs.Fill.{Desk, place_in, At, Stands, Leads, UsedUp, weight}

-- a run that can count so many lines more
pub record StandsAt (d : Desk) (lines : ℕ) : Type 0 where
  pub stands : Stands d
  pub countable : d.run.lines + lines < 2 ^ 64

-- `pass`: a piece of input, up to a place, and to its end where the run goes on. Where there are bytes less is left to do, and where the
-- run stops behind them something was said to standard output
pub record Passes (d : Desk) (input : List ℕ) (e : Desk) (next : ℕ) (going : Bool) : Type 0 where
  pub stands : Stands e
  pub leads : (s : Standing) → At d s → Leads s input e (from input next)
  pub few : e.run.lines ≤ d.run.lines + length input
  pub ends : going ≡ true → UsedUp (length input) next e.run.left
  pub moves : 0 < length input → weight (length input) (place_in e next) < weight (length input) (place_in d 0)
  pub speaks : going ≡ false → 0 < length input → (s : Standing) (a : At d s) → 0 < length (leads s a).said.out

-- `obey`: they are passed on, and the run ends where there are none
pub record Obeys (d : Desk) (read : Result (Option ℕ) Errno) (input : List ℕ) (e : Desk) (next : ℕ) (going : Bool) : Type 0 where
  pub passes : Passes d (take (bytes_of read) input) e next going
  pub stops : bytes_of read ≡ 0 → going ≡ false

-- a bench that has just begun, and buffers: one of some bytes that a read fills, and two with room for what a step can say
pub record Starting (memory : Memory) (input out err : List ℕ) : Type 0 where
  pub begins : Begins memory
  pub some : 1 ≤ length input
  pub few : length input ≤ 65536
  pub out_room : 10291 ≤ length out
  pub err_room : 64 ≤ length err
