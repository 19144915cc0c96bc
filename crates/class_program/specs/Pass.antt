-- What the loops that read and write promise: what was to be said and where the run stands, and nothing of the streams that it went to.
use Rattle.std.specs.Prelude.{ℕ, ◌≤◌, ◌<◌, ◌≡◌, Bool, true, false, List, length, take, Option, Result}
use Rattle.text.specs.Place.{from}
use Rattle.streams.specs.declared.errors.Errno.{Errno}
use Rattle.streams.specs.Streams.{bytes_of}
use Rattle.call.specs.Call.{Memory}
use Rattle.tablets.specs.Calls.{Begins}
use Rattle.dialogue.specs.Emit.{Standing}
use Rattle.dialogue.specs.Fill.{Desk, At, Stands, Leads}

-- the buffers: one with room for any set that a take can name, and one with room for a record
pub record Roomy (reply out : List ℕ) : Type 0 where
  pub reply_room : 99999 ≤ length reply
  pub out_room : 10357 ≤ length out

-- `pass`: a piece of input, up to a place, and to its end where the run goes on. Where there are bytes the run moved on, and where
-- it stops behind them something was said
pub record Passes (d : Desk) (input : List ℕ) (e : Desk) (next : ℕ) (going : Bool) : Type 0 where
  pub stands : Stands e
  pub leads : (s : Standing) → At d s → Leads s input e (from input next)
  pub ends : going ≡ true → next ≡ length input
  pub moves : 0 < length input → 0 < next
  pub speaks : going ≡ false → 0 < length input → (s : Standing) (a : At d s) → 0 < length (leads s a).said

-- `obey`: they are passed on, and the run ends where there are none
pub record Obeys (d : Desk) (read : Result (Option ℕ) Errno) (input : List ℕ) (e : Desk) (next : ℕ) (going : Bool) : Type 0 where
  pub passes : Passes d (take (bytes_of read) input) e next going
  pub stops : bytes_of read ≡ 0 → going ≡ false

-- a class that has just begun, and buffers: one of some bytes that a read fills, and those for replies and records
pub record Starting (memory : Memory) (input reply out : List ℕ) : Type 0 where
  pub begins : Begins memory
  pub some : 1 ≤ length input
  pub roomy : Roomy reply out
