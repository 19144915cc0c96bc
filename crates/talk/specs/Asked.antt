-- What an input line asks, by its places: the answer says what the paper reads.
use Rattle.std.specs.Prelude as Std
use Rattle.std.specs.Prelude.{ℕ, ◌≤◌, ◌≡◌, List, length, Some, None}
use Rattle.std.proofs.Math.Option.{Option, none, some}
use Rattle.paper.specs.Line.{Got}
use Rattle.paper.specs.Program.{enough}
use Rattle.paper.specs.Class.{Request, sends, fetches}
use Rattle.paper.specs.ClassProgram.{call_in, asked_in}
use Rattle.text.specs.Place.{from}
use Rattle.text.specs.declared.read.Parsed.{Parsed}
use Rattle.talk.specs.declared.asked.Asked.{Asked}
use Rattle.talk.specs.declared.asked.Asked.TheVariants.{Line, Take}

-- the place behind a part, with the value that such a part has
unfoldable pub valued : ℕ → Std.Option ℕ → Std.Option (Parsed ℕ)
valued n (Some next) = Some (record { value = n; next = next })
valued n None = None

-- an answer in the paper's words: a tablet's line is the bytes from its place on
unfoldable pub said_call : List ℕ → Std.Option Asked → Option Request
said_call s (Some (Line tablet at)) = some (sends tablet enough (from s at))
said_call s (Some (Take room)) = some (fetches room)
said_call s None = none

-- where a tablet's line starts
unfoldable pub start_of : Std.Option Asked → ℕ
start_of (Some (Line tablet at)) = at
start_of (Some (Take room)) = 0
start_of None = 0

-- the room of a take
unfoldable pub room_in : Std.Option Asked → ℕ
room_in (Some (Line tablet at)) = 0
room_in (Some (Take room)) = room
room_in None = 0

-- an answer that says what a reader of the paper gives; a tablet's line starts in the input line, and a room has 5 digits at most
pub record Asks (s : List ℕ) (g : Got Request) (r : Std.Option Asked) : Type 0 where
  pub says : said_call s r ≡ call_in g
  pub inside : start_of r ≤ length s
  pub small : room_in r ≤ 99999

-- an answer that says what the whole line asks
pub record AsksLine (s : List ℕ) (r : Std.Option Asked) : Type 0 where
  pub says : said_call s r ≡ asked_in s
  pub inside : start_of r ≤ length s
  pub small : room_in r ≤ 99999
