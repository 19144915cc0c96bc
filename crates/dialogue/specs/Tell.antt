-- What the calls of a class say in the program: a record of the paper behind the bytes that wait, and the paper's class in memory.
use Rattle.std.specs.Prelude.{ℕ, ◌≡◌, List, ◌++◌, length, take, Result, Ok, Err}
use Rattle.paper.specs.Refusal as R
use Rattle.paper.specs.Program.{out_of}
use Rattle.paper.specs.Class.{Class, Reply}
use Rattle.paper.specs.ClassProgram.{ok_head, no_head}
use Rattle.command.specs.Answer.{Reports}
use Rattle.command.specs.declared.Refusal.{Refusal}
use Rattle.text.specs.Write.{Writes}
use Rattle.call.specs.Call.{Memory}
use Rattle.tablets.specs.Calls.{Reached}
use Rattle.dialogue.specs.Emit.{record_for}

-- how many bytes an answer says it wrote
unfoldable pub size_of : Result ℕ Refusal → ℕ
size_of (Ok len) = len
size_of (Err why) = 0

-- an answer that reports the paper's, and its bytes at the front of a buffer
pub record Shows (p : R.Answer) (answer : Result ℕ Refusal) (reply : List ℕ) : Type 0 where
  pub reports : Reports answer p
  pub front : take (length (out_of p)) reply ≡ out_of p

-- the record of an answer to a tablet that has so many sets left
unfoldable pub record_by : R.Answer → (tablet left : ℕ) → List ℕ
record_by (R.accepted bytes) tablet left = ok_head tablet left (length bytes) ++ bytes
record_by (R.refused r) tablet left = no_head r

-- `put_record`: it stands behind the bytes that wait
pub record PutsRecord (tablet left : ℕ) (answer : Result ℕ Refusal) (reply out : List ℕ) (at : ℕ) (new : List ℕ) (end : ℕ) : Type 0 where
  pub puts : (p : R.Answer) → Shows p answer reply → Writes out at (record_by p tablet left) new end

-- memory of a class, to which calls lead
pub record Holds (memory : Memory) (c : Class) : Type 0 where
  pub reached : Reached memory
  pub is : reached.class ≡ c

-- a call of the class: memory is that of the class that it leaves, and its record stands behind the bytes that wait
pub record Tells (self : Memory) (call : Class → Reply) (out : List ℕ) (at : ℕ) (next : Memory) (new : List ℕ) (end : ℕ) : Type 0 where
  pub leaves : (k : Reached self) → Holds next (call k.class).next
  pub puts : (k : Reached self) → Writes out at (record_for (call k.class)) new end
