-- What the program's calls of the bench promise: the paper's bytes behind those that wait, and the paper's bench in memory. The program
-- is tablet 0 of a class that it has to itself, so the paper's bench is the one that tablet 0 has before it.
use Rattle.std.specs.Prelude.{ℕ, ◌≡◌, List}
use Rattle.paper.specs.Bench as P
use Rattle.paper.specs.Class.{desk}
use Rattle.paper.specs.Program.{enough, out_of, err_of}
use Rattle.paper.proofs.Alone.{Alone}
use Rattle.command.specs.View.{width}
use Rattle.text.specs.Write.{Writes}
use Rattle.call.specs.Call.{Memory}
use Rattle.tablets.specs.Calls.{Reached}

-- memory that calls lead to, of a class in which tablet 0 is alone and has a bench of 01 before it
pub record Lone (self : Memory) (b : P.Bench) : Type 0 where
  pub reached : Reached self
  pub alone : Alone 0 reached.class
  pub is : desk reached.class 0 ≡ b

-- whichever bench that is
pub record Sole (self : Memory) : Type 0 where
  pub bench : P.Bench
  pub lone : Lone self bench

-- a line is heard under a number: its reply stands behind the bytes that wait for standard output, its refusal behind those that wait
-- for standard error
pub record HearsAt (self : Memory) (s : List ℕ) (k : ℕ) (out : List ℕ) (at : ℕ) (err : List ℕ) (place : ℕ) (next : Memory) (new_out : List ℕ) (out_end : ℕ) (new_err : List ℕ) (err_end : ℕ) : Type 0 where
  pub reached : Reached next
  pub leaves : (b : P.Bench) → Lone self b → Lone next (P.hear width enough b s).next
  pub outs : (b : P.Bench) → Lone self b → Writes out at (out_of (P.hear width enough b s).answer) new_out out_end
  pub errs : (b : P.Bench) → Lone self b → Writes err place (err_of k (P.hear width enough b s).answer) new_err err_end

-- a set is taken
pub record TakesAt (self : Memory) (out : List ℕ) (at : ℕ) (next : Memory) (new_out : List ℕ) (out_end : ℕ) : Type 0 where
  pub reached : Reached next
  pub leaves : (b : P.Bench) → Lone self b → Lone next (P.take_set enough b).next
  pub outs : (b : P.Bench) → Lone self b → Writes out at (out_of (P.take_set enough b).answer) new_out out_end
