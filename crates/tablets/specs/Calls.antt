-- The memory of a class, and what a call promises from memory that calls lead to.
use Rattle.std.specs.Prelude.{ℕ, zero, suc, ◌+◌, ◌-◌, ◌≡◌, List, length, ltb, eqb, Option, Result}
use Rattle.paper.specs.Byte.{when◌then◌else◌}
use Rattle.paper.specs.Form.{Form}
use Rattle.paper.specs.Read.{read}
use Rattle.paper.specs.Program.{to_take}
use Rattle.paper.specs.Class.{Tablet, Class, thirty, begin_class, hear_from, take_next, printers, filing_read, Request, class_after, SaneClass}
use Rattle.command.specs.View.{width}
use Rattle.command.specs.Answer.{Meets}
use Rattle.command.specs.declared.Refusal.{Refusal}
use Rattle.session.specs.Memory.{Session, packed_session, packed_shelf, number_of}
use Rattle.seats.specs.Seats.{seat_of}
use Rattle.call.specs.Call.{Memory}
use Rattle.lend.specs.Laid.{laid_out}
use Rattle.guard.specs.Guarded.{Guarding}
use Rattle.guard.specs.declared.Leaving.{Leaving}

-- a tablet in memory: the form that it holds open lies at the number of its name
unfoldable pub packed_tablet : List Form → Tablet → Session
packed_tablet fs x = packed_session fs (number_of x.form fs) x.session

-- a class in memory, with so many counted that print
unfoldable pub packed_with : Class → ℕ → Memory
packed_with c printing = laid_out (packed_shelf c.forms) (λ k. packed_tablet c.forms (c.tablet k)) c.last printing

-- and with those that do
unfoldable pub packed_class : Class → Memory
packed_class c = packed_with c (printers c)

-- memory that calls lead to
pub record Reached (self : Memory) : Type 0 where
  pub class : Class
  pub calls : List Request
  pub led : class ≡ class_after width begin_class calls
  pub is : self ≡ packed_class class

-- `new`: the memory of a class where nothing was sent yet
pub record Begins (self : Memory) : Type 0 where
  pub is : self ≡ packed_class begin_class

-- `hear`: the paper's answer with the lent buffer, and the memory of the class that it leaves
pub record HearsLine (self : Memory) (t : ℕ) (s old : List ℕ) (next : Memory) (new : List ℕ) (r : Result ℕ Refusal) : Type 0 where
  pub reached : Reached next
  pub meets : (k : Reached self) → Meets (hear_from width (length old) k.class t s).answer old new r
  pub leaves : (k : Reached self) → next ≡ packed_class (hear_from width (length old) k.class t s).next

-- what the others make of a line that an idle tablet sends
pub record Warns (self : Memory) (t : ℕ) (s : List ℕ) (g : Result (Option Leaving) Refusal) : Type 0 where
  pub guards : (k : Reached self) → Guarding k.class t (filing_read (read width s)) g

-- so many print behind a step of a tablet from a state of one tag to a state of another
unfoldable pub recounted : (n was is : ℕ) → ℕ
recounted n was is = when eqb was is then n else (when eqb was 6 then n - 1 else (when eqb is 6 then n + 1 else n))

-- `take`: the same of a set, and the tablet whose set it is, 30 where nobody prints
pub record TakesSet (self : Memory) (old : List ℕ) (next : Memory) (new : List ℕ) (served : ℕ) (r : Result ℕ Refusal) : Type 0 where
  pub reached : Reached next
  pub meets : (k : Reached self) → Meets (take_next (length old) k.class).answer old new r
  pub whose : (k : Reached self) → served ≡ seat_of (take_next (length old) k.class).whose
  pub leaves : (k : Reached self) → next ≡ packed_class (take_next (length old) k.class).next

-- the sets that a tablet has left to be taken; none where there is no such tablet
unfoldable pub left_of : Class → ℕ → ℕ
left_of c t = when ltb t thirty then to_take (c.tablet t).session else 0

-- those of so many tablets together
unfoldable pub left_below : ℕ → Class → ℕ
left_below zero c = 0
left_below (suc k) c = left_below k c + left_of c k

-- the numbers of a class of which all holds that holds of those that calls lead to
pub record Counts (held : List ℕ) : Type 0 where
  pub class : Class
  pub sane : SaneClass width class
  pub is : held ≡ (packed_class class).held

-- `sets_left`: the sets that a tablet has left
pub record SetsLeft (held : List ℕ) (t r : ℕ) : Type 0 where
  pub is : (k : Counts held) → r ≡ left_of k.class t

-- `all_left`: those of all tablets
pub record AllLeft (held : List ℕ) (r : ℕ) : Type 0 where
  pub is : (k : Counts held) → r ≡ left_below thirty k.class
