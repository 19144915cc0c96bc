-- Thirty sessions in memory: their numbers lie one behind the other, ten for each tablet.
use Rattle.std.specs.Prelude.{ℕ, zero, suc, ◌+◌, ◌-◌, Bool, false, not, ◌&&◌, ◌||◌, List, [], ◌++◌, ltb, eqb, get_or, set, Option, Some, None}
use Rattle.std.proofs.Math.Option as M
use Rattle.std.proofs.Math.Option.{none, some}
use Rattle.paper.specs.Byte.{when◌then◌else◌, between}
use Rattle.session.specs.Memory.{Session}
use Rattle.session.specs.declared.state.Held.{Held}
use Rattle.seats.specs.Numbers.{code_of, held_in}

-- the parts of so many tablets, one behind the other, from a number on
unfoldable pub flat : {A : Type 0} → (ℕ → List A) → (from count : ℕ) → List A
flat part from zero = []
flat part from (suc count) = part from ++ flat part (suc from) count

-- the numbers of thirty sessions
unfoldable pub numbers_of : (ℕ → Held) → List ℕ
numbers_of h = flat (λ k. held_in (h k)) 0 30

-- a session in a state from one tag up to another, with a form's number from one up to another
unfoldable pub is_at : (low high first last : ℕ) → Held → Bool
is_at low high first last h = between low high (code_of h.mode).tag && between first last h.form

-- a number below a bound, other than one, passes a test
unfoldable pub beside_below : (n t : ℕ) → (ℕ → Bool) → Bool
beside_below zero t test = false
beside_below (suc k) t test = (not (eqb k t) && test k) || beside_below k t test

-- the numbers of a session behind the leaving of form n, whose text has so many bytes
unfoldable pub lowered : (n size : ℕ) → Held → Held
lowered n size h =
    when ltb n h.form then
    record {
      mode = h.mode;
      form = h.form - 1;
      start = h.start - size;
      size = h.size;
      len = h.len;
      drafted = h.drafted;
      given = h.given;
    }
    else
    h

-- so in memory, where those numbers begin at a place
unfoldable pub lowered_at : (n size : ℕ) → List ℕ → (at : ℕ) → List ℕ
lowered_at n size held at =
    when ltb n (get_or held (at + 4) 0) then
    set (set held (at + 4) (get_or held (at + 4) 0 - 1)) (at + 5) (get_or held (at + 5) 0 - size)
    else
    held

-- the same session with other numbers
unfoldable pub with_held : Held → Session → Session
with_held held s = record { held = held; name = s.name; text = s.text; answers = s.answers; values = s.values }

-- the number that a search gave, 30 for none
unfoldable pub seat_of : M.Option ℕ → ℕ
seat_of none = 30
seat_of (some k) = k

-- and as the code holds it
unfoldable pub option_of : M.Option ℕ → Option ℕ
option_of none = None
option_of (some k) = Some k
