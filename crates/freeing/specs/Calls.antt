-- What calls of a class that free a tablet are, and what they leave.
use Rattle.std.specs.Prelude.{ℕ, ◌≡◌, List, [], ◌∷◌, map}
use Rattle.paper.specs.Byte.{bytes}
use Rattle.paper.specs.Class.{Class}
use Rattle.paper.specs.Freeing.{broken, freeing_answers, Freed}
use Rattle.call.specs.Call.{Memory}
use Rattle.tablets.specs.Calls.{Reached}
use Rattle.tablets.specs.Runs.{Kind, hears, Made, Report}

-- `hear` with the three lines, of which the first has the bytes that waited
abbrev pub freeing_calls : (t : ℕ) (waiting : List ℕ) → List Kind
freeing_calls t waiting = hears t (broken waiting) ∷ hears t (bytes "FE") ∷ hears t (bytes "N") ∷ []

-- calls freed a tablet: the memory behind them is that of a class in which it is Idle and all else as it was; they were answered 1 or 2, 3 or 8, and accepted with no byte; and no
-- buffer was written to, of whatever length
pub record FreedByCalls (c : Class) (t : ℕ) (waiting : List ℕ) (ms : List Made) (next : Memory) : Type 0 where
  pub reached : Reached next
  pub freed : Freed c t reached.class
  pub reports : Report (freeing_answers (c.tablet t).session waiting) ms
  pub unwritten : map (λ m. m.new) ms ≡ map (λ m. m.old) ms
