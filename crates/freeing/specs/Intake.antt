-- A tablet's way in: its bytes come in pieces. Of a line that is not finished `put_kept` keeps as many as tell all of it, and where an LF ends the line `hear` is given
-- what was kept, behind which nothing waits.
use Rattle.std.specs.Prelude.{ℕ, ◌≡◌, true, not, List, [], ◌∷◌, ◌++◌, eqb, take, Result}
use Rattle.paper.specs.Byte.{every}
use Rattle.paper.specs.Line.{lf, kept}
use Rattle.paper.specs.Refusal as R
use Rattle.paper.specs.Class.{Class}
use Rattle.paper.specs.Freeing.{freeing_answers, Freed}
use Rattle.command.specs.Answer.{Meets}
use Rattle.command.specs.declared.Refusal.{Refusal}
use Rattle.wait.specs.Waiting.{Waits, Comes}
use Rattle.call.specs.Call.{Memory}
use Rattle.tablets.specs.Calls.{Reached, HearsLine}
use Rattle.tablets.specs.Runs.{hears, Made}

-- the memory of a class, and what waits of a tablet's line
pub record Intake : Type 0 where
  pub memory : Memory
  pub waiting : List ℕ
  pub len : ℕ

-- what came: bytes of a line, and what waits then; or an LF, and what `hear` did with the buffer that was lent to it, with memory, and answered
pub data Arrival : Type 0 where
  more : (s new : List ℕ) (len : ℕ) → Arrival
  ending : (old new : List ℕ) (next : Memory) (answer : Result ℕ Refusal) → Arrival

-- it is as promised: of `put_kept`, which gets bytes without an LF, and of `hear`, which gets what waits
abbrev pub AsPromised : (t : ℕ) → Intake → Arrival → Type 0
AsPromised t i (more s new len) = (every (λ b. not (eqb b lf)) s ≡ true) × Comes i.waiting i.len s new len
AsPromised t i (ending old new next answer) = HearsLine i.memory t (take i.len i.waiting) old next new answer

-- where the intake stands then
unfoldable pub behind : Intake → Arrival → Intake
behind i (more s new len) = record { memory = i.memory; waiting = new; len = len }
behind i (ending old new next answer) = record { memory = next; waiting = i.waiting; len = 0 }

-- one after the other, each from where the one before it led
abbrev pub Arrive : (t : ℕ) → Intake → List Arrival → Type 0
Arrive t i [] = Unit
Arrive t i (a ∷ later) = AsPromised t i a × Arrive t (behind i a) later

-- where they lead
unfoldable pub behind_all : Intake → List Arrival → Intake
behind_all i [] = i
behind_all i (a ∷ later) = behind_all (behind i a) later

-- the bytes that came
unfoldable pub bytes_in : Arrival → List ℕ
bytes_in (more s new len) = s
bytes_in (ending old new next answer) = lf ∷ []

unfoldable pub came_in : List Arrival → List ℕ
came_in [] = []
came_in (a ∷ later) = bytes_in a ++ came_in later

-- the calls of `hear` among them, with the whole lines, where some bytes of the first wait already
unfoldable pub calls : (t : ℕ) → (w : List ℕ) → List Arrival → List Made
calls t w [] = []
calls t w (more s new len ∷ later) = calls t (w ++ kept s) later
calls t w (ending old new next answer ∷ later) = record { what = hears t w; old = old; new = new; next = next; whose = t; answer = answer } ∷ calls t [] later

-- the lines among them got these answers, one by one, with the lent buffers after them
abbrev pub Answered : List R.Answer → List Arrival → Type 0
Answered [] [] = Unit
Answered (a ∷ answers) [] = ⊥
Answered [] (more s new len ∷ later) = Answered [] later
Answered (a ∷ answers) (more s new len ∷ later) = Answered (a ∷ answers) later
Answered [] (ending old new next answer ∷ later) = ⊥
Answered (a ∷ answers) (ending old new next answer ∷ later) = Meets a old new answer × Answered answers later

-- no lent buffer was written to
abbrev pub Unwritten : List Arrival → Type 0
Unwritten [] = Unit
Unwritten (more s new len ∷ later) = Unwritten later
Unwritten (ending old new next answer ∷ later) = (new ≡ old) × Unwritten later

-- these bytes of a line wait, of which CR and 1AH left no trace
pub record Unfinished (w : List ℕ) (i : Intake) : Type 0 where
  pub waits : Waits w i.waiting i.len
  pub clean : kept w ≡ w

-- a tablet was freed: memory of a class in which it is Idle and all else as it was, and no byte waits, so that `len` is 0. Its lines were answered 1 or 2, 3 or 8, and accepted with no byte; and no buffer
-- was written to, of whatever length
pub record FreedIn (c : Class) (t : ℕ) (w : List ℕ) (came : List Arrival) (i : Intake) : Type 0 where
  pub reached : Reached i.memory
  pub freed : Freed c t reached.class
  pub nothing : Unfinished [] i
  pub answered : Answered (freeing_answers (c.tablet t).session w) came
  pub unwritten : Unwritten came
