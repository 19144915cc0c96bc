-- Calls one after the other: their answers and the bench that they leave; and the calls that print a stored form.
use Rattle.std.specs.Prelude.{ℕ, zero, suc, ◌-◌, ◌≤◌, true, List, [], ◌∷◌, ◌++◌, ◌≡◌}
use Rattle.paper.specs.Byte.{some}
use Rattle.paper.specs.Command.{Define, FormLine, file, recall, ask, print}
use Rattle.paper.specs.Refusal.{Answer, accepted}
use Rattle.paper.specs.Write.{normal}
use Rattle.paper.specs.Form.{asked, find}
use Rattle.paper.specs.Set.{all_hold, set_of}
use Rattle.paper.specs.Bench.{idle, Bench, Outcome, hear, take_set}
use Rattle.paper.specs.State.{fitting}

-- a call, with the room in the buffer that is lent to it
pub data Call : Type 0 where
  line : (room : ℕ) (s : List ℕ) → Call
  taking : (room : ℕ) → Call

-- what a call gives
unfoldable pub called : ℕ → Bench → Call → Outcome
called width b (line room s) = hear width room b s
called width b (taking room) = take_set room b

-- the answers to calls
unfoldable pub answers_to : ℕ → Bench → List Call → List Answer
answers_to width b [] = []
answers_to width b (c ∷ cs) = (called width b c).answer ∷ answers_to width (called width b c).next cs

-- the bench that they leave
unfoldable pub after_calls : ℕ → Bench → List Call → Bench
after_calls width b [] = b
after_calls width b (c ∷ cs) = after_calls width (called width b c).next cs

-- lines, each with the room in the buffer that is lent to it
unfoldable pub saying : (rooms : List ℕ) → List (List ℕ) → List Call
saying [] ss = []
saying (room ∷ rooms) [] = []
saying (room ∷ rooms) (s ∷ ss) = line room s ∷ saying rooms ss

-- accepted with nothing to write, for each of some lines
unfoldable pub quiet : List (List ℕ) → List Answer
quiet [] = []
quiet (s ∷ ss) = accepted [] ∷ quiet ss

-- `?`, where a form asks for something
unfoldable pub asking : List Define → List (List ℕ)
asking [] = []
asking (d ∷ ds) = normal ask ∷ []

-- the lines of an order: `FR`, `?` where the form has definitions, the answers to them, and `P`
unfoldable pub order : List ℕ → List FormLine → List (List ℕ) → (n c : ℕ) → List (List ℕ)
order name ls given n c =
    normal (file (recall name)) ∷ (asking (asked ls) ++ (given ++ (normal (print n c) ∷ [])))

-- so many sets, from set i on
unfoldable pub sets_from : List FormLine → List (List ℕ) → (c i count : ℕ) → List (List ℕ)
sets_from ls given c i zero = []
sets_from ls given c i (suc count) = set_of ls given c i ∷ sets_from ls given c (suc i) count

-- a bench may be given an order: it is Idle and stores the form, the answers are complete and each of them fits, the numbers
-- of sets and of copies are in range, and no counter leaves its bounds
pub record Orders (b : Bench) (name : List ℕ) (ls : List FormLine) (given : List (List ℕ)) (n c : ℕ) : Type 0 where
  pub free : b.session ≡ idle
  pub stored : find name b.forms ≡ some ls
  pub fit : fitting (asked ls) given ≡ true
  pub some_sets : 1 ≤ n
  pub few_sets : n ≤ 65535
  pub some_copies : 1 ≤ c
  pub few_copies : c ≤ 65535
  pub hold : all_hold (n - 1) (asked ls) given ≡ true
