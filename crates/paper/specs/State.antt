-- The states that calls lead to, and what holds of each of them.
use Rattle.std.specs.Prelude.{ℕ, ◌-◌, ◌≤◌, ◌<◌, Bool, true, false, ◌&&◌, List, [], ◌∷◌, ◌≡◌, length, take}
use Rattle.paper.specs.Byte.{none}
use Rattle.paper.specs.Command.{Define, FormLine, keep, is_name, in_range}
use Rattle.paper.specs.Form.{Form, within_limits, asked, unsound_at, find, used}
use Rattle.paper.specs.Set.{fits, all_hold}
use Rattle.paper.specs.Bench.{Session, idle, collecting, spoiled, opened, answering, ready, printing, Bench, begin, hear, take_set}

-- a bench that lines and takes lead to from the start, refused ones too
pub data Led (width : ℕ) : Bench → Type 0 where
  begun : Led width begin
  hearing : {b : Bench} → Led width b → (room : ℕ) (s : List ℕ) → Led width (hear width room b s).next
  taking : {b : Bench} → Led width b → (room : ℕ) → Led width (take_set room b).next

-- every line of a form is within the label's limits
unfoldable pub all_in : ℕ → List FormLine → Bool
all_in width [] = true
all_in width (l ∷ ls) = in_range width (keep l) && all_in width ls

-- a form that the store may hold: its lines in range, the whole within its limits and sound
pub record Storable (width : ℕ) (ls : List FormLine) : Type 0 where
  pub inside : all_in width ls ≡ true
  pub limits : within_limits ls ≡ true
  pub sound : unsound_at ls ≡ none

-- answers that fit definitions one by one, as many as there are
unfoldable pub fitting : List Define → List (List ℕ) → Bool
fitting [] [] = true
fitting [] (a ∷ more) = false
fitting (d ∷ ds) [] = false
fitting (d ∷ ds) (a ∷ more) = fits d a && fitting ds more

-- every stored form has a name of its own and may be held
abbrev pub AllStored : ℕ → List Form → Type 0
AllStored width [] = Unit
AllStored width (f ∷ fs) =
    (is_name f.name ≡ true) × (find f.name fs ≡ none) × Storable width f.lines × AllStored width fs

-- the store within its room
pub record Stored (width : ℕ) (fs : List Form) : Type 0 where
  pub each : AllStored width fs
  pub few : length fs ≤ 8
  pub room : used fs ≤ 4096

-- a form that is being collected under a name that is free
pub record Draft (width : ℕ) (fs : List Form) (name : List ℕ) (ls : List FormLine) : Type 0 where
  pub named : is_name name ≡ true
  pub free : find name fs ≡ none
  pub inside : all_in width ls ≡ true
  pub limits : within_limits ls ≡ true

-- sets that are being printed: the counters hold to the last of them, and one is still to be taken
pub record Printing (ls : List FormLine) (answers : List (List ℕ)) (n c i : ℕ) : Type 0 where
  pub holding : all_hold (n - 1) (asked ls) answers ≡ true
  pub counted : n ≤ 65535
  pub some_copies : 1 ≤ c
  pub copied : c ≤ 65535
  pub left : i < n

-- what holds of a session beside a store
abbrev pub Sound : ℕ → List Form → Session → Type 0
Sound width fs idle = Unit
Sound width fs (collecting name ls) = Draft width fs name ls
Sound width fs spoiled = Unit
Sound width fs (opened ls) = Storable width ls × (0 < length (asked ls))
Sound width fs (answering ls answers) =
    Storable width ls
    × (length answers < length (asked ls))
    × (fitting (take (length answers) (asked ls)) answers ≡ true)
Sound width fs (ready ls answers) = Storable width ls × (fitting (asked ls) answers ≡ true)
Sound width fs (printing ls answers n c i) =
    Storable width ls × (fitting (asked ls) answers ≡ true) × Printing ls answers n c i

-- what holds of every bench that calls lead to
pub record Sane (width : ℕ) (b : Bench) : Type 0 where
  pub forms : Stored width b.forms
  pub session : Sound width b.forms b.session
