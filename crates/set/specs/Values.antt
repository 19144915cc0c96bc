-- The four numbers of a value: what it shows in a set, and whether it stays within its bounds.
use Rattle.std.specs.Prelude.{ℕ, ◌+◌, ◌-◌, ◌*◌, ◌/◌, ◌%◌, ◌^◌, ◌≤◌, ◌<◌, ◌≡◌, Bool, true, List, [], ◌∷◌, ◌++◌, length, get_or, eqb, leb, ltb}
use Rattle.paper.specs.Byte.{when◌then◌else◌, decimal}
use Rattle.paper.specs.Line.{quote, escape}
use Rattle.paper.specs.Set.{padded}
use Rattle.form.specs.Walk.{part_of}

-- a counter's value in set i, by its kind
unfoldable pub count_at : (kind first step i : ℕ) → ℕ
count_at kind first step i = when eqb kind 0 then first + i * step else first - i * step

-- what four numbers show in set i
unfoldable pub four_show : List ℕ → (first second kind step i : ℕ) → List ℕ
four_show answers first second kind step i =
    when eqb kind 2 then escape (part_of answers first second) else padded second (decimal (count_at kind first step i))

-- four numbers from which a value may be shown in a set: a part that lies in the answers, or a count that stays small
pub record Shown (answers first second kind step i : ℕ) : Type 0 where
  pub begins : kind ≡ 2 → first ≤ second
  pub ends : kind ≡ 2 → second ≤ answers
  pub small : (kind ≡ 2 → ⊥) → first < 1000000000
  pub stepped : step ≤ 9999
  pub counted : i ≤ 65535

-- what the value of a number shows
unfoldable pub value_show : (answers values : List ℕ) (value i : ℕ) → List ℕ
value_show answers values value i =
    four_show answers (get_or values (value * 4) 0) (get_or values (value * 4 + 1) 0) (get_or values (value * 4 + 2) 0) (get_or values (value * 4 + 3) 0) i

-- it may be shown
pub record Told (answers values : List ℕ) (value i : ℕ) : Type 0 where
  pub inside : value * 4 + 3 < length values
  pub shown : Shown (length answers) (get_or values (value * 4) 0) (get_or values (value * 4 + 1) 0) (get_or values (value * 4 + 2) 0) (get_or values (value * 4 + 3) 0) i

-- the quote before a value, by the number of what goes behind a piece
unfoldable pub opening_in : ℕ → List ℕ
opening_in behind = when eqb (behind % 2) 0 then quote ∷ [] else []

-- what goes behind a piece, by its number
unfoldable pub behind_show : (answers values : List ℕ) (behind i : ℕ) → List ℕ
behind_show answers values behind i =
    when eqb behind 0 then [] else opening_in behind ++ (value_show answers values ((behind - 1) / 2) i ++ (quote ∷ []))

-- a counter of a kind stays within its bounds in a last set, as it does in the first; a variable has none
unfoldable pub holds_in : (kind len step first last : ℕ) → Bool
holds_in kind len step first last =
    when eqb kind 2 then true
    else when eqb kind 1 then leb (last * step) first
    else ltb (first + last * step) (10 ^ len)
