-- The pieces of a plan, by its numbers: what each shows with what goes behind it, and whether each definition holds.
use Rattle.std.specs.Prelude.{ℕ, zero, suc, ◌+◌, ◌-◌, ◌*◌, ◌/◌, ◌≤◌, ◌<◌, ◌≡◌, Bool, true, ◌&&◌, List, [], ◌++◌, length, get_or}
use Rattle.form.specs.Walk.{part_of}
use Rattle.set.specs.Values.{Told, behind_show, holds_in}

-- piece k
unfoldable pub piece_show : (text answers plan values : List ℕ) (k i : ℕ) → List ℕ
piece_show text answers plan values k i =
    part_of text (get_or plan (106 + k * 3) 0) (get_or plan (106 + k * 3 + 1) 0) ++ behind_show answers values (get_or plan (106 + k * 3 + 2) 0) i

-- it lies in the text, and what goes behind it may be shown
pub record PieceTold (text answers plan values : List ℕ) (k i : ℕ) : Type 0 where
  pub inside : 106 + k * 3 + 2 < length plan
  pub begins : get_or plan (106 + k * 3) 0 ≤ get_or plan (106 + k * 3 + 1) 0
  pub ends : get_or plan (106 + k * 3 + 1) 0 ≤ length text
  pub told : (get_or plan (106 + k * 3 + 2) 0 ≡ 0 → ⊥) → Told answers values ((get_or plan (106 + k * 3 + 2) 0 - 1) / 2) i

-- so many pieces from k on
unfoldable pub pieces_show : (text answers plan values : List ℕ) (i k many : ℕ) → List ℕ
pieces_show text answers plan values i k zero = []
pieces_show text answers plan values i k (suc many) =
    piece_show text answers plan values k i ++ pieces_show text answers plan values i (k + 1) many

-- each may be shown
pub record PiecesTold (text answers plan values : List ℕ) (i : ℕ) : Type 0 where
  pub counted : 1 < length plan
  pub each : (k : ℕ) → k < get_or plan 1 0 → PieceTold text answers plan values k i

-- definition k holds in a last set
unfoldable pub holds_at : (plan values : List ℕ) (k last : ℕ) → Bool
holds_at plan values k last =
    holds_in (get_or plan (2 + k * 4) 0) (get_or plan (2 + k * 4 + 1) 0) (get_or plan (2 + k * 4 + 2) 0) (get_or values (get_or plan (2 + k * 4 + 3) 0 * 4) 0) last

-- its numbers are small, and it has a value
pub record DefineTold (plan values : List ℕ) (k : ℕ) : Type 0 where
  pub inside : 2 + k * 4 + 3 < length plan
  pub placed : get_or plan (2 + k * 4 + 3) 0 * 4 + 3 < length values
  pub few : (get_or plan (2 + k * 4) 0 ≡ 2 → ⊥) → get_or plan (2 + k * 4 + 1) 0 ≤ 9
  pub stepped : get_or plan (2 + k * 4 + 2) 0 ≤ 9999
  pub small : (get_or plan (2 + k * 4) 0 ≡ 2 → ⊥) → get_or values (get_or plan (2 + k * 4 + 3) 0 * 4) 0 < 1000000000

-- so many definitions from k on hold
unfoldable pub hold_from : (plan values : List ℕ) (last k many : ℕ) → Bool
hold_from plan values last k zero = true
hold_from plan values last k (suc many) = holds_at plan values k last && hold_from plan values last (k + 1) many

-- each has its numbers
pub record DefinesTold (plan values : List ℕ) : Type 0 where
  pub counted : 0 < length plan
  pub each : (k : ℕ) → k < get_or plan 0 0 → DefineTold plan values k
