-- Whether the counters hold: the definitions of the plan decide, each by its numbers.
use Prim.Native.Nat.{ℕ, zero, suc, ◌+◌, ◌<◌}
use mathlib.Core.Path.{◌≡◌, refl, ◌∙◌, ap}
use mathlib.Core.Bool.{Bool, ◌&&◌}
use mathlib.Core.List.{List}
use lib.ListN.{length, get_or}
use Rattle.std.specs.List.{list_all, range_with_len}
use Rattle.set.specs.Piece.{holds_at, DefineTold, hold_from}
use Rattle.set.specs.Taking.{Filled, Holds}
use Rattle.set.proofs.Filled.{filled_told, filled_holds}

pub hold_counted : (plan values : List ℕ) → Filled plan values → 0 < length plan
hold_counted plan values t = (filled_told plan values t).counted

pub hold_told : (plan values : List ℕ) → Filled plan values → (k : ℕ) → k < get_or plan 0 0 → DefineTold plan values k
hold_told plan values t k h = (filled_told plan values t).each k h

-- all of so many numbers
all_from : (plan values : List ℕ) (last k many : ℕ) → list_all (λ k. holds_at plan values k last) (range_with_len k many) ≡ hold_from plan values last k many
unfolding hold_from
all_from plan values last k zero = refl
all_from plan values last k (suc many) = ap (λ r. holds_at plan values k last && r) (all_from plan values last (k + 1) many)

pub hold_all : (plan values : List ℕ) (last : ℕ) (r : Bool) → r ≡ list_all (λ k. holds_at plan values k last) (range_with_len 0 (get_or plan 0 0)) → Holds plan values last r
hold_all plan values last r e = record { holds = λ t. e ∙ all_from plan values last 0 (get_or plan 0 0) ∙ filled_holds plan values t last }
