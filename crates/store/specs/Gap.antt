-- Memory in which a gap is closed.
use Rattle.std.specs.Prelude.{ℕ, ◌+◌, List, ◌++◌, take, drop, replicate}

-- so many elements from behind a gap are moved down over it, and the part that they leave is filled with one element
unfoldable pub closed : {A : Type 0} → List A → (at gap n : ℕ) → A → List A
closed old at gap n zero = take at old ++ (take n (drop (at + gap) old) ++ replicate gap zero ++ drop (at + gap + n) old)
