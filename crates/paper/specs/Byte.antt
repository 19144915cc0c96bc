-- Bytes: the few words that every chapter of the paper uses. A byte is a number below 256; text is a list of bytes.
use Rattle.std.specs.Prelude.{ℕ, zero, suc, ◌+◌, ◌-◌, ◌*◌, ◌/◌, ◌%◌, ◌^◌, ◌≤◌, ◌<◌, Bool, true, false, ◌||◌, ◌&&◌, not, List, [], ◌∷◌, ◌++◌, map, length, drop, replicate, take, ltb, eqb, leb, ◌≡◌}
pub use Prim.Native.Char.{code}
pub use Prim.Native.String.{String}
pub use Rattle.std.proofs.Math.Option.{Option, none, some}
use Prim.Native.String as Str

-- a text in quotes, as its bytes
unfoldable pub bytes : String → List ℕ
bytes Str.[] = []
bytes (Str.◌∷◌ c s) = code c ∷ bytes s

infix 5 when◌then◌else◌
-- one of two, by a test
unfoldable pub when◌then◌else◌ {ℓ} : {A : Type ℓ} → Bool → A → A → A
when true then a else b = a
when false then a else b = b

-- a byte between two others, both included
unfoldable pub between : ℕ → ℕ → ℕ → Bool
between lo hi b = leb lo b && leb b hi

-- every byte of a text passes a test
unfoldable pub every : (ℕ → Bool) → List ℕ → Bool
every test [] = true
every test (b ∷ s) = test b && every test s

-- some byte of a text passes a test
unfoldable pub any : (ℕ → Bool) → List ℕ → Bool
any test [] = false
any test (b ∷ s) = test b || any test s

-- a byte is one of a text's
unfoldable pub among : List ℕ → ℕ → Bool
among s b = any (λ c. eqb b c) s

-- two texts have the same bytes
unfoldable pub same : List ℕ → List ℕ → Bool
same [] [] = true
same [] (c ∷ t) = false
same (b ∷ s) [] = false
same (b ∷ s) (c ∷ t) = eqb b c && same s t

-- the last digits of a number in decimal, at most one more than the first argument says, without leading zeros
unfoldable pub decimal_within : ℕ → ℕ → List ℕ
decimal_within zero n = (code "0" + n % 10) ∷ []
decimal_within (suc k) n =
    elim (ltb n 10) [ true ↦ (code "0" + n) ∷ [] | false ↦ decimal_within k (n / 10) ++ ((code "0" + n % 10) ∷ []) ]

-- a number in decimal, without leading zeros: no number has more digits than its value and one
unfoldable pub decimal : ℕ → List ℕ
decimal n = decimal_within n n
