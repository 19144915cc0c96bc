-- The laws of the paper's small words: a choice by a test, tests joined, one part of a line after another.
use mathlib.Core.Path.{◌≡◌, refl}
use mathlib.Core.Bool.{Bool, true, false, ◌&&◌, false≢true}
use mathlib.Core.List.{List}
use Prim.Native.Nat.{ℕ}
use Rattle.paper.specs.Byte.{when◌then◌else◌}
use Rattle.paper.specs.Line.{Got, got, bad, Reader, followed}

pub if_true {ℓ} : {A : Type ℓ} (t : Bool) (a b : A) → t ≡ true → (when t then a else b) ≡ a
unfolding when◌then◌else◌
if_true t a b e = rw e

pub if_false {ℓ} : {A : Type ℓ} (t : Bool) (a b : A) → t ≡ false → (when t then a else b) ≡ b
unfolding when◌then◌else◌
if_false t a b e = rw e

-- a property of a choice, from the property of each side under its test
pub by_test {ℓ κ} : {A : Type ℓ} (K : A → Type κ) (t : Bool) (a b : A) → (t ≡ true → K a) → (t ≡ false → K b) → K (when t then a else b)
unfolding when◌then◌else◌
by_test K true a b yes' no' = yes' refl
by_test K false a b yes' no' = no' refl

pub and_left : (a b : Bool) → (a && b) ≡ true → a ≡ true
and_left true b e = refl
and_left false b e = e

pub and_right : (a b : Bool) → (a && b) ≡ true → b ≡ true
and_right true b e = e
and_right false b e = absurd (false≢true e)

pub and_both : (a b : Bool) → a ≡ true → b ≡ true → (a && b) ≡ true
and_both a b p q = rw (p, q)

pub followed_got : {A B : Type 0} (g : Got A) (a : A) (s : List ℕ) (next : A → Reader B) → g ≡ got a s → followed g next ≡ next a s
unfolding followed
followed_got g a s next e = rw e

pub followed_bad : {A B : Type 0} (g : Got A) (next : A → Reader B) → g ≡ bad → followed g next ≡ bad
unfolding followed
followed_bad g next e = rw e
