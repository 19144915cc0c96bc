-- Strings written between quotes are read back: escaping is undone byte by byte, and adds at most one byte for each.
use Prim.Native.Nat.{ℕ, suc, ◌+◌, ◌*◌, ◌≤◌}
use mathlib.Core.Path.{◌≡◌, refl}
use mathlib.Core.Bool.{Bool, true, false, ◌||◌}
use mathlib.Core.List.{List, [], ◌∷◌, ◌++◌}
use native.Mathlib.Omega.{arith}
use lib.ListN.{length, length-append}
use lib.Dec.{eqb}
use Rattle.paper.specs.Byte.{when◌then◌else◌, every}
use Rattle.paper.specs.Line.{Got, got, followed, give, one, byte, quote, backslash, within, plain, escaped, string, escape, quoted}
use Rattle.paper.proofs.Law.{and_left, and_right, by_test}
use Rattle.paper.proofs.Text.{every_append, clear}

-- the plain mood's choice by its two tests, laid open
pub plain_cons : (b : ℕ) (s : List ℕ)
    → plain (b ∷ s)
    ≡ elim (eqb b quote) as (λ _. Got (List ℕ)) [ true ↦ got [] s | false ↦ elim (eqb b backslash) as (λ _. Got (List ℕ)) [ true ↦ escaped s | false ↦ within b (plain s) ] ]
unfolding plain escaped
plain_cons b s = refl

-- the escaped content up to the closing quote is read as the content
plain_escape : (s r : List ℕ) → plain ((escape s ++ (quote ∷ [])) ++ r) ≡ got s r
unfolding plain escaped escape when◌then◌else◌ within followed give
plain_escape [] r = refl
plain_escape (b ∷ s) r = go (eqb b quote) (eqb b backslash) refl refl (plain_escape s r)
  where
    go : (q k : Bool) → eqb b quote ≡ q → eqb b backslash ≡ k → plain ((escape s ++ (quote ∷ [])) ++ r) ≡ got s r
        → plain ((escape (b ∷ s) ++ (quote ∷ [])) ++ r) ≡ got (b ∷ s) r
    go true k p q ih = rw (p, escape, when◌then◌else◌, ih)
    go false true p q ih = rw (p, q, ih)
    go false false p q ih = rw (p, q, escape, when◌then◌else◌, plain_cons b, p, q, ih)

-- a string between quotes is read back, whatever stands behind it
pub string_quoted : (s r : List ℕ) → string (quoted s ++ r) ≡ got s r
unfolding string quoted byte one followed when◌then◌else◌
string_quoted s r = plain_escape s r

-- escaping leaves no byte out and puts at most one before each
escape_length : (s : List ℕ) → length (escape s) ≤ 2 * length s
unfolding escape
escape_length [] = omega arith
escape_length (b ∷ s) =
    by_test (λ t. length t ≤ 2 * suc (length s)) (eqb b quote || eqb b backslash) (backslash ∷ b ∷ escape s) (b ∷ escape s)
    (λ _. omega (arith, escape_length s)) (λ _. omega (arith, escape_length s))

-- a string between quotes has at most two bytes for each of its own and two quotes
pub quoted_length : (s : List ℕ) → length (quoted s) ≤ 2 * length s + 2
unfolding quoted
quoted_length s = rw length-append (omega (arith, escape_length s))

escape_clear : (s : List ℕ) → every clear s ≡ true → every clear (escape s) ≡ true
unfolding escape every
escape_clear [] e = refl
escape_clear (b ∷ s) e =
    let rest : every clear (escape s) ≡ true = escape_clear s (and_right (clear b) (every clear s) e) in
    by_test (λ t. every clear t ≡ true) (eqb b quote || eqb b backslash) (backslash ∷ b ∷ escape s) (b ∷ escape s)
    (λ _. rw (and_left (clear b) (every clear s) e, rest)) (λ _. rw (and_left (clear b) (every clear s) e, rest))

-- every byte of a string between quotes is 20H or more if its content's are, so that none is a control byte
pub quoted_clear : (s : List ℕ) → every clear s ≡ true → every clear (quoted s) ≡ true
unfolding quoted every
quoted_clear s e = rw (every_append clear, escape_clear s e)
