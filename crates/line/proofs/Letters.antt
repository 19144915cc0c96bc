-- The leading letters of a line: the row of the paper's table that they lead to is the one of their kind.
-- A byte is decided against each letter in turn; where it is one, both sides compute alike, and where it is none, every test fails.
use Prim.Native.Nat.{ℕ, ◌<◌}
use mathlib.Core.Path.{◌≡◌, refl}
use mathlib.Core.Bool.{Bool, true, false, false≢true}
use mathlib.Core.List.{List, [], ◌∷◌}
use native.Mathlib.Omega.{arith}
use native.Mathlib.Decide.{ℕ_discrete}
use lib.ListN.{length}
use lib.Dec.{eqb}
use borrow.Author.Tests.{ne_eqb, eqb-true}
use Rattle.paper.specs.Byte.{bytes, when◌then◌else◌, any, among}
use Rattle.paper.specs.Line.{bad, followed, give, one, byte}
use Rattle.paper.specs.Read.{Row, row, table, these, strange, by_row, shape}
use Rattle.text.specs.Place.{byte_at, from}
use Rattle.line.specs.Kind.{bar_kind, filing_kind, kind_of, shape_by}
use Rattle.line.specs.declared.kind.Kind.TheVariants.{Unknown}

-- a byte that is none of some letters, as a `match` tells it: the last letter outermost
abbrev pub Differs : ℕ → List ℕ → Type 0
Differs a [] = Unit
Differs a (k ∷ ks) = Differs a ks × (a ≡ k → ⊥)

-- a property of each of some letters
abbrev pub Each : (ℕ → Type 0) → List ℕ → Type 0
Each K [] = Unit
Each K (k ∷ ks) = K k × Each K ks

-- a property of a byte, from that of each letter and from its being none of them
pub by_letter : (K : ℕ → Type 0) (ks : List ℕ) (a : ℕ) → Each K ks → (Differs a ks → K a) → K a
by_letter K [] a each none = none tt
by_letter K (k ∷ ks) a each none =
    elim (ℕ_discrete a k) [ yes e ↦ rw e each.0 | no h ↦ by_letter K ks a each.1 λ d. none (d, h) ]

-- a byte that is none of some letters fails the test against each
misses : (a : ℕ) (ks : List ℕ) → Differs a ks → (k : ℕ) → among ks k ≡ true → eqb a k ≡ false
unfolding among any
misses a [] d k e = absurd (false≢true e)
misses a (c ∷ ks) d k e = go (eqb k c) refl (misses a ks d.0 k)
  where
    go : (t : Bool) → eqb k c ≡ t → (among ks k ≡ true → eqb a k ≡ false) → eqb a k ≡ false
    go true q ih = rw (eqb-true k c q) (ne_eqb a c d.1)
    go false q ih = ih (rw q at e)

-- the second letters of the bars, the last first
abbrev pub pens : List ℕ
pens = 87 ∷ 69 ∷ 79 ∷ []

-- those of the lines to the store
abbrev pub filings : List ℕ
filings = 75 ∷ 82 ∷ 83 ∷ 73 ∷ 69 ∷ []

-- the first letters of all lines
abbrev pub letters : List ℕ
letters = 70 ∷ 76 ∷ 80 ∷ 86 ∷ 67 ∷ 88 ∷ 65 ∷ 90 ∷ 81 ∷ 63 ∷ 78 ∷ []

-- the code's answer behind `L` for any other byte: no kind
pub bar_none : (a b : ℕ) → a ≡ 76 → Differs b pens → Unknown ≡ kind_of a b
unfolding kind_of bar_kind when◌then◌else◌ among any
bar_none a b e d = rw e (simp (misses b pens d))

-- behind `F`
pub filing_none : (a b : ℕ) → a ≡ 70 → Differs b filings → Unknown ≡ kind_of a b
unfolding kind_of filing_kind when◌then◌else◌ among any
filing_none a b e d = rw e (simp (misses b filings d))

-- and first
pub letter_none : (a b : ℕ) → Differs a letters → Unknown ≡ kind_of a b
unfolding kind_of when◌then◌else◌ among any
letter_none a b d = simp (misses a letters d)

-- a row whose letters the line lacks is passed over
skips : (r : Row) (rs : List Row) (s : List ℕ) → these (bytes r.letters) s ≡ bad → by_row (r ∷ rs) s ≡ by_row rs s
unfolding by_row
skips r rs s e = rw (e, by_row)

-- past the last row a line is strange
runs_out : (s : List ℕ) → by_row [] s ≡ strange
unfolding by_row
runs_out s = refl

-- no row has another byte behind `L`
pub bar_strange : (b : ℕ) (t : List ℕ) → Differs b pens → by_row table (76 ∷ b ∷ t) ≡ strange
unfolding table row these byte one followed give bytes when◌then◌else◌ among any
bar_strange b t d = simp (skips, runs_out, misses b pens d)

-- nor behind `F`
pub filing_strange : (b : ℕ) (t : List ℕ) → Differs b filings → by_row table (70 ∷ b ∷ t) ≡ strange
unfolding table row these byte one followed give bytes when◌then◌else◌ among any
filing_strange b t d = simp (skips, runs_out, misses b filings d)

-- nor first
pub letter_strange : (a : ℕ) (t : List ℕ) → Differs a letters → by_row table (a ∷ t) ≡ strange
unfolding table row these byte one followed give bytes when◌then◌else◌ among any
letter_strange a t d = simp (skips, runs_out, misses a letters d)

-- a line and the kind that its first two bytes tell have the same shape
abbrev Alike : List ℕ → Type 0
Alike s = shape s ≡ shape_by s (kind_of (byte_at s 0) (byte_at s 1))

-- a line that starts with `L`
bar_alike : (t : List ℕ) → Alike (76 ∷ t)
unfolding shape by_row table row these byte one followed give bytes when◌then◌else◌ shape_by kind_of bar_kind byte_at from
bar_alike [] = refl
bar_alike (b ∷ t) =
    by_letter (λ (b : ℕ). Alike (76 ∷ b ∷ t)) pens b (refl, (refl, (refl, tt)))
    λ d. rw (← bar_none 76 b refl d) (bar_strange b t d)

-- one that starts with `F`
filing_alike : (t : List ℕ) → Alike (70 ∷ t)
unfolding shape by_row table row these byte one followed give bytes when◌then◌else◌ shape_by kind_of filing_kind byte_at from
filing_alike [] = refl
filing_alike (b ∷ t) =
    by_letter (λ (b : ℕ). Alike (70 ∷ b ∷ t)) filings b (refl, (refl, (refl, (refl, (refl, tt)))))
    λ d. rw (← filing_none 70 b refl d) (filing_strange b t d)

-- the row that a line's letters lead to is the one of its kind
pub by_kind : (s : List ℕ) → 0 < length s → shape s ≡ shape_by s (kind_of (byte_at s 0) (byte_at s 1))
unfolding shape by_row table row these byte one followed give bytes when◌then◌else◌ shape_by kind_of byte_at from
by_kind [] h = absurd (omega arith)
by_kind (a ∷ t) h =
    by_letter (λ (a : ℕ). Alike (a ∷ t)) letters a
    (filing_alike t, (bar_alike t, (refl, (refl, (refl, (refl, (refl, (refl, (refl, (refl, (refl, tt)))))))))))
    λ d. rw (← letter_none a _ d) (letter_strange a t d)
