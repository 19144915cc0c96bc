-- Strings between quotes: what each byte does in the two moods, read at its place, where a run of plain bytes ends, and where a
-- string that was read closes.
-- What is left behind a string is an end of the line, so that its length tells the place of the closing quote.
use mathlib.Core.Path.{◌≡◌, refl, sym, ◌∙◌, ap}
use mathlib.Core.Bool.{Bool, true, false, ◌||◌}
use mathlib.Core.Logic.{◌⊎◌, inl, inr}
use mathlib.Core.List.{List, [], ◌∷◌}
use Prim.Native.Nat.{ℕ, suc, ◌+◌, ◌-◌, ◌≤◌, ◌<◌, max}
use native.Mathlib.Nat.{zero-add, add-zero}
use native.Mathlib.Omega.{arith}
use native.Mathlib.Numerals.{add-one}
use lib.ListN.{length, drop, get_or, length-drop, drop_of_length-le}
use lib.Seq.{drop-cons, drop-drop}
use lib.Dec.{eqb}
use native.Mathlib.Decide.{ℕ_discrete, dec_lt}
use borrow.Author.Tests.{eqb-true, eq-eqb, ne_eqb}
use Rattle.paper.specs.Byte.{when◌then◌else◌}
use Rattle.paper.specs.Line.{Got, got, bad, followed, give, byte, quote, backslash, within, plain, escaped, string}
use Rattle.text.proofs.Place.{stands, one_fails, one_passes}
use Rattle.text.specs.Place.{byte_at, from, run, run_end, closing, quoted_at, content_of, text_at, Closes}
use Rattle.std.specs.Prelude.{Option, Some, None}
use Rattle.text.specs.declared.read.Closing.{Closing}
use Rattle.text.specs.declared.read.Span.{Span}

-- the plain mood's choice by its two tests, laid open
plain_cons : (b : ℕ) (x : List ℕ) → plain (b ∷ x) ≡ elim (eqb b quote) as (λ _. Got (List ℕ)) [ true ↦ got [] x | false ↦ elim (eqb b backslash) as (λ _. Got (List ℕ)) [ true ↦ escaped x | false ↦ within b (plain x) ] ]
unfolding plain escaped
plain_cons b x = refl

-- the bytes from a place within the line: the byte there and those from the next place
pub from_cons : (s : List ℕ) (at : ℕ) → at < length s → from s at ≡ get_or s at 0 ∷ from s (at + 1)
unfolding from
from_cons s at h = rw (add-one, drop-cons s at 0)

-- past the end no string closes in the plain mood
plain_none : (s : List ℕ) (at : ℕ) → length s ≤ at → plain (from s at) ≡ bad
unfolding from plain escaped
plain_none s at h = rw (drop_of_length-le s {i = at} h)

-- nor behind a backslash
escaped_none : (s : List ℕ) (at : ℕ) → length s ≤ at → escaped (from s at) ≡ bad
unfolding from plain escaped
escaped_none s at h = rw (drop_of_length-le s {i = at} h)

-- a quote closes the string
pub plain_quote : (s : List ℕ) (at : ℕ) → at < length s → get_or s at 0 ≡ 34 → plain (from s at) ≡ got [] (from s (at + 1))
plain_quote s at h e = rw (from_cons s at h, plain_cons, e)

-- a backslash leaves the plain mood
pub plain_backslash : (s : List ℕ) (at : ℕ) → at < length s → get_or s at 0 ≡ 92 → plain (from s at) ≡ escaped (from s (at + 1))
plain_backslash s at h e = rw (from_cons s at h, plain_cons, e, e)

-- any other byte is one of the content
pub plain_other : (s : List ℕ) (at : ℕ) → at < length s → (get_or s at 0 ≡ 34 → ⊥) → (get_or s at 0 ≡ 92 → ⊥) → plain (from s at) ≡ within (get_or s at 0) (plain (from s (at + 1)))
plain_other s at h q k = rw (from_cons s at h, plain_cons, ne_eqb _ 34 q, ne_eqb _ 92 k)

-- and so is every byte behind a backslash
pub escaped_other : (s : List ℕ) (at : ℕ) → at < length s → escaped (from s at) ≡ within (get_or s at 0) (plain (from s (at + 1)))
unfolding plain escaped
escaped_other s at h = rw (from_cons s at h)

-- a byte of the content counts for one, wherever the string closes
closing_within : (s : List ℕ) (len b : ℕ) (g : Got (List ℕ)) → closing s len (within b g) ≡ closing s (len + 1) g
unfolding closing within followed give
closing_within s len b (got c rest) = let count : len + suc (length c) ≡ len + 1 + length c = omega arith in rw count
closing_within s len b bad = refl

-- past the end the run ends there
run_past : (s : List ℕ) (i end : ℕ) → run_end s i ≡ end → length s ≤ i → i ≡ end
unfolding run_end run from
run_past s i end e h =
    let none : run (from s i) ≡ 0 = rw (drop_of_length-le s {i = i} h) in
    omega arith

-- the code's answer where no byte stopped the run
pub run_over : (s : List ℕ) (at i : ℕ) → run_end s i ≡ run_end s at → (at ≤ length s → i ≤ length s) → length s ≤ i → max at (length s) ≡ run_end s at
run_over s at i e h l =
    elim (dec_lt (length s) at) [
      | yes k ↦ omega (arith, run_past s at _ refl (omega arith))
      | no k ↦ omega (arith, run_past s i _ e l, h (omega arith))
    ]

-- at a quote or a backslash: the run ends
pub run_stops : (s : List ℕ) (i end : ℕ) → run_end s i ≡ end → i < length s → (get_or s i 0 ≡ 34) ⊎ (get_or s i 0 ≡ 92) → i ≡ end
unfolding run_end run when◌then◌else◌
run_stops s i end e h (inl q) = let none : run (from s i) ≡ 0 = rw (from_cons s i h, q) in omega arith
run_stops s i end e h (inr q) = let none : run (from s i) ≡ 0 = rw (from_cons s i h, q) in omega arith

-- at any other byte it goes on
pub run_goes : (s : List ℕ) (i end : ℕ) → run_end s i ≡ end → i < length s → ((get_or s i 0 ≡ 34) ⊎ (get_or s i 0 ≡ 92) → ⊥) → run_end s (i + 1) ≡ end
unfolding run_end run when◌then◌else◌
run_goes s i end e h k =
    let more : run (from s i) ≡ suc (run (from s (i + 1))) = rw (from_cons s i h, run, ne_eqb _ 34 λ q. k (inl q), ne_eqb _ 92 λ q. k (inr q)) in
    omega arith

-- a run is content: a string closes where it closes behind the run, with so many bytes more
run_content : (s : List ℕ) (len : ℕ) (x : List ℕ) → closing s len (plain x) ≡ closing s (len + run x) (plain (drop (run x) x))
unfolding run when◌then◌else◌
run_content s len [] = rw add-zero
run_content s len (b ∷ x) = go (eqb b quote) (eqb b backslash) refl refl (run_content s (len + 1) x)
  where
    go : (q k : Bool) → eqb b quote ≡ q → eqb b backslash ≡ k → closing s (len + 1) (plain x) ≡ closing s (len + 1 + run x) (plain (drop (run x) x)) → closing s len (plain (b ∷ x)) ≡ closing s (len + run (b ∷ x)) (plain (drop (run (b ∷ x)) (b ∷ x)))
    go true k e f h = rw (run, e, add-zero)
    go false true e f h = rw (run, e, f, add-zero)
    go false false e f h =
        let more : len + 1 + run x ≡ len + suc (run x) = omega arith in
        rw (run, e, f, plain_cons, e, f, closing_within) (rw more at h)

-- behind a run stands a quote or a backslash
run_marked : (x : List ℕ) (b : ℕ) (y : List ℕ) → drop (run x) x ≡ b ∷ y → (eqb b quote || eqb b backslash) ≡ true
unfolding run when◌then◌else◌
run_marked [] b y p = let z : ◌≡◌ {A = ℕ} 0 1 = cc in absurd (omega arith)
run_marked (c ∷ x) b y p = go (eqb c quote || eqb c backslash) refl (run_marked x b y) p
  where
    go : (t : Bool) → (eqb c quote || eqb c backslash) ≡ t → (drop (run x) x ≡ b ∷ y → (eqb b quote || eqb b backslash) ≡ true) → drop (run (c ∷ x)) (c ∷ x) ≡ b ∷ y → (eqb b quote || eqb b backslash) ≡ true
    go true e ih p =
        let same : c ∷ x ≡ b ∷ y = rw (run, e) at p in
        let first : c ≡ b = cc in
        rw first at e
    go false e ih p = ih (rw (run, e) at p)

-- where a run ends at no quote it ends at a backslash
pub run_turns : (s : List ℕ) (at end : ℕ) → end ≡ run_end s at → end < length s → (get_or s end 0 ≡ 34 → ⊥) → get_or s end 0 ≡ 92
unfolding run_end from
run_turns s at end e h q =
    let here : drop (run (from s at)) (from s at) ≡ get_or s end 0 ∷ from s (end + 1) = drop-drop (run (from s at)) at s ∙ rw (← e) (from_cons s end h) in
    eqb-true _ 92 (rw (ne_eqb _ 34 q) at (run_marked (from s at) _ _ here))

-- the code's answer in the plain mood past the end: the string stays open
pub plain_open : (s : List ℕ) (at len : ℕ) → length s ≤ at → None ≡ closing s len (plain (from s at))
unfolding closing
plain_open s at len h = rw (plain_none s at h)

-- at a quote: the string closes here
pub plain_shut : (s : List ℕ) (at len : ℕ) → at < length s → get_or s at 0 ≡ 34 → Some (record { end = at; len = len }) ≡ closing s len (plain (from s at))
unfolding closing from
plain_shut s at len h e =
    let end : length s - suc (length (from s (at + 1))) ≡ at = rw (length-drop) (omega arith) in
    let none : len + 0 ≡ len = omega arith in
    rw (plain_quote s at h e, end, none)

-- at a backslash: what the other mood answers from the next place on
pub plain_turns : (s : List ℕ) (at len : ℕ) (r : Option Closing) → at < length s → get_or s at 0 ≡ 92 → r ≡ closing s len (escaped (from s (at + 1))) → r ≡ closing s len (plain (from s at))
plain_turns s at len r h e p = rw (plain_backslash s at h e) p

-- behind a run of other bytes: what the plain mood answers from the run's end on, with its bytes counted
pub plain_run : (s : List ℕ) (at len end : ℕ) (r : Option Closing) → end ≡ run_end s at → r ≡ closing s (len + (end - at)) (plain (from s end)) → r ≡ closing s len (plain (from s at))
unfolding run_end from
plain_run s at len end r e p =
    let size : end - at ≡ run (from s at) = omega arith in
    p ∙ rw (size, e, ← drop-drop) (sym (run_content s len (from s at)))

-- the code's answer behind a backslash past the end: the string stays open
pub escaped_open : (s : List ℕ) (at len : ℕ) → length s ≤ at → None ≡ closing s len (escaped (from s at))
unfolding closing
escaped_open s at len h = rw (escaped_none s at h)

-- at any byte: what the plain mood answers from the next place on, with one byte more
pub escaped_goes : (s : List ℕ) (at len : ℕ) (r : Option Closing) → at < length s → r ≡ closing s (len + 1) (plain (from s (at + 1))) → r ≡ closing s len (escaped (from s at))
escaped_goes s at len r h p = rw (escaped_other s at h, closing_within) p

-- what was read of some bytes, its content and what is left: an end of them, shorter by the content and the closing quote
pub record Ends (x c rest : List ℕ) : Type 0 where
  pub sizes : length c + length rest < length x
  pub tail : rest ≡ drop (length x - length rest) x

-- the same with a byte more in front, which the content may have too
ends_more : (b : ℕ) (x c d rest : List ℕ) → length d ≤ suc (length c) → Ends x c rest → Ends (b ∷ x) d rest
ends_more b x c d rest h e =
    let one_more : suc (length x) - length rest ≡ suc (length x - length rest) = omega arith in
    record { sizes = omega arith; tail = rw one_more e.tail }

-- what a mood leaves of some bytes is such an end
abbrev pub Leaves : (List ℕ → Got (List ℕ)) → List ℕ → Type 0
Leaves mood x = (c rest : List ℕ) → mood x ≡ got c rest → Ends x c rest

-- a byte of the content in front of what the plain mood reads leaves such an end too
leaves_within : (b : ℕ) (x : List ℕ) → Leaves plain x → (c rest : List ℕ) → within b (plain x) ≡ got c rest → Ends (b ∷ x) c rest
unfolding within followed give
leaves_within b x h c rest = go (plain x) refl
  where
    go : (g : Got (List ℕ)) → plain x ≡ g → within b g ≡ got c rest → Ends (b ∷ x) c rest
    go (got t r) p e =
        let left : r ≡ rest = cc in
        let content : b ∷ t ≡ c = cc in
        rw (← content) (ends_more b x t (b ∷ t) rest (omega arith) (h t rest (rw left at p)))
    go bad p e = let z : ◌≡◌ {A = ℕ} 0 1 = cc in absurd (omega arith)

-- both moods leave such an end, by one induction
pub leaves : (x : List ℕ) → Leaves plain x × Leaves escaped x
unfolding plain escaped
leaves [] = (
  λ c rest e. let z : ◌≡◌ {A = ℕ} 0 1 = cc in absurd (omega arith),
  λ c rest e. let z : ◌≡◌ {A = ℕ} 0 1 = cc in absurd (omega arith),
)
leaves (b ∷ x) =
    (λ c rest e. go (eqb b quote) (eqb b backslash) (leaves x) c rest (rw plain_cons at e), leaves_within b x (leaves x).0)
  where
    go : (q k : Bool) → Leaves plain x × Leaves escaped x → (c rest : List ℕ)
        → elim q as (λ _. Got (List ℕ)) [ true ↦ got [] x | false ↦ elim k as (λ _. Got (List ℕ)) [ true ↦ escaped x | false ↦ within b (plain x) ] ] ≡ got c rest → Ends (b ∷ x) c rest
    go true k h c rest e =
        let left : x ≡ rest = cc in
        let content : [] ≡ c = cc in
        let one_left : suc (length x) - length x ≡ 1 = omega arith in
        rw (← left, ← content) (record { sizes = omega arith; tail = rw one_left })
    go false true h c rest e = ends_more b x c c rest (omega arith) (h.1 c rest e)
    go false false h c rest e = leaves_within b x h.0 c rest e

-- how many bytes there are from a place on
pub length_from : (s : List ℕ) (at : ℕ) → length (from s at) ≡ length s - at
unfolding from
length_from s at = length-drop at s

-- such an end of the bytes from a place on is itself the bytes from a place on, which its length tells
end_place : (s : List ℕ) (start : ℕ) (c rest : List ℕ) → Ends (from s start) c rest → rest ≡ from s (length s - suc (length rest) + 1)
unfolding from
end_place s start c rest e =
    let size : length (drop start s) ≡ length s - start = length-drop start s in
    let place : start + (length (drop start s) - length rest) ≡ length s - suc (length rest) + 1 = omega (arith, e.sizes) in
    e.tail ∙ drop-drop (length (drop start s) - length rest) start s ∙ rw place

-- a string that the plain mood closes: its closing quote is in the line, and the length told is its content's
pub closing_at : (s : List ℕ) (start end len : ℕ) (r : Option Closing) → r ≡ closing s 0 (plain (from s start)) → r ≡ Some (record { end = end; len = len }) → Closes s start end × (len ≡ length (text_at s start))
unfolding closing text_at content_of
closing_at s start end len r p e = go (plain (from s start)) refl (sym e ∙ p)
  where
    go : (g : Got (List ℕ)) → plain (from s start) ≡ g → Some (record { end = end; len = len }) ≡ closing s 0 g → Closes s start end × (len ≡ length (text_at s start))
    go (got c rest) q h =
        let ends : Ends (from s start) c rest = (leaves (from s start)).0 c rest q in
        let size : length (from s start) ≡ length s - start = length_from s start in
        let is : ◌≡◌ {A = Closing} (record { end = end; len = len }) (record { end = length s - suc (length rest); len = 0 + length c }) = cc in
        let told : end ≡ length s - suc (length rest) = ap (λ (x : Closing). x.end) is in
        let counted : len ≡ 0 + length c = ap (λ (x : Closing). x.len) is in
        let content : text_at s start ≡ c = ap content_of q in (
          record {
            closes = q ∙ rw (content, told, ← end_place s start c rest ends);
            inside = omega (arith, ends.sizes);
          },
          rw content (omega arith),
        )
    go bad q h = let z : ◌≡◌ {A = ℕ} 0 1 = cc in absurd (omega arith)

-- a string that the plain mood leaves open is none
pub closing_open : (s : List ℕ) (start len : ℕ) (r : Option Closing) → r ≡ closing s len (plain (from s start)) → r ≡ None → plain (from s start) ≡ bad
unfolding closing
closing_open s start len r p e = go (plain (from s start)) (sym e ∙ p)
  where
    go : (g : Got (List ℕ)) → None ≡ closing s len g → g ≡ bad
    go (got c rest) h = let z : ◌≡◌ {A = ℕ} 0 1 = cc in absurd (omega arith)
    go bad h = refl

-- a string opens with a quote, and goes on in the plain mood
string_opens : (s : List ℕ) (at b : ℕ) → b ≡ byte_at s at → b ≡ 34 → string (from s at) ≡ plain (from s (at + 1))
unfolding string byte followed
string_opens s at b e h =
    rw (one_passes (λ c. eqb c 34) s at (eq-eqb (byte_at s at) 34 (sym e ∙ h)) (stands s at b e (omega arith)))

-- where no quote stands there is no string
string_lacks : (s : List ℕ) (at b : ℕ) → b ≡ byte_at s at → (b ≡ 34 → ⊥) → string (from s at) ≡ bad
unfolding string byte followed
string_lacks s at b e h = rw (one_fails (λ c. eqb c 34) s at (ne_eqb (byte_at s at) 34 λ q. h (e ∙ q)))

-- the code's answer where no quote stands: no string
pub string_none : (s : List ℕ) (at b : ℕ) → b ≡ byte_at s at → (b ≡ 34 → ⊥) → None ≡ quoted_at s at (string (from s at))
unfolding quoted_at
string_none s at b e h = rw (string_lacks s at b e h)

-- where the string stays open: none either
pub string_open : (s : List ℕ) (at b : ℕ) (r : Option Closing) → b ≡ byte_at s at → b ≡ 34 → r ≡ closing s 0 (plain (from s (at + 1))) → r ≡ None → None ≡ quoted_at s at (string (from s at))
unfolding quoted_at
string_open s at b r e h p q = rw (string_opens s at b e h, closing_open s (at + 1) 0 r p q)

-- where it closes: its span
pub string_closes : (s : List ℕ) (at b end len : ℕ) (r : Option Closing) → b ≡ byte_at s at → b ≡ 34 → r ≡ closing s 0 (plain (from s (at + 1))) → r ≡ Some (record { end = end; len = len }) → Some (record { start = at + 1; end = end; len = len }) ≡ quoted_at s at (string (from s at))
unfolding quoted_at closing
string_closes s at b end len r e h p q = rw (string_opens s at b e h) (go (plain (from s (at + 1))) (sym q ∙ p))
  where
    go : (g : Got (List ℕ)) → Some (record { end = end; len = len }) ≡ closing s 0 g → Some (record { start = at + 1; end = end; len = len }) ≡ quoted_at s at g
    go (got c rest) t =
        let is : ◌≡◌ {A = Closing} (record { end = end; len = len }) (record { end = length s - suc (length rest); len = 0 + length c }) = cc in
        let told : end ≡ length s - suc (length rest) = ap (λ (x : Closing). x.end) is in
        let counted : len ≡ 0 + length c = ap (λ (x : Closing). x.len) is in
        let count : len ≡ length c = omega arith in
        rw (told, count)
    go bad t = let z : ◌≡◌ {A = ℕ} 0 1 = cc in absurd (omega arith)

-- a string stands at a place, and its span says where its content lies
pub record Stands (s : List ℕ) (at : ℕ) (span : Span) : Type 0 where
  pub reads : string (from s at) ≡ got (text_at s span.start) (from s (span.end + 1))
  pub closes : Closes s span.start span.end
  pub counts : span.len ≡ length (text_at s span.start)
  pub starts : span.start ≡ at + 1

-- a string that was read opened with a quote
string_plain : (s : List ℕ) (at : ℕ) (c rest : List ℕ) → string (from s at) ≡ got c rest → string (from s at) ≡ plain (from s (at + 1))
string_plain s at c rest e = elim (ℕ_discrete (byte_at s at) 34) [ yes h ↦ string_opens s at (byte_at s at) refl h | no h ↦ absurd (never (sym e ∙ string_lacks s at (byte_at s at) refl h)) ]
  where
    never : got c rest ≡ bad → ⊥
    never q = let z : ◌≡◌ {A = ℕ} 0 1 = cc in omega arith

-- what a span that `string_at` answers tells its callers
pub string_held : (s : List ℕ) (at : ℕ) (r : Option Span) (span : Span) → r ≡ quoted_at s at (string (from s at)) → r ≡ Some span → Stands s at span
unfolding quoted_at closing
string_held s at r span p e = go (string (from s at)) refl (sym e ∙ p)
  where
    go : (g : Got (List ℕ)) → string (from s at) ≡ g → Some span ≡ quoted_at s at g → Stands s at span
    go (got c rest) q h =
        let is : span ≡ record { start = at + 1; end = length s - suc (length rest); len = length c } = cc in
        let starts : span.start ≡ at + 1 = ap (λ (x : Span). x.start) is in
        let inner : plain (from s span.start) ≡ got c rest = rw starts (sym (string_plain s at c rest q) ∙ q) in
        let closed = closing_at s span.start span.end span.len (closing s 0 (got c rest)) (rw inner) (rw (is, closing, zero-add)) in
        record { reads = q ∙ sym inner ∙ closed.0.closes; closes = closed.0; counts = closed.1; starts = starts }
    go bad q h = let z : ◌≡◌ {A = ℕ} 0 1 = cc in absurd (omega arith)

-- and what it tells them where it answers none
pub string_missing : (s : List ℕ) (at : ℕ) (r : Option Span) → r ≡ quoted_at s at (string (from s at)) → r ≡ None → string (from s at) ≡ bad
unfolding quoted_at
string_missing s at r p e = go (string (from s at)) (sym e ∙ p)
  where
    go : (g : Got (List ℕ)) → None ≡ quoted_at s at g → g ≡ bad
    go (got c rest) h = let z : ◌≡◌ {A = ℕ} 0 1 = cc in absurd (omega arith)
    go bad h = refl
