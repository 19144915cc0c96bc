-- The laws of the leaf readers, each with the code's own tests for premises.
use mathlib.Core.Path.{◌≡◌, refl, sym, ◌∙◌, ap}
use mathlib.Core.Bool.{Bool, true, false, true≢false}
use mathlib.Core.List.{List}
use Prim.Native.Nat.{ℕ, ◌+◌, ◌-◌, ◌≤◌, ◌<◌, zero-le}
use native.Mathlib.Omega.{arith}
use native.Mathlib.Numerals.{add-one}
use native.Mathlib.Decide.{dec_lt}
use lib.ListN.{length, drop_of_length-le, get_or-eq_default}
use lib.Seq.{drop-cons}
use lib.Dec.{eqb}
use borrow.Author.Tests.{eq-eqb, ne_eqb}
use Rattle.paper.specs.Byte.{when◌then◌else◌, between}
use Rattle.paper.specs.Line.{Got, got, bad, Reader, followed, give, one, is_digit, digit, comma, byte}
use Rattle.paper.specs.Read.{or_else}
use Rattle.paper.proofs.Part.{or_else_got, or_else_bad}
use Rattle.text.specs.Place.{byte_at, from, said_by, said, place_after, Says, with_comma}
use Rattle.std.specs.Prelude.{Option, Some, None}
use Rattle.text.specs.declared.read.Parsed.{Parsed}

-- past the end the byte is 0
pub past_end : (s : List ℕ) (at : ℕ) → length s ≤ at → 0 ≡ byte_at s at
unfolding byte_at
past_end s at h = sym (get_or-eq_default s 0 h)

-- a byte that is not 0 stands in the line
pub stands : (s : List ℕ) (at b : ℕ) → b ≡ byte_at s at → 0 < b → at < length s
stands s at b e p = elim (dec_lt at (length s)) [ yes h ↦ h | no h ↦ absurd (omega (arith, past_end s at (omega arith))) ]

-- a byte that fails a test, which the 0 past the end fails too
pub one_fails : (test : ℕ → Bool) (s : List ℕ) (at : ℕ) → test (byte_at s at) ≡ false → one test (from s at) ≡ bad
unfolding one when◌then◌else◌ byte_at from
one_fails test s at e = elim (dec_lt at (length s)) [ yes h ↦ rw (drop-cons s at 0 h, e) | no h ↦ rw (drop_of_length-le s {i = at} (omega arith)) ]

-- a byte in the line that passes the test is read
pub one_passes : (test : ℕ → Bool) (s : List ℕ) (at : ℕ) → test (byte_at s at) ≡ true → at < length s → one test (from s at) ≡ got (byte_at s at) (from s (at + 1))
unfolding one when◌then◌else◌ byte_at from
one_passes test s at e h = rw (drop-cons s at 0 h, e, add-one)

-- nothing was read, and the answer says so
says_bad : (s : List ℕ) (g : Got ℕ) → g ≡ bad → Says s g None
unfolding said_by said place_after
says_bad s g e = record { says = sym e; inside = zero-le }

-- a value was read, and the answer has it with the next place
says_got : (s : List ℕ) (g : Got ℕ) (n next : ℕ) → g ≡ got n (from s next) → next ≤ length s → Says s g (Some (record { value = n; next = next }))
unfolding said_by said place_after
says_got s g n next e h = record { says = sym e; inside = h }

-- a byte that fails a test: nothing is read
pub one_none : (test : ℕ → Bool) (s : List ℕ) (at b : ℕ) → b ≡ byte_at s at → test b ≡ false → Says s (one test (from s at)) None
one_none test s at b e h = says_bad s _ (one_fails test s at (ap test (sym e) ∙ h))

-- a byte that passes a test, which the 0 past the end fails, stands in the line
pub one_stands : (test : ℕ → Bool) (s : List ℕ) (at b : ℕ) → b ≡ byte_at s at → test 0 ≡ false → test b ≡ true → at < length s
one_stands test s at b e z h =
    elim (dec_lt at (length s)) [
      | yes k ↦ k
      | no k ↦ absurd (true≢false (sym h ∙ ap test (e ∙ sym (past_end s at (omega arith))) ∙ z))
    ]

-- and it is read
pub one_some : (test : ℕ → Bool) (s : List ℕ) (at b : ℕ) → b ≡ byte_at s at → test 0 ≡ false → test b ≡ true → Says s (one test (from s at)) (Some (record { value = b; next = at + 1 }))
one_some test s at b e z h =
    let there = one_stands test s at b e z h in
    says_got s _ b (at + 1) (one_passes test s at (ap test (sym e) ∙ h) there ∙ ap (λ c. got c (from s (at + 1))) (sym e)) (omega arith)

-- one part after another: the first is not there
pub followed_fails : (s : List ℕ) (g : Got ℕ) (f : ℕ → Reader ℕ) (a : Option (Parsed ℕ)) → Says s g a → a ≡ None → Says s (followed g f) None
unfolding said_by said place_after followed
followed_fails s g f a h e = record { says = rw (← h.says, e); inside = zero-le }

-- the first is there, and the rest is read behind it
pub followed_goes : (s : List ℕ) (g : Got ℕ) (f : ℕ → Reader ℕ) (a r : Option (Parsed ℕ)) (p : Parsed ℕ) → Says s g a → a ≡ Some p → Says s (f p.value (from s p.next)) r → Says s (followed g f) r
unfolding said_by said place_after followed
followed_goes s g f a r p h e k = record { says = k.says ∙ rw (← h.says, e); inside = k.inside }

-- a value for which nothing is read
pub give_says : (s : List ℕ) (n m next : ℕ) → next ≤ length s → m ≡ n → Says s (give n (from s next)) (Some (record { value = m; next = next }))
unfolding said_by said place_after give
give_says s n m next h e = record { says = rw e; inside = h }

-- the place behind what was read is in the line, or is its end
pub said_inside : (s : List ℕ) (g : Got ℕ) (a : Option (Parsed ℕ)) (p : Parsed ℕ) → Says s g a → a ≡ Some p → p.next ≤ length s
unfolding place_after
said_inside s g a p h e = rw e at h.inside

-- the same where the first part is known outright
pub followed_bad : (s : List ℕ) (g : Got ℕ) (f : ℕ → Reader ℕ) → Says s g None → Says s (followed g f) None
followed_bad s g f h = followed_fails s g f None h refl

-- a digit, as its value
pub digit_says : (s : List ℕ) (at b : ℕ) → b ≡ byte_at s at → is_digit b ≡ true → Says s (digit (from s at)) (Some (record { value = b - 48; next = at + 1 }))
unfolding digit
digit_says s at b e h =
    let here = one_some is_digit s at b e (unfold is_digit between in refl) h in
    followed_goes s _ (λ c. give (c - 48)) _ _ _ here refl (give_says s (b - 48) (b - 48) (at + 1) (said_inside s _ _ _ here refl) refl)

-- the comma behind a part: there is no part
pub comma_none : (s : List ℕ) (part : Option (Parsed ℕ)) → part ≡ None → Says s (with_comma (said s part)) None
unfolding with_comma said_by said place_after followed
comma_none s part e = record { says = rw e; inside = zero-le }

-- there is a part and no comma behind it
pub comma_lacks : (s : List ℕ) (part : Option (Parsed ℕ)) (p : Parsed ℕ) (b : ℕ) → part ≡ Some p → b ≡ byte_at s p.next → (b ≡ 44 → ⊥) → Says s (with_comma (said s part)) None
unfolding with_comma said_by said place_after followed comma byte
comma_lacks s part p b t e h =
    says_bad s _ (rw (t, one_fails (λ c. eqb c 44) s p.next (ne_eqb (byte_at s p.next) 44 λ q. h (e ∙ q))))

-- there are both
pub comma_stands : (s : List ℕ) (part : Option (Parsed ℕ)) (p : Parsed ℕ) (b : ℕ) → part ≡ Some p → b ≡ byte_at s p.next → b ≡ 44 → Says s (with_comma (said s part)) (Some (record { value = p.value; next = p.next + 1 }))
unfolding with_comma said_by said place_after followed comma byte give
comma_stands s part p b t e h =
    let there : p.next < length s = stands s p.next b e (omega arith) in
    says_got s _ p.value (p.next + 1)
    (rw (t, one_passes (λ c. eqb c 44) s p.next (eq-eqb (byte_at s p.next) 44 (sym e ∙ h)) there))
    (omega arith)

-- of two readers the first finds something
pub else_first : (u v : Reader ℕ) (s x : List ℕ) (a : Option (Parsed ℕ)) (p : Parsed ℕ) → Says s (u x) a → a ≡ Some p → Says s (or_else u v x) (Some p)
unfolding said_by said place_after or_else
else_first u v s x a p h e =
    let first : u x ≡ got p.value (from s p.next) = sym h.says ∙ rw e in
    says_got s _ p.value p.next (or_else_got u v x p.value (from s p.next) first) (rw e at h.inside)

-- the first finds nothing, and the second is asked
pub else_second : (p q : Reader ℕ) (s x : List ℕ) (a r : Option (Parsed ℕ)) → Says s (p x) a → a ≡ None → Says s (q x) r → Says s (or_else p q x) r
unfolding said_by said place_after
else_second p q s x a r h e k =
    let first : p x ≡ bad = sym h.says ∙ rw e in
    record { says = k.says ∙ sym (or_else_bad p q x first); inside = k.inside }

pub ruleset reading = (followed_fails, followed_goes, give_says, said_inside, one_none, one_some, followed_bad, digit_says, else_first, else_second)
