-- Of an input line of a class its first 263 bytes tell all that the class says of it: six for the longest name of a tablet with its
-- space, and the 257 that tell all of a tablet's line. So no more of a line need be kept while it comes in.
-- What is read from the front of a line is what is read from all of it, with the front of what is left.
use Prim.Native.Nat.{ℕ, zero, suc, ◌+◌, ◌-◌, ◌*◌, ◌≤◌, ◌<◌}
use mathlib.Core.Path.{◌≡◌, refl, sym, ◌∙◌, ap}
use mathlib.Core.Bool.{Bool, true, false}
use mathlib.Core.List.{List, [], ◌∷◌}
use native.Mathlib.Nat.{add-suc}
use native.Mathlib.Omega.{arith}
use native.Mathlib.Decide.{dec_lt}
use lib.Dec.{eqb}
use lib.ListN.{length, take, length-take}
use lib.Seq.{take-nil, take_all, take-take}
use Rattle.paper.specs.Byte.{bytes, when◌then◌else◌, every}
use Rattle.paper.specs.Line.{Got, got, bad, Reader, followed, give, ended, one, byte, is_digit, digit, more_digits, number, kept}
use Rattle.paper.specs.Read.{these}
use Rattle.paper.specs.Program.{enough}
use Rattle.paper.specs.Class.{Class, hear_from, Request, sends, fetches, reply_to}
use Rattle.paper.specs.ClassProgram.{remaining, tablet_line, room_of, take_line, call_in, asked_in, reply_for}
use Rattle.paper.proofs.Law.{and_right}
use Rattle.paper.proofs.Part.{or_else_bad}
use Rattle.paper.proofs.Dropped.{stays, kept_stays, stays_take}
use Rattle.paper.proofs.Long.{line_first}

-- a property of what digits read from all of a line and from its front
more_front : (K : Got ℕ → Got ℕ → Type 0) (k n m : ℕ) (s : List ℕ) → every stays s ≡ true
    → ((v q : ℕ) (rest : List ℕ) → every stays rest ≡ true → K (got v rest) (got v (take (m + q) rest))) → K (more_digits k n s) (more_digits k n (take (m + k) s))
unfolding more_digits every
more_front K zero n m s e f = f n zero s e
more_front K (suc k) n m [] e f = let h = f n zero [] e in rw (take-nil (m + suc k)) (rw (take-nil (m + 0)) at h)
more_front K (suc k) n m (b ∷ s) e f = go (is_digit b) refl (more_front K k (n * 10 + (b - 48)) m s (and_right (stays b) (every stays s) e) f)
  where
    go : (t : Bool) → is_digit b ≡ t → K (more_digits k (n * 10 + (b - 48)) s) (more_digits k (n * 10 + (b - 48)) (take (m + k) s)) → K (more_digits (suc k) n (b ∷ s)) (more_digits (suc k) n (take (m + suc k) (b ∷ s)))
    go true q ih = rw (add-suc m k, q, more_digits) ih
    go false q ih = let h = f n (suc k) (b ∷ s) e in rw (add-suc m k, q, more_digits) (rw (add-suc m k) at h)

-- of a number
number_front : (K : Got ℕ → Got ℕ → Type 0) (m : ℕ) (s : List ℕ) → every stays s ≡ true → K bad bad
    → ((v q : ℕ) (rest : List ℕ) → every stays rest ≡ true → K (got v rest) (got v (take (m + q) rest))) → K (number s) (number (take (m + 5) s))
unfolding number digit one followed give when◌then◌else◌ every
number_front K m [] e z f = rw (take-nil (m + 5)) z
number_front K m (b ∷ s) e z f = go (is_digit b) refl
  where
    go : (t : Bool) → is_digit b ≡ t → K (number (b ∷ s)) (number (take (m + 5) (b ∷ s)))
    go true q = rw (add-suc m 4, q) (more_front K 4 (b - 48) m s (and_right (stays b) (every stays s) e) f)
    go false q = rw (add-suc m 4, q) z

-- of a tablet's line
tablet_front : (K : Got Request → Got Request → Type 0) (m : ℕ) (s : List ℕ) → every stays s ≡ true → K bad bad
    → ((t q : ℕ) (line : List ℕ) → every stays line ≡ true → K (got (sends t enough line) []) (got (sends t enough (take (m + q) line)) []))
    → K (tablet_line s) (tablet_line (take (m + 6) s))
unfolding tablet_line followed byte one remaining give when◌then◌else◌ every
tablet_front K m s e z f =
    let six : m + 6 ≡ m + 1 + 5 = omega arith in
    rw six (number_front (λ g h. K (followed g tail) (followed h tail)) (m + 1) s e z behind)
  where
    tail : ℕ → Reader Request
    tail t x = followed (byte 32 x) (λ _ y. followed (remaining y) (λ z. give (sends t enough z)))

    behind : (v q : ℕ) (rest : List ℕ) → every stays rest ≡ true → K (tail v rest) (tail v (take (m + 1 + q) rest))
    behind v q [] k = rw (take-nil (m + 1 + q)) z
    behind v q (c ∷ line) k = go (eqb c 32) refl
      where
        one_more : m + 1 + q ≡ suc (m + q)
        one_more = omega arith

        go : (t : Bool) → eqb c 32 ≡ t → K (tail v (c ∷ line)) (tail v (take (m + 1 + q) (c ∷ line)))
        go true h = rw (one_more, h) (f v q line (and_right (stays c) (every stays line) k))
        go false h = rw (one_more, h) z

-- a tablet's line is heard by its front of 257 bytes or more
from_front : (width room j : ℕ) (c : Class) (t : ℕ) (s : List ℕ) → every stays s ≡ true → 257 ≤ j → hear_from width room c t (take j s) ≡ hear_from width room c t s
from_front width room j c t s e h =
    let part : take 257 (kept (take j s)) ≡ take 257 (kept s) = rw (kept_stays (take j s) (stays_take j s e), kept_stays s e) (take-take 257 j s h) in
    sym (line_first width room c t (take j s)) ∙ ap (hear_from width room c t) part ∙ line_first width room c t s

-- two parts, of which the second is never there behind the first
never : {A B : Type 0} (g : Got A) (f : A → Reader B) → ((a : A) (r : List ℕ) → g ≡ got a r → f a r ≡ bad) → followed g f ≡ bad
unfolding followed
never (got a r) f h = h a r refl
never bad f h = refl

-- how many bytes a part takes away
byte_takes : (b : ℕ) (x : List ℕ) (n : ℕ) (r : List ℕ) → byte b x ≡ got n r → length x ≡ suc (length r)
unfolding byte one when◌then◌else◌
byte_takes b [] n r e = let z : ◌≡◌ {A = ℕ} 0 1 = cc in absurd (omega arith)
byte_takes b (c ∷ x) n r e = go (eqb c b) refl e
  where
    go : (t : Bool) → eqb c b ≡ t → (when t then got c x else bad) ≡ got n r → length (c ∷ x) ≡ suc (length r)
    go true q p = let same : x ≡ r = cc in rw same
    go false q p = let z : ◌≡◌ {A = ℕ} 0 1 = cc in absurd (omega arith)

more_takes : (k n : ℕ) (x : List ℕ) (m : ℕ) (r : List ℕ) → more_digits k n x ≡ got m r → length x ≤ length r + k
unfolding more_digits
more_takes zero n x m r e = let same : x ≡ r = cc in rw same (omega arith)
more_takes (suc k) n [] m r e = omega arith
more_takes (suc k) n (b ∷ x) m r e = go (is_digit b) refl (more_takes k (n * 10 + (b - 48)) x m r) e
  where
    go : (t : Bool) → is_digit b ≡ t → (more_digits k (n * 10 + (b - 48)) x ≡ got m r → length x ≤ length r + k)
        → elim t as (λ _. Got ℕ) [ true ↦ more_digits k (n * 10 + (b - 48)) x | false ↦ got n (b ∷ x) ] ≡ got m r → length (b ∷ x) ≤ length r + suc k
    go true q ih p = omega (arith, ih p)
    go false q ih p = let same : b ∷ x ≡ r = cc in omega (arith, ap length same)

number_takes : (x : List ℕ) (m : ℕ) (r : List ℕ) → number x ≡ got m r → length x ≤ length r + 5
unfolding number digit one followed give when◌then◌else◌
number_takes [] m r e = omega arith
number_takes (b ∷ x) m r e = go (is_digit b) refl e
  where
    go : (t : Bool) → is_digit b ≡ t → followed (followed (when t then got b x else bad) (λ c. give (c - 48))) (more_digits 4) ≡ got m r → length (b ∷ x) ≤ length r + 5
    go true q p = omega (arith, more_takes 4 (b - 48) x m r p)
    go false q p = let z : ◌≡◌ {A = ℕ} 0 1 = cc in absurd (omega arith)

word_takes : (w s : List ℕ) (n : ℕ) (r : List ℕ) → these w s ≡ got n r → length s ≡ length w + length r
unfolding these give followed
word_takes [] s n r e = let same : s ≡ r = cc in rw same (omega arith)
word_takes (b ∷ w) s n r e = go (byte b s) refl (λ x. word_takes w x n r) e
  where
    go : (g : Got ℕ) → byte b s ≡ g → ((x : List ℕ) → these w x ≡ got n r → length x ≡ length w + length r) → followed g (λ _. these w) ≡ got n r → length s ≡ length (b ∷ w) + length r
    go (got c x) q ih p = omega (arith, byte_takes b s c x q, ih x p)
    go bad q ih p = let z : ◌≡◌ {A = ℕ} 0 1 = cc in absurd (omega arith)

-- a line of more than ten bytes is no take
ended_never : (q : Request) (r : List ℕ) → 0 < length r → ended q r ≡ bad
unfolding ended
ended_never q [] h = absurd (omega arith)
ended_never q (b ∷ r) h = refl

take_never : (s : List ℕ) → 10 < length s → take_line s ≡ bad
unfolding take_line room_of bytes
take_never s h =
    never (these (bytes "take") s) _ λ n r e.
    let most : 6 < length r = omega (arith, word_takes (bytes "take") s n r e) in
    or_else_bad _ _ r (ended_never (fetches enough) r (omega arith))
    ∙ never (byte 32 r) _ λ _ x p.
    never (number x) _ λ room y q. ended_never (fetches room) y (omega (arith, byte_takes 32 r _ x p, number_takes x room y q))

-- the first 263 bytes of an input line lead to what the line leads to
pub call_first : (width : ℕ) (c : Class) (s : List ℕ) → every stays s ≡ true → reply_for width c (asked_in (take 263 s)) ≡ reply_for width c (asked_in s)
unfolding asked_in call_in reply_for reply_to
call_first width c s e =
    elim (dec_lt 263 (length s)) [ yes h ↦ long_line h | no h ↦ rw (take_all 263 s (omega arith)) ]
  where
    long_line : 263 < length s → reply_for width c (asked_in (take 263 s)) ≡ reply_for width c (asked_in s)
    long_line h =
        let all : take_line s ≡ bad = take_never s (omega arith) in
        let part : take_line (take 263 s) ≡ bad = take_never (take 263 s) (omega (arith, length-take 263 s)) in
        rw (or_else_bad take_line tablet_line s all, or_else_bad take_line tablet_line (take 263 s) part)
        (tablet_front (λ g h. reply_for width c (call_in h) ≡ reply_for width c (call_in g)) 257 s e refl
        (λ t q line k. from_front width enough (257 + q) c t line k (omega arith)))
