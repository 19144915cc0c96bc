-- Reading what a line asks: one law for each answer, with the code's own tests for premises.
use Prim.Native.Nat.{ℕ, zero, suc, ◌+◌, ◌-◌, ◌*◌, ◌^◌, ◌≤◌, ◌<◌, zero-le}
use mathlib.Core.Path.{◌≡◌, refl, sym, ◌∙◌, ap}
use mathlib.Core.Bool.{Bool, true, false}
use mathlib.Core.List.{List, [], ◌∷◌, ◌++◌}
use native.Mathlib.Omega.{arith}
use lib.Dec.{eqb, leb}
use lib.ListN.{length, drop_of_length-le}
use lib.Seq.{drop-cons}
use borrow.Author.Tests.{eq-eqb, ne_eqb, eqb-true, leb-true}
use Rattle.paper.specs.Byte.{bytes, when◌then◌else◌, between}
use Rattle.paper.specs.Line.{Got, got, bad, Reader, followed, give, ended, one, byte, is_digit, digit, more_digits, number}
use Rattle.paper.specs.Read.{these}
use Rattle.paper.specs.Program.{enough}
use Rattle.paper.specs.Class.{Request, sends, fetches}
use Rattle.paper.specs.ClassProgram.{remaining, tablet_line, room_of, take_line, call_in, asked_in}
use Rattle.paper.proofs.Law.{and_right, followed_got, followed_bad}
use Rattle.paper.proofs.Part.{or_else_got, or_else_bad}
use Rattle.text.specs.Place.{byte_at, from, said_by, said, place_after, Says}
use Rattle.text.specs.declared.read.Parsed.{Parsed}
use Rattle.text.proofs.Place.{stands, one_fails, one_passes}
use Rattle.text.proofs.Digits.{grows, below}
use Rattle.std.specs.Prelude.{Option, Some, None}
use Rattle.talk.specs.Asked.{valued, said_call, start_of, room_in, Asks, AsksLine}
use Rattle.talk.specs.declared.asked.Asked.{Asked}
use Rattle.talk.specs.declared.asked.Asked.TheVariants.{Line, Take}

-- a space
pub space_stands : (s : List ℕ) (at x : ℕ) → x ≡ byte_at s at → x ≡ 32 → Says s (byte 32 (from s at)) (valued 32 (Some (at + 1)))
unfolding said_by said place_after byte valued
space_stands s at x e h =
    let there : at < length s = stands s at x e (omega arith) in
    let same : byte_at s at ≡ 32 = sym e ∙ h in
    record { says = sym (one_passes (λ c. eqb c 32) s at (eq-eqb (byte_at s at) 32 same) there ∙ ap (λ c. got c (from s (at + 1))) same); inside = omega arith }

-- another byte
pub space_lacks : (s : List ℕ) (at x : ℕ) → x ≡ byte_at s at → (x ≡ 32 → ⊥) → Says s (byte 32 (from s at)) (valued 32 None)
unfolding said_by said place_after byte valued
space_lacks s at x e h =
    record { says = sym (one_fails (λ c. eqb c 32) s at (ne_eqb (byte_at s at) 32 λ q. h (e ∙ q))); inside = zero-le }

-- a digit's value is at most 9
digit_small : (b : ℕ) → is_digit b ≡ true → b - 48 ≤ 9
unfolding is_digit between
digit_small b e = omega (arith, leb-true b 57 (and_right (leb 48 b) (leb b 57) e))

-- so many digits more keep a number below its bound
more_small : (k n : ℕ) (x : List ℕ) (m : ℕ) (r : List ℕ) → more_digits k n x ≡ got m r → (n + 1) * 10 ^ k ≤ 100000 → m < 100000
unfolding more_digits
more_small zero n x m r e h = let same : n ≡ m = cc in rw same at (below n zero 100000 h)
more_small (suc k) n [] m r e h = let same : n ≡ m = cc in rw same at (below n (suc k) 100000 h)
more_small (suc k) n (b ∷ s) m r e h = go (is_digit b) refl (more_small k (n * 10 + (b - 48)) s m r) e
  where
    go : (t : Bool) → is_digit b ≡ t → (more_digits k (n * 10 + (b - 48)) s ≡ got m r → (n * 10 + (b - 48) + 1) * 10 ^ k ≤ 100000 → m < 100000)
        → elim t as (λ _. Got ℕ) [ true ↦ more_digits k (n * 10 + (b - 48)) s | false ↦ got n (b ∷ s) ] ≡ got m r → m < 100000
    go true q ih p = ih p (grows n (b - 48) k 100000 (digit_small b q) h)
    go false q ih p = let same : n ≡ m = cc in rw same at (below n (suc k) 100000 h)

-- a number of 1 to 5 digits is below 100,000
number_small : (x : List ℕ) (m : ℕ) (r : List ℕ) → number x ≡ got m r → m < 100000
unfolding number digit one followed give when◌then◌else◌
number_small [] m r e = let z : ◌≡◌ {A = ℕ} 0 1 = cc in absurd (omega arith)
number_small (b ∷ s) m r e = go (is_digit b) refl e
  where
    go : (t : Bool) → is_digit b ≡ t → followed (followed (when t then got b s else bad) (λ c. give (c - 48))) (more_digits 4) ≡ got m r → m < 100000
    go true q p = more_small 4 (b - 48) s m r p (omega (arith, digit_small b q))
    go false q p = let z : ◌≡◌ {A = ℕ} 0 1 = cc in absurd (omega arith)

-- nothing that is a call was read
asks_bad : (s : List ℕ) (g : Got Request) → g ≡ bad → Asks s g None
unfolding said_call start_of room_in call_in
asks_bad s g e = record { says = rw e; inside = zero-le; small = zero-le }

-- a take was read
asks_take : (s : List ℕ) (g : Got Request) (room : ℕ) → g ≡ got (fetches room) [] → room ≤ 99999 → Asks s g (Some (Take room))
unfolding said_call start_of room_in call_in
asks_take s g room e h = record { says = rw e; inside = zero-le; small = h }

-- a number is there, and the rest decides
pub number_goes : (s : List ℕ) (g : Got ℕ) (f : ℕ → Reader Request) (a : Option (Parsed ℕ)) (p : Parsed ℕ) (r : Option Asked) → Says s g a → a ≡ Some p → Asks s (f p.value (from s p.next)) r → Asks s (followed g f) r
unfolding said_by said
number_goes s g f a p r h e k = rw (followed_got g p.value (from s p.next) f (sym h.says ∙ rw e)) k

-- it is not there
pub number_fails : (s : List ℕ) (g : Got ℕ) (f : ℕ → Reader Request) (a : Option (Parsed ℕ)) → Says s g a → a ≡ None → Asks s (followed g f) None
unfolding said_by said
number_fails s g f a h e = asks_bad s _ (followed_bad g f (sym h.says ∙ rw e))

-- a space is there, and the rest decides
pub space_goes : (s : List ℕ) (g : Got ℕ) (f : ℕ → Reader Request) (a : Option ℕ) (at : ℕ) (r : Option Asked) → Says s g (valued 32 a) → a ≡ Some at → Asks s (f 32 (from s at)) r → Asks s (followed g f) r
unfolding valued
space_goes s g f a at r h e k = number_goes s g f (valued 32 a) (record { value = 32; next = at }) r h (rw e) k

-- it is not there
pub space_fails : (s : List ℕ) (g : Got ℕ) (f : ℕ → Reader Request) (a : Option ℕ) → Says s g (valued 32 a) → a ≡ None → Asks s (followed g f) None
unfolding valued
space_fails s g f a h e = number_fails s g f (valued 32 a) h (rw e)

-- something stands behind the room
pub room_more : (s : List ℕ) (q : Request) (at : ℕ) → at < length s → Asks s (ended q (from s at)) None
unfolding from ended
room_more s q at h = asks_bad s _ (rw (drop-cons s at 0 h))

-- nothing does
pub room_ends : (s x : List ℕ) (a : Option (Parsed ℕ)) (p : Parsed ℕ) → Says s (number x) a → a ≡ Some p → length s ≤ p.next → Asks s (ended (fetches p.value) (from s p.next)) (Some (Take p.value))
unfolding said_by said from ended
room_ends s x a p h e l =
    asks_take s _ p.value (rw (drop_of_length-le s {i = p.next} l)) (omega (arith, number_small x p.value (from s p.next) (sym h.says ∙ rw e)))

-- the word of a take stands alone
pub room_none : (s : List ℕ) (at : ℕ) → length s ≤ at → Asks s (room_of (from s at)) (Some (Take 10291))
unfolding room_of from enough
room_none s at h =
    asks_take s _ 10291 (or_else_got (ended (fetches 10291)) _ (from s at) (fetches 10291) [] (unfold ended in rw (drop_of_length-le s {i = at} h))) (omega arith)

-- it does not
pub room_some : (s : List ℕ) (at : ℕ) (r : Option Asked) → at < length s → Asks s (followed (byte 32 (from s at)) (λ _ x. followed (number x) (λ room. ended (fetches room)))) r → Asks s (room_of (from s at)) r
unfolding room_of from
room_some s at r h k = rw (or_else_bad (ended (fetches enough)) _ (from s at) (unfold ended in rw (drop-cons s at 0 h))) k

-- all that is left is the tablet's line
pub line_stands : (s : List ℕ) (g : Got ℕ) (a : Option ℕ) (at t : ℕ) → Says s g (valued 32 a) → a ≡ Some at → Asks s (followed (remaining (from s at)) (λ x. give (sends t enough x))) (Some (Line t at))
unfolding place_after valued said_call start_of room_in call_in remaining followed give
line_stands s g a at t h e = record { says = refl; inside = rw e at h.inside; small = zero-le }

pub ruleset asking = (number_goes, number_fails, space_goes, space_fails, room_more, room_ends, room_none, room_some, line_stands)

-- a line that begins with the word of a take has no tablet's number in front
word_first : (s : List ℕ) (n : ℕ) (x : List ℕ) → these (bytes "take") s ≡ got n x → tablet_line s ≡ bad
unfolding these bytes byte one followed when◌then◌else◌ tablet_line number digit is_digit between give
word_first [] n x e = let z : ◌≡◌ {A = ℕ} 0 1 = cc in absurd (omega arith)
word_first (b ∷ s) n x e = go (eqb b 116) refl e
  where
    go : (t : Bool) → eqb b 116 ≡ t → followed (when t then got b s else bad) (λ _. these (bytes "ake")) ≡ got n x → tablet_line (b ∷ s) ≡ bad
    go true q p = rw (eqb-true b 116 q)
    go false q p = let z : ◌≡◌ {A = ℕ} 0 1 = cc in absurd (omega arith)

-- bytes that stand at the front of a line are read there
these_stand : (w x : List ℕ) → these w (w ++ x) ≡ got 0 x
unfolding these give followed byte one when◌then◌else◌
these_stand [] x = refl
these_stand (b ∷ w) x = rw (eq-eqb b b refl) (these_stand w x)

-- bytes that were read stand there
these_stood : (w s : List ℕ) (n : ℕ) (x : List ℕ) → these w s ≡ got n x → s ≡ w ++ x
unfolding these give followed byte one when◌then◌else◌
these_stood [] s n x e = cc
these_stood (b ∷ w) [] n x e = let z : ◌≡◌ {A = ℕ} 0 1 = cc in absurd (omega arith)
these_stood (b ∷ w) (c ∷ s) n x e = go (eqb c b) refl (these_stood w s n x) e
  where
    go : (t : Bool) → eqb c b ≡ t → (these w s ≡ got n x → s ≡ w ++ x) → followed (when t then got c s else bad) (λ _. these w) ≡ got n x → c ∷ s ≡ b ∷ (w ++ x)
    go true q ih p = rw (eqb-true c b q, ih p)
    go false q ih p = let z : ◌≡◌ {A = ℕ} 0 1 = cc in absurd (omega arith)

-- the line does not begin with the word of a take: it is a tablet's, or neither
pub asks_line : (s : List ℕ) (r : Option Asked) → ((x : List ℕ) → s ≡ bytes "take" ++ x → ⊥) → Asks s (tablet_line (from s 0)) r → AsksLine s r
unfolding from asked_in take_line
asks_line s r h k =
    let none' : take_line s ≡ bad = followed_bad (these (bytes "take") s) _ (word (these (bytes "take") s) refl) in
    record { says = k.says ∙ ap call_in (sym (or_else_bad take_line tablet_line s none')); inside = k.inside; small = k.small }
  where
    word : (g : Got ℕ) → these (bytes "take") s ≡ g → g ≡ bad
    word (got n x) e = absurd (h x (these_stood (bytes "take") s n x e))
    word bad e = refl

-- it does: the line is a take, or neither
pub asks_room : (s : List ℕ) (r : Option Asked) → s ≡ bytes "take" ++ from s 4 → Asks s (room_of (from s 4)) r → AsksLine s r
unfolding asked_in take_line
asks_room s r e k =
    let word : these (bytes "take") s ≡ got 0 (from s 4) = ap (these (bytes "take")) e ∙ these_stand (bytes "take") (from s 4) in
    record { says = k.says ∙ go (room_of (from s 4)) word (followed_got (these (bytes "take") s) 0 (from s 4) _ word); inside = k.inside; small = k.small }
  where
    go : (g : Got Request) → these (bytes "take") s ≡ got 0 (from s 4) → take_line s ≡ g → call_in g ≡ asked_in s
    go (got q rest) w e = ap call_in (sym (or_else_got take_line tablet_line s q rest e))
    go bad w e = ap call_in (sym (or_else_bad take_line tablet_line s e ∙ word_first s 0 (from s 4) w))
