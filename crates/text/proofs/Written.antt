-- Writes into a buffer, one behind the other: two make one, and a loop of them keeps what is still to come.
-- Everything about a write follows from its front, which the bytes join, and its back, which stays as it was.
use mathlib.Core.Path.{◌≡◌, refl, sym, ◌∙◌, ap}
use mathlib.Core.List.{List, [], ◌∷◌, ◌++◌, append_assoc, append-nil}
use Prim.Native.Nat.{ℕ, ◌+◌, ◌-◌, ◌≤◌, ◌<◌, ◌/◌, ◌%◌}
use native.Mathlib.Omega.{arith}
use borrow.Rule.Slice.PartMut.{put_mid}
use native.Mathlib.Numerals.{add-one}
use lib.ListN.{length, take, drop, get_or, set, drop_of_length-le, length-append, length-take, length-drop, take-append-drop}
use lib.Seq.{drop-cons, length-take-le, take_at, drop_at, drop-drop, set_split, append_snoc}
use Rattle.paper.specs.Byte.{decimal}
use Rattle.paper.specs.Write.{two}
use Rattle.paper.proofs.Number.{decimal_small, decimal_big}
use Rattle.text.specs.Write.{written, Writes}

-- the front of a write, with its bytes, reaches to the next place
front_size : (old : List ℕ) (at : ℕ) (bytes new : List ℕ) (next : ℕ) → Writes old at bytes new next → length (take at old ++ bytes) ≡ next
front_size old at bytes new next w =
    length-append (take at old) bytes ∙ rw (length-take-le at old (omega (arith, w.ends, w.room))) (sym w.ends)

-- the bytes before the next place: those before the place, and the bytes that were written
pub writes_take : (old : List ℕ) (at : ℕ) (bytes new : List ℕ) (next : ℕ) → Writes old at bytes new next → take next new ≡ take at old ++ bytes
unfolding written
writes_take old at bytes new next w =
    rw w.is (take_at (take at old ++ bytes) (drop (at + length bytes) old) next (front_size old at bytes new next w))

-- the bytes from the next place on stay as they were
pub writes_drop : (old : List ℕ) (at : ℕ) (bytes new : List ℕ) (next : ℕ) → Writes old at bytes new next → drop next new ≡ drop next old
unfolding written
writes_drop old at bytes new next w =
    rw w.is (drop_at (take at old ++ bytes) (drop (at + length bytes) old) next (front_size old at bytes new next w) ∙ rw (← w.ends))

-- and from any place behind it
writes_behind : (old : List ℕ) (at : ℕ) (bytes new : List ℕ) (next n : ℕ) → Writes old at bytes new next → drop (next + n) new ≡ drop (next + n) old
writes_behind old at bytes new next n w =
    sym (drop-drop n next new) ∙ rw (writes_drop old at bytes new next w) (drop-drop n next old)

-- a write keeps the buffer's length
pub writes_length : (old : List ℕ) (at : ℕ) (bytes new : List ℕ) (next : ℕ) → Writes old at bytes new next → length new ≡ length old
unfolding written
writes_length old at bytes new next w =
    rw w.is (simp (length-append, length-take, length-drop) (omega (arith, w.ends, w.room)))

-- nothing written
pub writes_none : (a : List ℕ) (at : ℕ) → at ≤ length a → Writes a at [] a at
unfolding written
writes_none a at h =
    let same : at + 0 ≡ at = omega arith in
    record { ends = sym same; room = h; is = sym (rw (append-nil, same, take-append-drop)) }

-- two writes, the second where the first ends, are one
pub writes_then : (a : List ℕ) (i : ℕ) (u b : List ℕ) (j : ℕ) (v d : List ℕ) (k : ℕ) → Writes a i u b j → Writes b j v d k → Writes a i (u ++ v) d k
unfolding written
writes_then a i u b j v d k p q =
    let size : length (u ++ v) ≡ length u + length v = length-append u v in
    let end : j + length v ≡ i + length (u ++ v) = omega (arith, p.ends) in
    record {
      ends = omega (arith, p.ends, q.ends);
      room = omega (arith, q.room, writes_length a i u b j p);
      is = q.is ∙ rw (writes_take a i u b j p, writes_behind a i u b j (length v) p, end, append_assoc (take i a) u v);
    }

-- one byte stored
pub writes_set : (a : List ℕ) (at b : ℕ) → at < length a → Writes a at (b ∷ []) (set a at b) (at + 1)
unfolding written
writes_set a at b h =
    record { ends = refl; room = omega arith; is = rw (add-one, append_snoc) (set_split a at b h) }

-- a loop of writes: a part of the whole was written and the rest is still to come, with room for all of it
pub record Writing (old : List ℕ) (at : ℕ) (whole rest new : List ℕ) (next : ℕ) : Type 0 where
  pub done : List ℕ
  pub parts : whole ≡ done ++ rest
  pub writes : Writes old at done new next
  pub fits : at + length whole ≤ length old

-- before the loop the whole is to come
pub writing_begins : (old : List ℕ) (at : ℕ) (whole : List ℕ) → at + length whole ≤ length old → Writing old at whole whole old at
writing_begins old at whole h =
    record { done = []; parts = refl; writes = writes_none old at (omega arith); fits = h }

-- a turn writes the first bytes of the rest
pub writing_turns : (old : List ℕ) (at : ℕ) (whole rest new : List ℕ) (next : ℕ) (u more newer : List ℕ) (after : ℕ) → Writing old at whole rest new next → rest ≡ u ++ more → Writes new next u newer after → Writing old at whole more newer after
writing_turns old at whole rest new next u more newer after w e p =
    record {
      done = w.done ++ u;
      parts = w.parts ∙ rw (e, append_assoc);
      writes = writes_then old at w.done new next u newer after w.writes p;
      fits = w.fits;
    }

-- where a turn writes there is room
pub writing_room : (old : List ℕ) (at : ℕ) (whole rest new : List ℕ) (next : ℕ) (u more : List ℕ) → Writing old at whole rest new next → rest ≡ u ++ more → next + length u ≤ length new
writing_room old at whole rest new next u more w e =
    let kept : length new ≡ length old = writes_length old at w.done new next w.writes in
    let all : whole ≡ w.done ++ (u ++ more) = w.parts ∙ rw e in
    omega (arith, w.writes.ends, w.fits, simp length-append at (ap length all))

-- once nothing is to come the whole was written
pub writing_ends : (old : List ℕ) (at : ℕ) (whole rest new : List ℕ) (next : ℕ) → Writing old at whole rest new next → rest ≡ [] → Writes old at whole new next
writing_ends old at whole rest new next w e =
    let all : whole ≡ w.done = w.parts ∙ rw (e, append-nil) in
    rw all w.writes

-- the code's answer for a number below 10: its one digit
pub decimal_one : (old : List ℕ) (at : ℕ) (new : List ℕ) (next n : ℕ) → n < 10 → Writes old at ((48 + n % 10) ∷ []) new next → Writes old at (decimal n) new next
decimal_one old at new next n h w =
    let same : n % 10 ≡ n = omega arith in
    rw (decimal_small n h) (rw same at w)

-- from 10 up to 99: its two digits
pub decimal_two : (old : List ℕ) (at : ℕ) (new : List ℕ) (next n : ℕ) → 10 ≤ n → n < 100 → Writes old at (two n) new next → Writes old at (decimal n) new next
unfolding two
decimal_two old at new next n h l w = rw (decimal_big n h, decimal_small (n / 10) (omega arith)) w

-- and from 10 on: the last digit behind those of its tens
pub decimal_more : (old : List ℕ) (at : ℕ) (mid : List ℕ) (place : ℕ) (new : List ℕ) (next n : ℕ) → 10 ≤ n → Writes old at (decimal (n / 10)) mid place → Writes mid place ((48 + n % 10) ∷ []) new next → Writes old at (decimal n) new next
decimal_more old at mid place new next n h p q = rw (decimal_big n h) (writes_then old at _ mid place _ new next p q)

-- a number of two digits: the tens, and the ones behind them
pub two_digits_written : (old : List ℕ) (at : ℕ) (mid : List ℕ) (place : ℕ) (new : List ℕ) (next n : ℕ) → n < 100 → Writes old at ((48 + n / 10 % 10) ∷ []) mid place → Writes mid place ((48 + n % 10) ∷ []) new next → Writes old at (two n) new next
unfolding two
two_digits_written old at mid place new next n h p q =
    let tens : n / 10 % 10 ≡ n / 10 = omega arith in
    rw tens at (writes_then old at _ mid place _ new next p q)

-- a number below 10 has one digit
pub digits_one : (n : ℕ) → n < 10 → 1 ≡ length (decimal n)
digits_one n h = rw (decimal_small n h)

-- and one from 10 on has one more than its tens
pub digits_more : (n : ℕ) → 10 ≤ n → length (decimal n) ≡ length (decimal (n / 10)) + 1
digits_more n h = rw (decimal_big n h) (length-append (decimal (n / 10)) ((48 + n % 10) ∷ []))

-- bytes copied at once: a slice of the buffer as long as they are becomes them
pub copy_written : (old : List ℕ) (at : ℕ) (s new : List ℕ) → at + length s ≤ length old → new ≡ s → Writes old at s (put_mid at (at + length s - at) old new) (at + length s)
unfolding written
copy_written old at s new h e =
    let size : at + length s - at ≡ length s = omega arith in
    record { ends = refl; room = h; is = rw (size, e, drop-drop (length s) at old, append_assoc) }

-- bytes copied one by one: before the first
pub copy_begins : (old : List ℕ) (at : ℕ) (s : List ℕ) → at + length s ≤ length old → Writing old at s (drop 0 s) old (at + 0)
copy_begins old at s h = let same : at + 0 ≡ at = omega arith in rw same (writing_begins old at s h)

-- the bytes from a place within a text: the one there, and the rest
copy_next : (s : List ℕ) (i : ℕ) → i < length s → drop i s ≡ (get_or s i 0 ∷ []) ++ drop (i + 1) s
copy_next s i h = rw (add-one, drop-cons s i 0)

-- there is room for the next byte
pub copy_room : (old : List ℕ) (at : ℕ) (s new : List ℕ) (i : ℕ) → Writing old at s (drop i s) new (at + i) → i < length s → at + i < length new
copy_room old at s new i w h = omega (arith, writing_room old at s (drop i s) new (at + i) (get_or s i 0 ∷ []) (drop (i + 1) s) w (copy_next s i h))

-- one more was copied
pub copy_turns : (old : List ℕ) (at : ℕ) (s new : List ℕ) (i : ℕ) → Writing old at s (drop i s) new (at + i) → i < length s → Writing old at s (drop (i + 1) s) (set new (at + i) (get_or s i 0)) (at + (i + 1))
copy_turns old at s new i w h =
    let place : at + (i + 1) ≡ at + i + 1 = omega arith in
    rw place (writing_turns old at s (drop i s) new (at + i) (get_or s i 0 ∷ []) (drop (i + 1) s) _ _ w (copy_next s i h) (writes_set new (at + i) (get_or s i 0) (copy_room old at s new i w h)))

-- all were copied
pub copy_ends : (old : List ℕ) (at : ℕ) (s new : List ℕ) (i : ℕ) → Writing old at s (drop i s) new (at + i) → length s ≤ i → Writes old at s new (at + i)
copy_ends old at s new i w h = writing_ends old at s (drop i s) new (at + i) w (drop_of_length-le s {i = i} h)
