-- A name is copied byte by byte: what was copied and what is still to come are the name.
use Prim.Native.Nat.{ℕ, ◌+◌, ◌≤◌, ◌<◌}
use mathlib.Core.Path.{◌≡◌, refl, ◌∙◌, ap}
use mathlib.Core.List.{List, [], ◌∷◌, ◌++◌, append_assoc, append-nil}
use native.Mathlib.Omega.{arith}
use lib.ListN.{length, get_or, set, replicate, length-append}
use Rattle.text.specs.Place.{text_at, Closes, literal}
use Rattle.text.specs.Write.{padded}
use Rattle.text.specs.declared.read.Span.{Span}
use Rattle.text.proofs.Content.{Steps, closes_ends, closes_steps}
use Rattle.text.proofs.Padded.{padded_set}
use Rattle.command.specs.View.{text_in, Holds}
use Rattle.session.specs.Memory.{named}

-- some bytes of a name are copied, and the others stand from a place on
pub record Copying (s : List ℕ) (start end : ℕ) (bytes : List ℕ) (len i : ℕ) : Type 0 where
  pub done : List ℕ
  pub whole : text_at s start ≡ done ++ text_at s i
  pub held : bytes ≡ padded 16 done
  pub count : len ≡ length done
  pub closes : Closes s i end
  pub short : length (text_at s start) ≤ 16

pub copy_begins : (s : List ℕ) (string : Span) → Holds s string → length (text_in s string) ≤ 16 → Copying s string.start string.end (replicate 16 0) 0 string.start
unfolding text_in padded
copy_begins s string h l = record { done = []; whole = refl; held = refl; count = refl; closes = h.closes; short = l }

-- there is room for the next byte
room : (s : List ℕ) (start end : ℕ) (bytes : List ℕ) (len i r : ℕ) (c : Copying s start end bytes len i) → Steps s i end r → length c.done < 16
room s start end bytes len i r c step =
    let all : text_at s start ≡ c.done ++ (get_or s r 0 ∷ text_at s (r + 1)) = c.whole ∙ rw step.content in
    omega (arith, simp length-append at (ap length all), c.short)

pub copy_room : (s : List ℕ) (start end : ℕ) (bytes : List ℕ) (len i r : ℕ) → Copying s start end bytes len i → i < end → r ≡ literal s i → len < 16
copy_room s start end bytes len i r c h e = omega (arith, room s start end bytes len i r c (closes_steps s i end r c.closes h e), c.count)

pub copy_inside : (s : List ℕ) (start end : ℕ) (bytes : List ℕ) (len i r : ℕ) → Copying s start end bytes len i → i < end → r ≡ literal s i → r < length s
copy_inside s start end bytes len i r c h e = omega (arith, (closes_steps s i end r c.closes h e).inside, c.closes.inside)

pub copy_onward : (s : List ℕ) (start end : ℕ) (bytes : List ℕ) (len i r : ℕ) → Copying s start end bytes len i → i < end → r ≡ literal s i → i ≤ r
copy_onward s start end bytes len i r c h e = (closes_steps s i end r c.closes h e).onward

pub copy_turns : (s : List ℕ) (start end : ℕ) (bytes : List ℕ) (len i r : ℕ) → Copying s start end bytes len i → i < end → r ≡ literal s i
    → Copying s start end (set bytes len (get_or s r 0)) (len + 1) (r + 1)
copy_turns s start end bytes len i r c h e =
    let step = closes_steps s i end r c.closes h e in
    record {
      done = c.done ++ (get_or s r 0 ∷ []);
      whole = c.whole ∙ rw (step.content, append_assoc);
      held = rw (c.held, c.count) (padded_set 16 c.done (get_or s r 0) (room s start end bytes len i r c step));
      count = rw (length-append, c.count);
      closes = step.left;
      short = c.short;
    }

pub copy_ends : (s : List ℕ) (string : Span) (bytes : List ℕ) (len i : ℕ) → Copying s string.start string.end bytes len i → string.end ≤ i
    → record { bytes = bytes; len = len } ≡ named (text_in s string)
unfolding named text_in
copy_ends s string bytes len i c h =
    let all : text_at s string.start ≡ c.done = c.whole ∙ rw (closes_ends s i string.end c.closes h, append-nil) in
    let first : bytes ≡ padded 16 (text_at s string.start) = rw all c.held in
    let second : len ≡ length (text_at s string.start) = rw all c.count in
    λ j. record { bytes = first j; len = second j }
