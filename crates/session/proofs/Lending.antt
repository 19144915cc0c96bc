-- Bytes for a lent buffer: they have room in it, or it stays as it was.
use Prim.Native.Nat.{ℕ, ◌+◌, ◌≤◌, ◌<◌}
use mathlib.Core.Path.{◌≡◌, refl, ◌∙◌}
use mathlib.Core.List.{List}
use native.Mathlib.Omega.{arith}
use lib.ListN.{length, take}
use borrow.Author.Tests.{le-leb, lt-leb}
use Rattle.std.specs.Prelude.{Result, Ok, Err}
use Rattle.paper.specs.Refusal as R
use Rattle.paper.proofs.Law.{if_true, if_false}
use Rattle.command.specs.View.{refusal_of}
use Rattle.command.specs.Answer.{Reports, Meets}
use Rattle.command.specs.declared.Refusal.{Refusal}
use Rattle.command.specs.declared.Refusal.TheVariants as W
use Rattle.text.specs.Write.{Writes, written}
use Rattle.text.proofs.Written.{writes_take, writes_length}
use Rattle.session.specs.Outcome.{handed}

-- bytes that have no room in the lent buffer
pub hands_short : (old bytes : List ℕ) → length old < length bytes → Meets (handed (length old) bytes) old old (Err W.TooShort)
unfolding handed Reports R.lent refusal_of
hands_short old bytes h = rw (if_false _ (R.accepted bytes) (R.refused R.too_short) (lt-leb (length bytes) (length old) h)) (record { reports = refl; buffer = refl })

-- and bytes that have
pub hands_bytes : (old bytes new : List ℕ) (next : ℕ) → Writes old 0 bytes new next → Meets (handed (length old) bytes) old new (Ok next)
unfolding handed Reports R.lent written
hands_bytes old bytes new next w =
    let size : 0 + length bytes ≡ length bytes = omega arith in
    let room : length bytes ≤ length old = omega (arith, w.ends, w.room) in
    rw (if_true _ (R.accepted bytes) (R.refused R.too_short) (le-leb (length bytes) (length old) room))
    (record { reports = w.ends ∙ size; buffer = w.is ∙ rw size })

-- what was written at the front of a buffer lies within it
pub front_within : (out bytes new : List ℕ) (next : ℕ) → Writes out 0 bytes new next → next ≤ length new
front_within out bytes new next w = omega (arith, w.room, writes_length out 0 bytes new next w)

-- and stands there
pub front_bytes : (out bytes new : List ℕ) (next : ℕ) → Writes out 0 bytes new next → take next new ≡ bytes
front_bytes out bytes new next w = writes_take out 0 bytes new next w

-- bytes that were made at the front of a buffer and handed on
pub hands_made : (out mid old new bytes : List ℕ) (next : ℕ) (r : Result ℕ Refusal) → Writes out 0 bytes mid next → Meets (handed (length old) (take next mid)) old new r → Meets (handed (length old) bytes) old new r
hands_made out mid old new bytes next r w m = rw (front_bytes out bytes mid next w) at m
