-- A call of the writer: its answer and the lent buffer, for a record that no line reads as, a short buffer, and one with room.
use mathlib.Core.Path.{◌≡◌, refl, sym, ◌∙◌}
use mathlib.Core.Bool.{Bool, true, false, ◌&&◌, false≢true}
use mathlib.Core.List.{List}
use Prim.Native.Nat.{ℕ, ◌+◌, ◌≤◌, ◌<◌}
use native.Mathlib.Omega.{arith}
use lib.ListN.{length, take}
use lib.Seq.{length-take-le}
use lib.Dec.{leb}
use borrow.Author.Tests.{le-leb, lt-leb}
use Rattle.std.specs.Prelude.{Ok, Err}
use Rattle.paper.specs.Byte.{when◌then◌else◌}
use Rattle.paper.specs.Command as P
use Rattle.paper.specs.Read as Read
use Rattle.paper.specs.Write as Write
use Rattle.paper.specs.Refusal as R
use Rattle.paper.proofs.Law.{if_true, if_false, and_left, and_right}
use Rattle.text.specs.Write.{written, Writes}
use Rattle.text.proofs.Written.{writes_take, writes_length}
use Rattle.command.specs.View.{width, refusal_of, view_of}
use Rattle.command.specs.Answer.{Reports, Meets}
use Rattle.command.specs.declared.Refusal.{Refusal}
use Rattle.command.specs.declared.Refusal.TheVariants as W
use Rattle.command.specs.declared.Command.{Command}
use Rattle.normal.specs.Normal.{record_held, readable, reading_text, write_reading, write_of, WritesLine}

-- writing a reading that no line has
reading_out : (room : ℕ) (r : Read.Reading) → readable r ≡ false → write_reading room r ≡ R.refused R.out_of_range
unfolding readable write_reading Write.write
reading_out room (Read.command c) e = if_false (P.in_range width c) _ _ e
reading_out room (Read.unread r) e = refl

-- writing one that some line has: by the length of its normal form
reading_in : (room : ℕ) (r : Read.Reading) → readable r ≡ true → write_reading room r ≡ (when leb (length (reading_text r)) room then R.accepted (reading_text r) else R.refused R.too_short)
unfolding readable reading_text write_reading Write.write
reading_in room (Read.command c) e = if_true (P.in_range width c) _ _ e
reading_in room (Read.unread r) e = absurd (false≢true e)

-- a refused call leaves the buffer as it was
refused_meets : (a : R.Answer) (old : List ℕ) (why : Refusal) → a ≡ R.refused (refusal_of why) → Meets a old old (Err why)
unfolding Reports R.lent
refused_meets a old why e = rw e (record { reports = refl; buffer = refl })

-- the code's answer for a record that no line reads as
pub meets_out : (s : List ℕ) (c : Command) (old : List ℕ) (t : Bool) → t ≡ (record_held s c && readable (view_of s c)) → t ≡ false → WritesLine s c old old (Err W.OutOfRange)
unfolding write_of refusal_of when◌then◌else◌
meets_out s c old t p e = record { meets = refused_meets (write_of s (length old) c) old W.OutOfRange (go (record_held s c) (sym p ∙ e)) }
  where
    go : (h : Bool) → (h && readable (view_of s c)) ≡ false → (when h then write_reading (length old) (view_of s c) else R.refused R.out_of_range) ≡ R.refused R.out_of_range
    go true q = reading_out (length old) (view_of s c) q
    go false q = refl

-- the answer that some line reads as a record
pub told_record : (s : List ℕ) (c : Command) (t : Bool) → t ≡ (record_held s c && readable (view_of s c)) → t ≡ true → record_held s c ≡ true
told_record s c t p e = and_left (record_held s c) (readable (view_of s c)) (sym p ∙ e)

-- and that its reading is one
pub told_readable : (s : List ℕ) (c : Command) (t : Bool) → t ≡ (record_held s c && readable (view_of s c)) → t ≡ true → readable (view_of s c) ≡ true
told_readable s c t p e = and_right (record_held s c) (readable (view_of s c)) (sym p ∙ e)

-- what is written of such a record
write_in : (s : List ℕ) (c : Command) (room : ℕ) (t : Bool) → t ≡ (record_held s c && readable (view_of s c)) → t ≡ true → write_of s room c ≡ (when leb (length (reading_text (view_of s c))) room then R.accepted (reading_text (view_of s c)) else R.refused R.too_short)
unfolding write_of
write_in s c room t p e = if_true (record_held s c) _ _ (told_record s c t p e) ∙ reading_in room (view_of s c) (told_readable s c t p e)

-- the code's answer for a buffer that is too short
pub meets_short : (s : List ℕ) (c : Command) (t : Bool) (old out new : List ℕ) (len : ℕ) → t ≡ (record_held s c && readable (view_of s c)) → t ≡ true → Writes out 0 (reading_text (view_of s c)) new len → length old < len → WritesLine s c old old (Err W.TooShort)
unfolding refusal_of
meets_short s c t old out new len p e w l =
    record {
      meets =
          refused_meets (write_of s (length old) c) old W.TooShort
          (write_in s c (length old) t p e ∙ if_false _ _ _ (lt-leb (length (reading_text (view_of s c))) (length old) (omega (arith, w.ends))));
    }

-- the bytes at the front of the place where the normal form was built
pub front_length : (out text new : List ℕ) (len : ℕ) → Writes out 0 text new len → len ≡ length (take len new)
front_length out text new len w = sym (length-take-le len new (omega (arith, w.room, writes_length out 0 text new len w)))

-- and the code's answer for one with room
pub meets_room : (s : List ℕ) (c : Command) (t : Bool) (old out mid new : List ℕ) (len next : ℕ) → t ≡ (record_held s c && readable (view_of s c)) → t ≡ true → Writes out 0 (reading_text (view_of s c)) mid len → len ≤ length old → Writes old 0 (take len mid) new next → WritesLine s c old new (Ok len)
unfolding Reports R.lent written
meets_room s c t old out mid new len next p e w l v =
    let same : take len mid ≡ reading_text (view_of s c) = writes_take out 0 _ mid len w in
    let size : 0 + length (reading_text (view_of s c)) ≡ length (reading_text (view_of s c)) = omega arith in
    record {
      meets =
          rw (write_in s c (length old) t p e, if_true _ (R.accepted (reading_text (view_of s c))) (R.refused R.too_short) (le-leb (length (reading_text (view_of s c))) (length old) (omega (arith, w.ends))))
          (record { reports = omega (arith, w.ends); buffer = v.is ∙ rw (same, size) });
    }
