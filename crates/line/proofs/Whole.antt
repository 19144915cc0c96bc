-- Whole lines: the kind decides which parts follow, and before that the length, the control bytes and the empty line.
use mathlib.Core.Path.{◌≡◌, refl, sym, ◌∙◌}
use mathlib.Core.Bool.{true, false}
use mathlib.Core.List.{List, [], ◌∷◌}
use Prim.Native.Nat.{ℕ, ◌≤◌, ◌<◌}
use native.Mathlib.Omega.{arith}
use lib.ListN.{length}
use borrow.Author.Tests.{lt-ltb, le-ltb}
use Rattle.paper.specs.Byte.{when◌then◌else◌, every, any}
use Rattle.paper.specs.Line.{long, control}
use Rattle.paper.specs.Command as P
use Rattle.paper.specs.Command.{is_shown, in_range, ranges, all_of}
use Rattle.paper.specs.Refusal.{too_long, control_byte}
use Rattle.paper.specs.Read.{shape, command, unread, judged, read}
use Rattle.paper.proofs.Law.{if_true, if_false}
use Rattle.paper.proofs.Text.{clear_between, clear_control}
use Rattle.text.specs.Place.{byte_at}
use Rattle.command.specs.View.{width}
use Rattle.command.specs.declared.Command.{Command}
use Rattle.line.specs.Given.{Judges, IsRead}
use Rattle.line.specs.Kind.{kind_of, shape_by}
use Rattle.line.specs.declared.kind.Kind.{Kind}
use Rattle.line.proofs.Letters.{by_kind}

-- a shown line has no control byte
shown_clear : (s : List ℕ) → every is_shown s ≡ true → control s ≡ false
unfolding is_shown
shown_clear s e = clear_control s (clear_between 0x20 0xff (omega arith) s e)

-- a line over 256 bytes
pub read_long : (s : List ℕ) → 256 < length s → read width s ≡ unread too_long
unfolding read long
read_long s h = if_true _ _ _ (lt-ltb 256 (length s) h)

-- a line of at most 256 bytes with a control byte
pub read_control : (s : List ℕ) → length s ≤ 256 → control s ≡ true → read width s ≡ unread control_byte
unfolding read long
read_control s h c = if_false _ _ _ (le-ltb 256 (length s) h) ∙ if_true _ _ _ c

-- any other line is what its shape is judged as
read_shown : (s : List ℕ) → length s ≤ 256 → every is_shown s ≡ true → read width s ≡ judged width (shape s)
unfolding read long
read_shown s h e = if_false _ _ _ (le-ltb 256 (length s) h) ∙ if_false _ _ _ (shown_clear s e)

-- the empty line
pub read_empty : (s : List ℕ) → length s < 1 → read width s ≡ command P.empty
unfolding read long control any shape judged in_range ranges all_of when◌then◌else◌
read_empty [] h = refl
read_empty (b ∷ s) h = absurd (omega arith)

-- a line with a byte is what the shape of its kind is judged as
pub read_shape : (s : List ℕ) (k : Kind) (r : Command) → length s ≤ 256 → every is_shown s ≡ true → 0 < length s → k ≡ kind_of (byte_at s 0) (byte_at s 1) → Judges s (shape_by s k) r → IsRead s r
read_shape s k r h e f q j =
    record { view = j.view ∙ sym (read_shown s h e ∙ rw (by_kind s f, q)); stand = j.stand }
