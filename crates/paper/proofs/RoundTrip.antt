-- A command in range is read back from its normal form, so what a line reads as, its normal form and the command determine each other.
use Prim.Native.Nat.{ℕ, ◌+◌, ◌-◌, ◌≤◌}
use mathlib.Core.Path.{◌≡◌, refl, sym, ◌∙◌, ap}
use mathlib.Core.Bool.{true, false, false≢true}
use mathlib.Core.List.{List}
use mathlib.Core.Option.{Option, none, some}
use native.Mathlib.Omega.{arith}
use lib.ListN.{length}
use borrow.Author.Tests.{le-ltb}
use Rattle.paper.specs.Byte.{when◌then◌else◌, decimal_within, decimal}
use Rattle.paper.specs.Line.{long, control}
use Rattle.paper.specs.Command.{Command, ranges, in_range}
use Rattle.paper.specs.Refusal.{Refusal, too_long, control_byte, unknown, malformed, out_of_range}
use Rattle.paper.specs.Read.{Shape, shaped, strange, broken, shape, Reading, command, unread, judged, read}
use Rattle.paper.specs.Write.{normal}
use Rattle.paper.proofs.Law.{by_test}
use Rattle.paper.proofs.Text.{clear_control}
use Rattle.paper.proofs.Test.{held}
use Rattle.paper.proofs.Number.{decimal_is_within}
use Rattle.paper.proofs.Clear.{normal_clear}
use Rattle.paper.proofs.Row.{fine}

-- the normal form of a command in range has the command's shape
pub shape_normal : (width : ℕ) (c : Command) → width ≤ 10000 → in_range width c ≡ true → shape (normal c) ≡ shaped c
unfolding in_range
shape_normal width c w e = (fine width c w (held (ranges width c) e)).reads

-- it has at most 224 bytes and the digits of the largest x
pub normal_length : (width : ℕ) (c : Command) → width ≤ 10000 → in_range width c ≡ true → length (normal c) ≤ 224 + length (decimal (width - 1))
unfolding in_range
normal_length width c w e = (fine width c w (held (ranges width c) e)).short

-- that is 227 on the label of 812 dots
pub normal_227 : (c : Command) → in_range 812 c ≡ true → length (normal c) ≤ 227
unfolding decimal decimal_within
normal_227 c e = normal_length 812 c (omega arith) e

-- it has no control byte
pub normal_control : (width : ℕ) (c : Command) → in_range width c ≡ true → control (normal c) ≡ false
unfolding in_range
normal_control width c e = clear_control (normal c) (normal_clear width c (held (ranges width c) e))

-- a command in range is read back from its normal form
pub read_normal : (width : ℕ) (c : Command) → width ≤ 10000 → in_range width c ≡ true → read width (normal c) ≡ command c
unfolding read long judged when◌then◌else◌
read_normal width c w e =
    let most : length (decimal (width - 1)) ≤ 5 = decimal_is_within 5 (width - 1) (omega arith) (omega arith) in
    let short : length (normal c) ≤ 256 = omega (arith, normal_length width c w e) in
    rw (le-ltb 256 (length (normal c)) short, normal_control width c e, shape_normal width c w e, e)

-- a refusal is no command
unread_command : (r : Refusal) (c : Command) → unread r ≡ command c → ⊥
unread_command r c e = let z : ◌≡◌ {A = ℕ} 0 1 = cc in absurd (omega arith)

judged_in_range : (width : ℕ) (sh : Shape) (c : Command) → judged width sh ≡ command c → in_range width c ≡ true
unfolding judged
judged_in_range width (shaped d) c =
    by_test (λ r. r ≡ command c → in_range width c ≡ true) (in_range width d) (command d) (unread out_of_range)
    (λ q e. cc) (λ _ e. absurd (unread_command out_of_range c e))
judged_in_range width strange c = λ e. absurd (unread_command unknown c e)
judged_in_range width broken c = λ e. absurd (unread_command malformed c e)

-- what a line reads as is in range
pub read_in_range : (width : ℕ) (s : List ℕ) (c : Command) → read width s ≡ command c → in_range width c ≡ true
unfolding read
read_in_range width s c =
    by_test (λ r. r ≡ command c → in_range width c ≡ true) (long s) _ _ (λ _ e. absurd (unread_command too_long c e))
    λ _. by_test (λ r. r ≡ command c → in_range width c ≡ true) (control s) _ _ (λ _ e. absurd (unread_command control_byte c e))
    λ _. judged_in_range width (shape s) c

-- a command that is out of range is read from no line
pub write_unread : (width : ℕ) (s : List ℕ) (c : Command) → in_range width c ≡ false → read width s ≡ command c → ⊥
write_unread width s c o e = false≢true (sym o ∙ read_in_range width s c e)

-- the normal form of what a line reads as reads as that again
pub normal_reads : (width : ℕ) (s : List ℕ) (c : Command) → width ≤ 10000 → read width s ≡ command c → read width (normal c) ≡ command c
normal_reads width s c w e = read_normal width c w (read_in_range width s c e)

-- two commands in range with one normal form are one command
pub normal_injective : (width : ℕ) (c d : Command) → width ≤ 10000 → in_range width c ≡ true → in_range width d ≡ true → normal c ≡ normal d → c ≡ d
normal_injective width c d w e f n =
    let p : read width (normal c) ≡ command c = read_normal width c w e in
    let q : read width (normal d) ≡ command d = read_normal width d w f in
    cc

-- the normal form of what was read, if it is a command
unfoldable pub normal_of : Reading → Option (List ℕ)
normal_of (command c) = some (normal c)
normal_of (unread r) = none

-- the normal form of a line that reads, none otherwise
unfoldable pub normal_line : ℕ → List ℕ → Option (List ℕ)
normal_line width s = normal_of (read width s)

-- the normal line of a line that reads is its command's normal form
pub normal_line_command : (width : ℕ) (s : List ℕ) (c : Command) → read width s ≡ command c → normal_line width s ≡ some (normal c)
unfolding normal_line normal_of
normal_line_command width s c e = rw e

-- a command has one normal form: lines that read as it have the same
pub one_normal : (width : ℕ) (s t : List ℕ) (c : Command) → read width s ≡ command c → read width t ≡ command c → normal_line width s ≡ normal_line width t
one_normal width s t c p q = normal_line_command width s c p ∙ sym (normal_line_command width t c q)

-- a line with a normal form reads as a command that has it
pub normal_line_reads : (width : ℕ) (s u : List ℕ) → normal_line width s ≡ some u → (c : Command) × (read width s ≡ command c) × (u ≡ normal c)
unfolding normal_line normal_of
normal_line_reads width s u e = go (read width s) refl e
  where
    go : (r : Reading) → read width s ≡ r → normal_of r ≡ some u → (c : Command) × (read width s ≡ command c) × (u ≡ normal c)
    go (command c) q e = (c, q, cc)
    go (unread r) q e = let z : ◌≡◌ {A = ℕ} 0 1 = cc in absurd (omega arith)

-- a normal form is its own normal line
pub normal_line_again : (width : ℕ) (s u : List ℕ) → width ≤ 10000 → normal_line width s ≡ some u → normal_line width u ≡ some u
normal_line_again width s u w e =
    let (c, q, n) = normal_line_reads width s u e in
    rw n (normal_line_command width (normal c) c (normal_reads width s c w q))

-- lines with one normal form read as one command
pub one_command : (width : ℕ) (s t u : List ℕ) → width ≤ 10000 → normal_line width s ≡ some u → normal_line width t ≡ some u → read width s ≡ read width t
one_command width s t u w e f =
    let (c, p, n) = normal_line_reads width s u e in
    let (d, q, m) = normal_line_reads width t u f in
    p ∙ ap command (normal_injective width c d w (read_in_range width s c p) (read_in_range width t d q) (sym n ∙ m)) ∙ sym q
