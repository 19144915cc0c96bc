-- Of a line that is too long its first 257 bytes tell all that the bench says of it.
use Prim.Native.Nat.{ℕ}
use mathlib.Core.Path.{◌≡◌, refl, sym, ◌∙◌}
use mathlib.Core.Bool.{true, false}
use mathlib.Core.List.{List}
use mathlib.Core.Option.{Option, none, some}
use native.Mathlib.Omega.{arith}
use lib.ListN.{length, take, length-take}
use lib.Seq.{take_all}
use borrow.Author.Tests.{ltb-true, ltb-false, lt-ltb}
use Rattle.paper.specs.Line.{kept, long}
use Rattle.paper.specs.Command.{FormLine}
use Rattle.paper.specs.Refusal.{Refusal}
use Rattle.paper.specs.Form.{Form}
use Rattle.paper.specs.Read.{read}
use Rattle.paper.specs.Bench.{Session, idle, collecting, spoiled, opened, answering, ready, printing, Bench, in_answering, heard, hear}
use Rattle.paper.specs.Class.{Class, desk, filing_of, barred, hear_unless, hear_of, hear_from}
use Rattle.paper.proofs.Law.{if_true}
use Rattle.paper.proofs.Test.{either}
use Rattle.paper.proofs.Dropped.{kept_stays, stays_kept, stays_take}

-- a long line is long in its first 257 bytes
first_long : (s : List ℕ) → long s ≡ true → long (take 257 s) ≡ true
unfolding long
first_long s e = lt-ltb 256 (length (take 257 s)) (omega (arith, length-take 257 s, ltb-true 256 (length s) e))

-- another is the same
first_all : (s : List ℕ) → long s ≡ false → take 257 s ≡ s
unfolding long
first_all s e = take_all 257 s (omega (arith, ltb-false 256 (length s) e))

-- what depends on a long line only by its being long
pub read_first : (width : ℕ) (s : List ℕ) → read width (take 257 s) ≡ read width s
unfolding read
read_first width s =
    either (long s) (λ y. if_true _ _ _ (first_long s y) ∙ sym (if_true _ _ _ y)) (λ n. rw (first_all s n))

answer_first : (forms : List Form) (ls : List FormLine) (answers : List (List ℕ)) (s : List ℕ)
    → in_answering forms ls answers (take 257 s) ≡ in_answering forms ls answers s
unfolding in_answering
answer_first forms ls answers s =
    either (long s) (λ y. if_true _ _ _ (first_long s y) ∙ sym (if_true _ _ _ y)) (λ n. rw (first_all s n))

heard_first : (width room : ℕ) (forms : List Form) (session : Session) (s : List ℕ)
    → heard width room forms session (take 257 s) ≡ heard width room forms session s
unfolding heard
heard_first width room forms idle s = rw (read_first width s)
heard_first width room forms (collecting name ls) s = rw (read_first width s)
heard_first width room forms spoiled s = rw (read_first width s)
heard_first width room forms (opened ls) s = rw (read_first width s)
heard_first width room forms (answering ls answers) s = answer_first forms ls answers s
heard_first width room forms (ready ls answers) s = rw (read_first width s)
heard_first width room forms (printing ls answers n c i) s = rw (read_first width s)

-- in every state the first 257 bytes that are kept of a line are heard as the line
pub hear_first : (width room : ℕ) (b : Bench) (s : List ℕ) → hear width room b (take 257 (kept s)) ≡ hear width room b s
unfolding hear
hear_first width room b s =
    rw (kept_stays (take 257 (kept s)) (stays_take 257 (kept s) (stays_kept s))) (heard_first width room b.forms b.session (kept s))

-- and so in a class, whatever the others do: what a line is to the store, and what it is answered
filing_first : (width : ℕ) (st : Session) (s : List ℕ) → filing_of width st (take 257 (kept s)) ≡ filing_of width st s
unfolding filing_of
filing_first width st s = rw (kept_stays (take 257 (kept s)) (stays_take 257 (kept s) (stays_kept s)), read_first width (kept s))

pub line_first : (width room : ℕ) (c : Class) (t : ℕ) (s : List ℕ) → hear_from width room c t (take 257 (kept s)) ≡ hear_from width room c t s
unfolding hear_from hear_of hear_unless
line_first width room c t s = rw (filing_first width (c.tablet t).session s, unless_first (barred c t (filing_of width (c.tablet t).session s)))
  where
    unless_first : (o : Option Refusal) → hear_unless o width room (desk c t) (take 257 (kept s)) ≡ hear_unless o width room (desk c t) s
    unless_first none = hear_first width room (desk c t) s
    unless_first (some r) = refl
