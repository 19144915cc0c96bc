-- A line with what is dropped of it: its first 257 bytes that are kept are heard as the line.
use Prim.Native.Nat.{ℕ, ◌≤◌}
use mathlib.Core.Path.{◌≡◌, sym, ◌∙◌, ap, subst}
use mathlib.Core.Bool.{true, false}
use mathlib.Core.List.{List}
use native.Mathlib.Omega.{arith}
use lib.ListN.{length, take, length-take}
use lib.Seq.{take_all}
use lib.Dec.{eqb}
use borrow.Author.Tests.{le-ltb, eqb-true, eqb-false}
use Rattle.std.specs.Prelude.{Result}
use Rattle.paper.specs.Byte.{every}
use Rattle.paper.specs.Command.{is_shown}
use Rattle.paper.specs.Line.{kept, long, control}
use Rattle.paper.specs.Form.{Form}
use Rattle.paper.specs.Bench as P
use Rattle.paper.proofs.Law.{if_true, if_false}
use Rattle.paper.proofs.Test.{either}
use Rattle.paper.proofs.Text.{clear_between, clear_control}
use Rattle.paper.proofs.Dropped.{kept_stays, stays_kept, stays_take, kept_clear}
use Rattle.paper.proofs.Long.{read_first, hear_first}
use Rattle.command.specs.View.{width}
use Rattle.command.specs.declared.Refusal.{Refusal}
use Rattle.command.specs.declared.Refusal.TheVariants as W
use Rattle.session.specs.Memory.{Session, Shelf}
use Rattle.session.specs.Outcome.{Hears, Refuses, after_line}
use Rattle.wait.specs.Waiting.{Waits, fault_of}
use Rattle.listen.proofs.Heeding.{hears_long, hears_control}

-- a line leads to the same form as its first 257 bytes
after_first : (n : ℕ) (fs : List Form) (st : P.Session) (s : List ℕ) → after_line n fs st (take 257 s) ≡ after_line n fs st s
unfolding after_line
after_first n fs st s = rw (read_first width s)

-- a line of at most 256 bytes is not too long
below : (s : List ℕ) → length s ≤ 256 → long s ≡ false
unfolding long
below s few = le-ltb 256 (length s) few

-- what waits of a line is heard as the line
pub heard_waits : (room : ℕ) (b : P.Bench) (s line : List ℕ) (n : ℕ) → Waits (kept s) line n → P.hear width room b (take n line) ≡ P.hear width room b s
unfolding P.hear
heard_waits room b s line n w =
    ap (λ x. P.heard width room b.forms b.session (kept x)) w.front ∙ hear_first width room b s

-- and leads to the same form
pub after_waits : (n : ℕ) (fs : List Form) (st : P.Session) (s line : List ℕ) (k : ℕ) → Waits (kept s) line k → after_line n fs st (kept (take k line)) ≡ after_line n fs st (kept s)
after_waits n fs st s line k w =
    ap (λ x. after_line n fs st (kept x)) w.front
    ∙ ap (after_line n fs st) (kept_stays (take 257 (kept s)) (stays_take 257 (kept s) (stays_kept s)))
    ∙ after_first n fs st (kept s)

module _ (session : Session) (shelf : Shelf) (s line : List ℕ) (n : ℕ) (w : Waits (kept s) line n) where
  -- a line with a control byte among those that are looked at is refused by what can be seen of it
  pub kept_fault : (b : List ℕ) (answer : Result ℕ Refusal) (next : Session) → control (take n line) ≡ true → Refuses (fault_of n) session answer next → Hears session shelf (kept s) b b answer next shelf
  unfolding fault_of
  kept_fault b answer next c r =
      either (eqb n 257)
      (λ y. hears_long session shelf (kept s) b answer next (omega (arith, eqb-true n 257 y, w.counts, length-take 257 (kept s))) (rw (if_true {A = Refusal} _ W.TooLong W.ControlByte y) at r))
      (λ m.
      let few : length (kept s) ≤ 256 = omega (arith, eqb-false n 257 m, w.counts, length-take 257 (kept s)) in
      let all : take n line ≡ kept s = w.front ∙ take_all 257 (kept s) (omega arith) in
      hears_control session shelf (kept s) b answer next (below (kept s) few) (subst (λ x. control x ≡ true) all c) (rw (if_false {A = Refusal} _ W.TooLong W.ControlByte m) at r))

-- nothing is dropped of a line without control bytes
pub hears_shown : (session : Session) (shelf : Shelf) (s old new : List ℕ) (answer : Result ℕ Refusal) (next : Session) (more : Shelf) → every is_shown s ≡ true
    → Hears session shelf s old new answer next more → Hears session shelf (kept s) old new answer next more
unfolding is_shown
hears_shown session shelf s old new answer next more e h =
    subst (λ x. Hears session shelf x old new answer next more) (sym (kept_clear s (clear_control s (clear_between 0x20 0xff (omega arith) s e)))) h
