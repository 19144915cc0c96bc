-- A call with a lent buffer has one outcome, since each refusal has its own word; and a refused call writes nothing.
use mathlib.Core.Path.{◌≡◌, refl, sym, ◌∙◌, ap}
use mathlib.Core.List.{List}
use Prim.Native.Nat.{ℕ}
use Rattle.std.specs.Prelude.{Result, Ok, Err}
use Rattle.paper.specs.Refusal as R
use Rattle.command.specs.View.{refusal_of}
use Rattle.command.specs.Answer.{Reports, Meets}
use Rattle.command.specs.declared.Refusal.{Refusal}
use Rattle.command.specs.declared.Refusal.TheVariants as W

-- a refused call writes nothing
pub refused_keeps : (a : R.Answer) (old new : List ℕ) (why : Refusal) → Meets a old new (Err why) → new ≡ old
unfolding Reports R.lent
refused_keeps (R.accepted bytes) old new why m = absurd m.reports
refused_keeps (R.refused r) old new why m = m.buffer

-- the code's refusal for each of the paper's
refusal_for : R.Refusal → Refusal
refusal_for R.too_long = W.TooLong
refusal_for R.control_byte = W.ControlByte
refusal_for R.not_now = W.NotNow
refusal_for R.unknown = W.Unknown
refusal_for R.malformed = W.Malformed
refusal_for R.out_of_range = W.OutOfRange
refusal_for R.overfull = W.Overfull
refusal_for R.is_spoiled = W.IsSpoiled
refusal_for (R.unsound line) = W.Unsound line
refusal_for R.name_taken = W.NameTaken
refusal_for R.no_room = W.NoRoom
refusal_for R.absent = W.Absent
refusal_for R.unfit = W.Unfit
refusal_for R.overrun = W.Overrun
refusal_for R.too_short = W.TooShort
refusal_for R.not_printing = W.NotPrinting
refusal_for R.others_collect = W.OthersCollect
refusal_for R.no_tablet = W.NoTablet
refusal_for R.held_open = W.HeldOpen

-- it is the one with that word
refusal_back : (why : Refusal) → refusal_for (refusal_of why) ≡ why
unfolding refusal_of refusal_for
refusal_back W.TooLong = refl
refusal_back W.ControlByte = refl
refusal_back W.NotNow = refl
refusal_back W.Unknown = refl
refusal_back W.Malformed = refl
refusal_back W.OutOfRange = refl
refusal_back W.Overfull = refl
refusal_back W.IsSpoiled = refl
refusal_back (W.Unsound line) = refl
refusal_back W.NameTaken = refl
refusal_back W.NoRoom = refl
refusal_back W.Absent = refl
refusal_back W.Unfit = refl
refusal_back W.Overrun = refl
refusal_back W.TooShort = refl
refusal_back W.NotPrinting = refl
refusal_back W.OthersCollect = refl
refusal_back W.NoTablet = refl
refusal_back W.HeldOpen = refl

-- two answers that report the same are one
reports_one : (a : R.Answer) (r r' : Result ℕ Refusal) → Reports r a → Reports r' a → r ≡ r'
unfolding Reports
reports_one (R.accepted bytes) (Ok len) (Ok len') p q = ap Ok (p ∙ sym q)
reports_one (R.accepted bytes) (Ok len) (Err why) p q = absurd q
reports_one (R.accepted bytes) (Err why) r' p q = absurd p
reports_one (R.refused x) (Ok len) r' p q = absurd p
reports_one (R.refused x) (Err why) (Ok len) p q = absurd q
reports_one (R.refused x) (Err why) (Err why') p q =
    ap Err (sym (refusal_back why) ∙ ap refusal_for (p ∙ sym q) ∙ refusal_back why')

-- a call has one outcome: the answer and the buffer after it
pub meets_one : (a : R.Answer) (old new new' : List ℕ) (r r' : Result ℕ Refusal) → Meets a old new r → Meets a old new' r' → (new ≡ new') × (r ≡ r')
meets_one a old new new' r r' p q = (p.buffer ∙ sym q.buffer, reports_one a r r' p.reports q.reports)
