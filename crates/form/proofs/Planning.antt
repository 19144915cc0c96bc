-- The walk that makes a plan: it begins with nothing noted, and behind the last line the plan is the form's.
use Prim.Native.Nat.{ℕ, ◌+◌, ◌^◌, ◌≤◌, ◌<◌}
use mathlib.Core.Path.{◌≡◌, refl, ◌∙◌, ap}
use mathlib.Core.List.{List, [], ◌++◌, append-nil}
use native.Mathlib.Omega.{arith}
use lib.ListN.{length, replicate}
use lib.Dec.{leb, eqb}
use borrow.Author.Tests.{leb-true}
use Rattle.paper.specs.Command.{FormLine}
use Rattle.paper.specs.Form.{text_of, asked, within_limits}
use Rattle.paper.specs.State.{Storable}
use Rattle.paper.proofs.Law.{and_right}
use Rattle.text.specs.Place.{from}
use Rattle.text.specs.Write.{padded}
use Rattle.command.specs.View.{width}
use Rattle.form.specs.Walk.{first_line}
use Rattle.form.specs.Plan.{defines_in, nothing, unless_none, pieces, pieces_in, plan_of}
use Rattle.form.specs.Noting.{plan_in, PieceRoom, OpenNoted, Going, Walking, Walked, Plannable, Plans}
use Rattle.form.proofs.Lines.{lines_end}
use Rattle.form.proofs.Memory.{piece_room}
use Rattle.form.proofs.Distinct.{asked_few}

-- a form has 40 lines at most
lines_few : (ls : List FormLine) → Storable width ls → length ls ≤ 40
unfolding within_limits
lines_few ls s = leb-true (length ls) 40 (and_right (leb (length (text_of ls)) 1024) (leb (length ls) 40) s.limits)

nothing_noted : replicate 232 0 ≡ plan_in [] []
unfolding plan_in padded defines_in pieces_in
nothing_noted = refl

pub begins : (ls : List FormLine) (text plan : List ℕ) → plan ≡ replicate 232 0 → text ≡ text_of ls → Storable width ls → Going ls text plan 0 0
unfolding from
begins ls text plan clear e s =
    record {
      left = ls;
      defines = [];
      done = [];
      here = e;
      within = omega arith;
      inside = s.inside;
      holds = record { is = clear ∙ nothing_noted; few = omega arith; short = omega arith };
      asks = refl;
      cuts = refl;
      few = asked_few ls s;
      short = omega (arith, lines_few ls s);
    }

-- behind the last line
ends : (ls : List FormLine) (text old new : List ℕ) (start at : ℕ) → Going ls text old start at → length text ≤ at → OpenNoted old start (length text) new → new ≡ plan_of ls
unfolding plan_of plan_in pieces asked
ends ls text old new start at g l n =
    let none = lines_end text at g.left g.here l in
    let last : length text ≡ at = omega (arith, g.within) in
    let h = n.noted g.defines g.done g.holds (omega (arith, g.short)) in
    let all : asked ls ≡ g.defines = g.asks ∙ ap (λ x. g.defines ++ asked x) none ∙ append-nil g.defines in
    let cut : pieces 0 0 ls ≡ g.done ++ unless_none (eqb start at) (record { start = start; end = at; behind = nothing }) [] = g.cuts ∙ ap (λ x. g.done ++ pieces start at x) none in
    h.is ∙ rw (all, cut, last)

-- a place in the text, with what is noted before it
pub record Trails (text ys : List ℕ) (start at : ℕ) : Type 0 where
  pub ok : (ls : List FormLine) → text ≡ text_of ls → Storable width ls → Going ls text ys start at

module _ (text old : List ℕ) (p : Plannable text old) where
  pub trails_first : Trails text old 0 0
  trails_first = record { ok = λ ls e s. begins ls text old p.clear e s }

  pub trails_walk : (ys : List ℕ) (start at : ℕ) (bytes : List ℕ) → Trails text ys start at → at < length text → bytes ≡ first_line (from text at) → length text < 2 ^ 64 → Walking ys start at bytes
  trails_walk ys start at bytes x less stands fits =
      record { text = text; lines = p.lines; going = x.ok p.lines p.is p.storable; before = less; stands = stands; fits = fits }

  pub trails_room : (ys : List ℕ) (start at : ℕ) → Trails text ys start at → PieceRoom ys
  trails_room ys start at x = let g = x.ok p.lines p.is p.storable in piece_room g.defines g.done ys g.holds (omega (arith, g.short))

pub trails_on : (text ys : List ℕ) (start at : ℕ) (bytes zs : List ℕ) (began next : ℕ) → Trails text ys start at → at < length text → bytes ≡ first_line (from text at) → next ≡ at + length bytes + 1 → Walked ys start at bytes zs began → Trails text zs began next
trails_on text ys start at bytes zs began next x less stands is w = record { ok = λ ls e s. rw is (w.goes text ls (x.ok ls e s) less stands) }

pub trails_made : (text ys : List ℕ) (start at : ℕ) (zs : List ℕ) → Trails text ys start at → length text ≤ at → OpenNoted ys start (length text) zs → Plans text zs
trails_made text ys start at zs x l n = record { plans = λ ls e s. ends ls text ys zs start at (x.ok ls e s) l n }
