-- The check of a form line by line: the lines so far keep the rules, so that those from a place on decide about the form.
use Prim.Native.Nat.{ℕ, suc, ◌+◌, ◌≤◌, ◌<◌}
use mathlib.Core.Path.{◌≡◌, refl, sym, ◌∙◌, ap}
use mathlib.Core.Bool.{Bool, true, false}
use mathlib.Core.List.{List, [], ◌∷◌, ◌++◌}
use mathlib.Core.Option.{none, some}
use Rattle.std.specs.Prelude.{Option, Some, None}
use native.Mathlib.Omega.{arith}
use native.Mathlib.Numerals.{add-one}
use lib.ListN.{length}
use lib.Dec.{ltb}
use borrow.Author.Tests.{lt-ltb, le-ltb}
use Rattle.paper.specs.Command as P
use Rattle.paper.specs.Command.{all}
use Rattle.paper.specs.Form.{text_of, asked, rules, first_broken, unsound_at}
use Rattle.paper.specs.State.{all_in}
use Rattle.paper.proofs.Law.{if_true, if_false}
use Rattle.text.specs.Place.{from}
use Rattle.command.specs.View.{width}
use Rattle.form.specs.Walk.{first_line}
use Rattle.form.specs.Sound.{Agrees, Judges, line_number}
use Rattle.form.proofs.Lines.{First, line_first, lines_end}
use Rattle.form.proofs.Judged.{Checks}

-- a line that keeps the rules leaves the rest to the lines below it
broken_below : (k : ℕ) (above : List P.Define) (l : P.FormLine) (ls : List P.FormLine) → all (rules k above l) ≡ true → first_broken k above (l ∷ ls) ≡ first_broken (k + 1) (above ++ asked (l ∷ [])) ls
unfolding first_broken
broken_below k above l ls e = rw (e, first_broken, add-one)

-- one that breaks a rule is the first
broken_here : (k : ℕ) (above : List P.Define) (l : P.FormLine) (ls : List P.FormLine) → all (rules k above l) ≡ false → first_broken k above (l ∷ ls) ≡ some (k + 1)
unfolding first_broken
broken_here k above l ls e = rw (e, first_broken, add-one)

-- the lines that are left of a form, with the definitions above them
pub record Below (text : List ℕ) (ls : List P.FormLine) (lens : List (Option ℕ)) (at k : ℕ) : Type 0 where
  pub left : List P.FormLine
  pub above : List P.Define
  pub here : from text at ≡ text_of left
  pub inside : all_in width left ≡ true
  pub agrees : Agrees lens above
  pub same : unsound_at ls ≡ first_broken k above left

-- so many lines before a place keep the rules
pub record Checking (text : List ℕ) (lens : List (Option ℕ)) (at k : ℕ) : Type 0 where
  pub few : k ≤ at
  pub whole : length lens ≡ 26
  pub below : (ls : List P.FormLine) → text ≡ text_of ls → all_in width ls ≡ true → Below text ls lens at k

-- the check begins
pub check_begins : (text : List ℕ) (lens : List (Option ℕ)) → Agrees lens [] → Checking text lens 0 0
unfolding from unsound_at
check_begins text lens a = record {
  few = omega arith;
  whole = a.whole;
  below = λ ls e i. record { left = ls; above = []; here = e; inside = i; agrees = a; same = refl };
}

module _ (text : List ℕ) (lens : List (Option ℕ)) (at k : ℕ) (bytes : List ℕ) (r : Bool) (new : List (Option ℕ)) (h : Checking text lens at k) (p : at < length text)
    (e : bytes ≡ first_line (from text at)) (checks : Checks k bytes lens r new) where
  -- the line is judged below the definitions above it
  judged : (above : List P.Define) → Agrees lens above → {rest : List P.FormLine} (t : First text at rest bytes) → Judges k above t.line r new
  judged above a t = checks t.line above t.stands t.range a

  -- a line keeps the rules
  pub check_turns : length new ≡ length lens → r ≡ true → (next : ℕ) → next ≡ at + length bytes + 1 → Checking text new next (k + 1)
  check_turns same y next n = record { few = omega (arith, h.few); whole = same ∙ h.whole; below = λ ls q i. goes ls (h.below ls q i) }
    where
      goes : (ls : List P.FormLine) → Below text ls lens at k → Below text ls new next (k + 1)
      goes ls b =
          let t = line_first text at b.left bytes b.here b.inside p e in
          let j = judged b.above b.agrees t in
          record {
            left = t.more;
            above = b.above ++ asked (t.line ∷ []);
            here = rw n t.after;
            inside = t.below;
            agrees = j.notes y;
            same = b.same ∙ ap (first_broken k b.above) t.is ∙ broken_below k b.above t.line t.more (sym j.judged ∙ y);
          }

  -- a line breaks one
  pub check_breaks : r ≡ false → (ls : List P.FormLine) → text ≡ text_of ls → all_in width ls ≡ true → Some (k + 1) ≡ line_number (unsound_at ls)
  unfolding line_number
  check_breaks n ls q i =
      let b = h.below ls q i in
      let t = line_first text at b.left bytes b.here b.inside p e in
      let j = judged b.above b.agrees t in
      sym (ap line_number (b.same ∙ ap (first_broken k b.above) t.is ∙ broken_here k b.above t.line t.more (sym j.judged ∙ n)))

-- no line is left, and one of the first two is missing
pub check_short : (text : List ℕ) (lens : List (Option ℕ)) (at k : ℕ) → Checking text lens at k → length text ≤ at → k < 2 → (ls : List P.FormLine) → text ≡ text_of ls → all_in width ls ≡ true → Some (k + 1) ≡ line_number (unsound_at ls)
unfolding line_number first_broken
check_short text lens at k h p l ls q i =
    let b = h.below ls q i in
    rw add-one (sym (ap line_number (b.same ∙ ap (first_broken k b.above) (lines_end text at b.left b.here p) ∙ if_true (ltb k 2) (some (suc k)) none (lt-ltb k 2 l))))

-- no line is left, and none is missing
pub check_ends : (text : List ℕ) (lens : List (Option ℕ)) (at k : ℕ) → Checking text lens at k → length text ≤ at → 2 ≤ k → (ls : List P.FormLine) → text ≡ text_of ls → all_in width ls ≡ true → None ≡ line_number (unsound_at ls)
unfolding line_number first_broken
check_ends text lens at k h p l ls q i =
    let b = h.below ls q i in
    sym (ap line_number (b.same ∙ ap (first_broken k b.above) (lines_end text at b.left b.here p) ∙ if_false (ltb k 2) (some (suc k)) none (le-ltb k 2 l)))
