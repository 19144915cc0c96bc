-- The lines of a form's text one after the other: where a line ends, and that the line which stands there is the form's.
use Prim.Native.Nat.{ℕ, suc, ◌+◌, ◌-◌, ◌≤◌, ◌<◌, max}
use mathlib.Core.Path.{◌≡◌, refl, sym, ◌∙◌, ap}
use mathlib.Core.Bool.{true, false, true≢false}
use mathlib.Core.List.{List, [], ◌∷◌, ◌++◌}
use native.Mathlib.Omega.{arith}
use native.Mathlib.Decide.{dec_le}
use native.Mathlib.Numerals.{add-one}
use lib.ListN.{length, take, drop, get_or, drop_of_length-le, length-append, length-drop}
use lib.Seq.{drop-cons, drop-drop, drop-append-add}
use lib.Dec.{ltb, eqb}
use borrow.Author.Tests.{ltb-false, eq-eqb, ne_eqb}
use Rattle.std.specs.Prelude.{Option, Some, None}
use Rattle.paper.specs.Byte.{any}
use Rattle.paper.specs.Line.{lf, control}
use Rattle.paper.specs.Command.{FormLine, keep, in_range}
use Rattle.paper.specs.Write.{line_text, normal, lines_text}
use Rattle.paper.specs.Form.{text_of}
use Rattle.paper.specs.State.{all_in}
use Rattle.paper.proofs.Law.{if_true, if_false, by_test, and_left, and_right}
use Rattle.paper.proofs.Test.{either}
use Rattle.paper.proofs.RoundTrip.{normal_control}
use Rattle.text.specs.Place.{from}
use Rattle.command.specs.View.{width}
use Rattle.form.specs.Asked.{line_of}
use Rattle.form.specs.Walk.{first_line, part_of, Next, lines_steps}
use Rattle.form.specs.declared.asked.Define.{Define}
use Rattle.form.specs.declared.walk.Line.{Line}
use Rattle.form.specs.declared.walk.Lines.{Lines}

-- the walk to a line's end: one byte more is no LF
pub end_turns : (text : List ℕ) (at i : ℕ) → at + length (first_line (from text at)) ≡ i + length (first_line (from text i)) → i < length text → (get_or text i 0 ≡ 10 → ⊥) → at + length (first_line (from text at)) ≡ i + 1 + length (first_line (from text (i + 1)))
unfolding first_line from
end_turns text at i e h n = e ∙ rw (drop-cons text i 0 h, if_false (eqb (get_or text i 0) 10) _ _ (ne_eqb _ 10 n), add-one) (omega arith)

-- this one is
pub end_here : (text : List ℕ) (at i : ℕ) → at + length (first_line (from text at)) ≡ i + length (first_line (from text i)) → i < length text → get_or text i 0 ≡ 10 → i ≡ at + length (first_line (from text at))
unfolding first_line from
end_here text at i e h n = sym (e ∙ rw (drop-cons text i 0 h, if_true (eqb (get_or text i 0) 10) _ _ (eq-eqb _ 10 n)) (omega arith))

-- there is none
pub end_none : (text : List ℕ) (at i end : ℕ) → at + length (first_line (from text at)) ≡ i + length (first_line (from text i)) → length text ≤ i → (at ≤ length text → i ≤ length text) → end ≡ max at (length text)
    → end ≡ at + length (first_line (from text at))
unfolding first_line from
end_none text at i end e h inside m =
    elim (dec_le at (length text)) [
      | yes le ↦ let last : i ≤ length text = inside le in sym (e ∙ rw (drop_of_length-le text {i = i} h) (omega arith))
      | no past ↦ rw (drop_of_length-le text {i = at} (omega arith)) (omega arith)
    ]

-- a first line has no more bytes than the text
pub first_short : (s : List ℕ) → length (first_line s) ≤ length s
unfolding first_line
first_short [] = omega arith
first_short (b ∷ s) =
    let less = first_short s in
    by_test (λ t. length t ≤ suc (length s)) (eqb b lf) [] (b ∷ first_line s) (λ y. omega arith) (λ n. omega arith)

-- a line from one place to another stands in a text
pub record Inside (text : List ℕ) (at end : ℕ) : Type 0 where
  pub begins : at ≤ end
  pub ends : end ≤ length text

-- a line that starts in the text ends in it
pub end_inside : (text : List ℕ) (at end : ℕ) → at < length text → end ≡ at + length (first_line (from text at)) → Inside text at end
unfolding from
end_inside text at end h e =
    let less = first_short (drop at text) in record { begins = omega arith; ends = omega (arith, length-drop at text) }

-- it stands in the text
first_stands : (s : List ℕ) → take (length (first_line s)) s ≡ first_line s
unfolding first_line
first_stands [] = refl
first_stands (b ∷ s) =
    let rest = first_stands s in
    by_test (λ t. take (length t) (b ∷ s) ≡ t) (eqb b lf) [] (b ∷ first_line s) (λ y. refl) (λ n. ap (λ t. b ∷ t) rest)

-- what stands from its first place up to its end is the line
pub line_stands : (text : List ℕ) (at end : ℕ) → end ≡ at + length (first_line (from text at)) → take (end - at) (drop at text) ≡ first_line (from text at)
unfolding from
line_stands text at end e = let long : end - at ≡ length (first_line (drop at text)) = omega arith in rw long (first_stands (drop at text))

-- a text without control bytes up to an LF is the first line
first_line_ends : (s r : List ℕ) → control s ≡ false → first_line (s ++ (lf ∷ r)) ≡ s
unfolding first_line control any
first_line_ends [] r e = if_true (eqb lf lf) _ _ refl
first_line_ends (b ∷ s) r e =
    either (ltb b 0x20) (λ y. absurd (true≢false (rw y at e)))
    (λ n. let low : 0x20 ≤ b = ltb-false b 0x20 n in if_false (eqb b lf) _ _ (ne_eqb b lf (omega arith)) ∙ rw (first_line_ends s r (rw n at e)))

-- what a line is told to be
abbrev pub Tells : List ℕ → Option Define → Type 0
Tells s told = (l : FormLine) → s ≡ line_text l → in_range width (keep l) ≡ true → told ≡ line_of l

-- a line of a form at a place of its text, and behind its LF the other lines
pub record First (text : List ℕ) (at : ℕ) (rest : List FormLine) (bytes : List ℕ) : Type 0 where
  pub line : FormLine
  pub more : List FormLine
  pub is : rest ≡ line ∷ more
  pub stands : bytes ≡ line_text line
  pub within : at + length bytes + 1 ≤ length text
  pub after : from text (at + length bytes + 1) ≡ text_of more
  pub below : all_in width more ≡ true
  pub range : in_range width (keep line) ≡ true

-- behind the last line nothing is left
pub lines_end : (text : List ℕ) (at : ℕ) (rest : List FormLine) → from text at ≡ text_of rest → length text ≤ at → rest ≡ []
unfolding from text_of lines_text
lines_end text at [] e h = refl
lines_end text at (l ∷ more) e h =
    let none : [] ≡ drop at text = sym (drop_of_length-le text {i = at} h) in
    let some = ap length (none ∙ e) in
    absurd (omega (arith, length-append (normal (keep l)) (lf ∷ text_of more), some))

-- the line at a place before the end
pub line_first : (text : List ℕ) (at : ℕ) (rest : List FormLine) (bytes : List ℕ) → from text at ≡ text_of rest → all_in width rest ≡ true → at < length text → bytes ≡ first_line (from text at) → First text at rest bytes
unfolding from text_of lines_text all_in normal
line_first text at [] bytes e i h p = absurd (omega (arith, length-drop at text, ap length e))
line_first text at (l ∷ more) bytes e i h p =
    let inside : in_range width (keep l) ≡ true = and_left _ (all_in width more) i in
    let stands : bytes ≡ line_text l = p ∙ rw e (first_line_ends (line_text l) _ (normal_control width (keep l) inside)) in
    let behind : at + length bytes + 1 ≡ at + (length (line_text l) + 1) = omega (arith, ap length stands) in
    record {
      line = l;
      more = more;
      is = refl;
      stands = stands;
      within = omega (arith, behind, length-drop at text, ap length e, length-append (line_text l) (lf ∷ text_of more));
      after = rw (behind, ← drop-drop, e) (drop-append-add (line_text l) _ 1);
      below = and_right (in_range width (keep l)) _ i;
      range = inside;
    }

-- the same by the line's end: it is the part of the text up to there
pub record Turn (text : List ℕ) (at : ℕ) (rest : List FormLine) (end : ℕ) : Type 0 where
  pub line : FormLine
  pub more : List FormLine
  pub is : rest ≡ line ∷ more
  pub stands : part_of text at end ≡ line_text line
  pub place : end ≡ at + length (line_text line)
  pub after : from text (end + 1) ≡ text_of more
  pub below : all_in width more ≡ true
  pub range : in_range width (keep line) ≡ true

pub line_turn : (text : List ℕ) (at : ℕ) (rest : List FormLine) (end : ℕ) → from text at ≡ text_of rest → all_in width rest ≡ true → at < length text → end ≡ at + length (first_line (from text at)) → Turn text at rest end
unfolding part_of
line_turn text at rest end e i h p =
    let t = line_first text at rest (first_line (from text at)) e i h refl in
    record {
      line = t.line;
      more = t.more;
      is = t.is;
      stands = line_stands text at end p ∙ t.stands;
      place = p ∙ ap (λ s. at + length s) t.stands;
      after = rw p t.after;
      below = t.below;
      range = t.range;
    }

-- what comes next of the lines of a text
pub record Here (text : List ℕ) (at : ℕ) (line : Line) (t : Lines) : Type 0 where
  pub before : at < length text
  pub place : line.at ≡ at
  pub stands : line.bytes.now ≡ first_line (from text at)
  pub next : t.at ≡ at + length line.bytes.now + 1
  pub text_same : t.text.now ≡ text

pub line_here : (s : Lines) (r : Option Line) (t : Lines) (line : Line) (text : List ℕ) → lines_steps s r t → r ≡ Some line → s.text.now ≡ text → Here text s.at line t
unfolding lines_steps
line_here s r t line text h e q =
    let n : Next s line t = rw e at h in
    record { before = rw (← q) n.before; place = n.place; stands = rw (← q) n.bytes; next = n.next; text_same = n.text ∙ q }

-- behind the last of them
pub lines_past : (s : Lines) (r : Option Line) (t : Lines) (text : List ℕ) → lines_steps s r t → r ≡ None → s.text.now ≡ text → length text ≤ s.at
unfolding lines_steps
lines_past s r t text h e q = let done : (length s.text.now ≤ s.at) × (t ≡ s) = rw e at h in rw (← q) done.0
