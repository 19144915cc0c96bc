-- A print set: its lines are within the label's limits and read back as they were, `N`, `Q`, `Z`, plain lines and `P1,c` in
-- this order, in at most 10,291 bytes, which depend on the form's text, the answers, the number and the copies alone.
-- The idea: a sound form draws lines in range, and what is in range reads back from its normal form.
use Prim.Native.Nat.{ℕ, zero, suc, ◌+◌, ◌-◌, ◌*◌, ◌≤◌}
use mathlib.Core.Path.{◌≡◌, refl, sym, ◌∙◌, ap}
use mathlib.Core.Bool.{true, ◌&&◌, and_assoc, false≢true}
use mathlib.Core.List.{List, [], ◌∷◌, ◌++◌, map, append_assoc}
use mathlib.Core.Option.{none, some, some-injective, some-ne-none}
use native.Mathlib.Omega.{arith}
use lib.ListN.{length, length-append}
use lib.Dec.{leb}
use borrow.Author.Tests.{leb-true, le-leb}
use Rattle.paper.specs.Byte.{bytes, when◌then◌else◌, decimal}
use Rattle.paper.specs.Line.{lf, cut}
use Rattle.paper.specs.Command.{Value, Draw, size, direction, put, bar, frame, Define, FormLine, draw, define, Command, new, keep, print, ranges, all, all_of, in_range}
use Rattle.paper.specs.Refusal.{accepted}
use Rattle.paper.specs.Write.{commas, normal, lines_text}
use Rattle.paper.specs.Form.{text_of, within_limits, asked, is_size, is_direction, drawing, in_place, first_broken, unsound_at}
use Rattle.paper.specs.Set.{value_in, placed, drawn, set_lines, set_of, commands_of, is_new, draws, is_last, is_text, is_plain, ends_set, is_set, is_set_text, well_formed}
use Rattle.paper.specs.Bench.{printing, Bench, outcome, replied, after_set, taken, take_set}
use Rattle.paper.specs.State.{all_in, Storable, fitting, Printing, Sound, Sane}
use Rattle.paper.proofs.Law.{and_left, and_right, and_both}
use Rattle.paper.proofs.Number.{decimal_small, decimal_is_within}
use Rattle.paper.proofs.RoundTrip.{normal_length}
use Rattle.paper.proofs.Split.{all_range, commands_back, form_back}
use Rattle.paper.proofs.Counter.{hold_in_every_set}
use Rattle.paper.proofs.Store.{same_self}
use Rattle.paper.proofs.Filled.{broken_cons, answers_serve, drawn_range}

-- ranges of two lists of commands
all_range_append : (width : ℕ) (cs ds : List Command) → all_range width (cs ++ ds) ≡ (all_range width cs && all_range width ds)
unfolding all_range
all_range_append width [] ds = refl
all_range_append width (c ∷ cs) ds =
    rw (all_range_append width cs ds) (sym (and_assoc (in_range width c) (all_range width cs) (all_range width ds)))

-- the text of two lists of commands
lines_text_append : (cs ds : List Command) → lines_text (cs ++ ds) ≡ lines_text cs ++ lines_text ds
unfolding lines_text
lines_text_append [] ds = refl
lines_text_append (c ∷ cs) ds =
    rw (lines_text_append cs ds) (sym (append_assoc (normal c) (lf ∷ lines_text cs) (lines_text ds)))

-- a line with its value in place is a `Q` if it was
placed_size : (values : Value → List ℕ) (d : Draw) → is_size (placed values d) ≡ is_size d
unfolding is_size placed
placed_size values (size p₁ p₂) = refl
placed_size values (direction d) = refl
placed_size values (put s c) = refl
placed_size values (bar pen x y w t) = refl
placed_size values (frame x₁ y₁ t x₂ y₂) = refl

-- and a `Z` if it was
placed_direction : (values : Value → List ℕ) (d : Draw) → is_direction (placed values d) ≡ is_direction d
unfolding is_direction placed
placed_direction values (size p₁ p₂) = refl
placed_direction values (direction d) = refl
placed_direction values (put s c) = refl
placed_direction values (bar pen x y w t) = refl
placed_direction values (frame x₁ y₁ t x₂ y₂) = refl

-- from line 3 on every line that draws is plain, its value in place
placed_plain : (values : Value → List ℕ) (k : ℕ) (d : Draw) → in_place (suc (suc k)) (draw d) ≡ true → is_plain (placed values d) ≡ true
unfolding in_place drawing is_size is_direction placed is_plain is_text
placed_plain values k (size p₁ p₂) e = absurd (false≢true e)
placed_plain values k (direction d) e = absurd (false≢true e)
placed_plain values k (put s c) e = refl
placed_plain values k (bar pen x y w t) e = refl
placed_plain values k (frame x₁ y₁ t x₂ y₂) e = refl

-- a plain line before the end of a set
ends_cons : (most : ℕ) (c : Command) (cs : List Command) → draws is_plain c ≡ true → ends_set most cs ≡ true → ends_set (suc most) (c ∷ cs) ≡ true
unfolding ends_set
ends_cons most c [] p e = absurd (false≢true e)
ends_cons most c (d ∷ cs) p e = and_both _ _ p e

-- what the lines from line 3 on draw, and then `P1,c`, end a set
ends_the_set : (values : Value → List ℕ) (copies most k : ℕ) (above : List Define) (ls : List FormLine) → first_broken (suc (suc k)) above ls ≡ none → length ls ≤ most → ends_set most (drawn values ls ++ (print 1 copies ∷ [])) ≡ true
unfolding drawn ends_set is_last draws drawing
ends_the_set values copies most k above [] b h = refl
ends_the_set values copies zero k above (draw d ∷ ls) b h = absurd (omega arith)
ends_the_set values copies (suc most) k above (draw d ∷ ls) b h =
    let (place, sound, below) = broken_cons (suc (suc k)) above (draw d) ls b in
    ends_cons most (keep (draw (placed values d))) (drawn values ls ++ (print 1 copies ∷ []))
    (placed_plain values k d place)
    (ends_the_set values copies most (suc k) _ ls below (omega arith))
ends_the_set values copies most k above (define d ∷ ls) b h =
    let (place, sound, below) = broken_cons (suc (suc k)) above (define d) ls b in
    ends_the_set values copies most (suc k) _ ls below (omega arith)

-- a sound form of at most 40 lines makes a set: `N`, `Q`, `Z`, at most 38 plain lines, `P1,c`
pub sound_set : (values : Value → List ℕ) (copies : ℕ) (ls : List FormLine) → unsound_at ls ≡ none → length ls ≤ 40 → is_set (set_lines values ls copies) ≡ true
unfolding unsound_at first_broken in_place drawing set_lines drawn is_set is_new draws when◌then◌else◌
sound_set values copies [] e h = absurd (some-ne-none _ e)
sound_set values copies (define a ∷ ls) e h = absurd (false≢true (broken_cons 0 [] (define a) ls e).0)
sound_set values copies (draw a ∷ []) e h = absurd (some-ne-none _ (broken_cons 0 [] (draw a) [] e).2)
sound_set values copies (draw a ∷ define b ∷ ls) e h =
    let (first, _, rest) = broken_cons 0 [] (draw a) (define b ∷ ls) e in
    absurd (false≢true (broken_cons 1 (asked (draw a ∷ [])) (define b) ls rest).0)
sound_set values copies (draw a ∷ draw b ∷ ls) e h =
    let (first, _, rest) = broken_cons 0 [] (draw a) (draw b ∷ ls) e in
    let (second, _, below) = broken_cons 1 (asked (draw a ∷ [])) (draw b) ls rest in
    rw (placed_size values a, first, placed_direction values b, second) (ends_the_set values copies 38 0 _ ls below (omega arith))

-- a form within its limits has at most 40 lines
few_lines : (ls : List FormLine) → within_limits ls ≡ true → length ls ≤ 40
unfolding within_limits
few_lines ls e = leb-true _ _ (and_right (leb (length (text_of ls)) 1024) _ e)

-- a form draws no more lines than it has
drawn_few : (values : Value → List ℕ) (ls : List FormLine) → length (drawn values ls) ≤ length ls
unfolding drawn
drawn_few values [] = omega arith
drawn_few values (draw d ∷ ls) = omega (arith, drawn_few values ls)
drawn_few values (define d ∷ ls) = omega (arith, drawn_few values ls)

-- commands in range take at most 257 bytes each, with LF
pub lines_room : (width : ℕ) (cs : List Command) → width ≤ 10000 → all_range width cs ≡ true → length (lines_text cs) ≤ 257 * length cs
unfolding lines_text all_range
lines_room width [] w e = omega arith
lines_room width (c ∷ cs) w e =
    let digits : length (decimal (width - 1)) ≤ 4 = decimal_is_within 4 (width - 1) (omega arith) (omega arith) in
    rw length-append
    (omega (arith, normal_length width c w (and_left _ _ e), lines_room width cs w (and_right (in_range width c) _ e)))

-- `P1,c` takes at most 9 bytes, with LF
last_room : (copies : ℕ) → copies ≤ 65535 → length (lines_text (print 1 copies ∷ [])) ≤ 9
unfolding lines_text normal commas bytes
last_room copies h =
    let digits : length (decimal copies) ≤ 5 = decimal_is_within 5 copies (omega arith) (omega arith) in
    rw (decimal_small 1 (omega arith), length-append (decimal copies)) (omega arith)

-- `N` takes 2 bytes, with LF
first_room : (cs ds : List Command) → length (lines_text (new ∷ (cs ++ ds))) ≡ 2 + (length (lines_text cs) + length (lines_text ds))
unfolding lines_text normal bytes
first_room cs ds = rw (lines_text_append cs ds, length-append (lines_text cs)) (omega arith)

-- a set that the form's answers and numbers allow
module _ (width : ℕ) (ls : List FormLine) (answers : List (List ℕ)) (n c i : ℕ) (good : Storable width ls) (fit : fitting (asked ls) answers ≡ true) (out : Printing ls answers n c i) where
  -- what the form draws in it is in range
  drawn_in : all_range width (drawn (value_in (asked ls) answers i) ls) ≡ true
  unfolding unsound_at
  drawn_in =
      let hold = hold_in_every_set (n - 1) i (asked ls) answers out.holding (omega arith) in
      drawn_range width 0 [] _ ls (answers_serve width ls answers i good.inside fit hold) good.inside good.sound

  -- every line of it is within the label's limits
  pub set_range : all_range width (set_lines (value_in (asked ls) answers i) ls c) ≡ true
  unfolding set_lines all_range in_range ranges all_of all
  set_range = rw (all_range_append width, drawn_in, le-leb 1 c out.some_copies, le-leb c 65535 out.copied)

  -- it has at most 10,291 bytes
  pub set_room : width ≤ 10000 → length (set_of ls answers c i) ≤ 10291
  unfolding set_of set_lines
  set_room w =
      let few = few_lines ls good.limits in
      rw first_room
      (omega (arith, lines_room width _ w drawn_in, drawn_few (value_in (asked ls) answers i) ls, last_room c out.copied))

  -- its lines read back as they were
  pub set_lines_back : width ≤ 10000 → commands_of width (cut (set_of ls answers c i)) ≡ some (set_lines (value_in (asked ls) answers i) ls c)
  unfolding set_of
  set_lines_back w = commands_back width _ w set_range

  -- it is well formed
  pub set_well_formed : width ≤ 10000 → well_formed width (set_of ls answers c i) ≡ true
  unfolding well_formed is_set_text set_of
  set_well_formed w =
      rw (set_lines_back w, sound_set (value_in (asked ls) answers i) c ls good.sound (few_lines ls good.limits))
      (same_self (set_of ls answers c i))

-- lines of a form are told apart as commands
keep_injective : (ls ms : List FormLine) → map keep ls ≡ map keep ms → ls ≡ ms
keep_injective [] [] e = refl
keep_injective [] (m ∷ ms) e = cc
keep_injective (l ∷ ls) [] e = cc
keep_injective (l ∷ ls) (m ∷ ms) e =
    let rest : map keep ls ≡ map keep ms = cc in
    let same' = keep_injective ls ms rest in
    cc

-- forms of one text have the same lines
pub text_form : (width : ℕ) (ls ms : List FormLine) → width ≤ 10000 → all_in width ls ≡ true → all_in width ms ≡ true → text_of ls ≡ text_of ms → ls ≡ ms
text_form width ls ms w e f t =
    let one = form_back width ls w e in
    let other = form_back width ms w f in
    keep_injective ls ms (some-injective _ _ (sym one ∙ rw t other))

-- a set's bytes depend on the form's text, the answers, the number and the copies alone
pub set_depends : (width : ℕ) (ls ms : List FormLine) (answers : List (List ℕ)) (c i : ℕ) → width ≤ 10000 → all_in width ls ≡ true → all_in width ms ≡ true → text_of ls ≡ text_of ms → set_of ls answers c i ≡ set_of ms answers c i
set_depends width ls ms answers c i w e f t = ap (λ l. set_of l answers c i) (text_form width ls ms w e f t)

-- a take with room for any set gives the set that is next, and goes on
pub take_gives : (width room : ℕ) (b : Bench) (ls : List FormLine) (answers : List (List ℕ)) (n c i : ℕ) → width ≤ 10000 → 10291 ≤ room → Sane width b → b.session ≡ printing ls answers n c i → take_set room b ≡ record { answer = accepted (set_of ls answers c i); next = record { forms = b.forms; session = after_set ls answers n c i } }
unfolding take_set taken replied outcome when◌then◌else◌
take_gives width room b ls answers n c i w more sane was =
    let sound : Sound width b.forms (printing ls answers n c i) = rw was at sane.session in
    let short = set_room width ls answers n c i sound.0 sound.1 sound.2 w in
    rw (was, le-leb (length (set_of ls answers c i)) room (omega arith))
