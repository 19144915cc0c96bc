-- Demand 3 of the paper: a stored form, fully and fittingly answered and asked for sets that keep its counters in bounds,
-- gives every set, each well formed; then the bench is as it was. The idea: each line of the order is accepted and leads
-- from state to state, and a take with enough room gives the set that is next.
use mathlib.Core.Path.{◌≡◌, refl, sym, ap}
use mathlib.Core.Bool.{true, false, ◌&&◌, false≢true}
use mathlib.Core.List.{List, [], ◌∷◌, ◌++◌, map, append-nil, append_assoc}
use mathlib.Core.Option.{some, some-ne-none}
use Prim.Native.Nat.{ℕ, zero, suc, ◌+◌, ◌≤◌, ◌<◌}
use native.Mathlib.Omega.{arith}
use lib.ListN.{length, drop, length-append}
use lib.Dec.{leb, eqb}
use borrow.Author.Tests.{leb-true, le-leb, le-ltb, eq-eqb, ne_eqb}
use Rattle.paper.specs.Byte.{when◌then◌else◌, every, same}
use Rattle.paper.specs.Line.{is_digit, long, control, cut}
use Rattle.paper.specs.Command.{Define, counting, varying, FormLine, draw, define, file, recall, ask, print, is_name, is_shown, in_range, ranges, draw_ranges, define_ranges, filing_ranges, all, all_of}
use Rattle.paper.specs.Refusal.{Answer, accepted}
use Rattle.paper.specs.Write.{normal}
use Rattle.paper.specs.Form.{Form, text_of, asked, find}
use Rattle.paper.specs.Set.{fits, value_in, set_lines, set_of, commands_of, well_formed}
use Rattle.paper.specs.Bench.{Session, idle, ready, printing, Bench, outcome, done, opened_with, answered_of, answered, obeyed, in_opened, in_ready, in_answering, heard, hear, after_set}
use Rattle.paper.specs.Program.{enough}
use Rattle.paper.specs.State.{all_in, AllStored, Storable, Printing, fitting, Sane}
use Rattle.paper.specs.Calls.{Call, taking, called, answers_to, after_calls, saying, quiet, asking, order, sets_from, Orders}
use Rattle.paper.proofs.Law.{and_left, and_right, if_true, if_false}
use Rattle.paper.proofs.Test.{held, either, tests}
use Rattle.paper.proofs.Text.{same_eq, clear_control, clear_between}
use Rattle.paper.proofs.Split.{all_range}
use Rattle.paper.proofs.Store.{find_storable, recall_opens}
use Rattle.paper.proofs.Dropped.{kept_clear, kept_normal}
use Rattle.paper.proofs.RoundTrip.{read_normal}
use Rattle.paper.proofs.SetOf.{set_range, set_room, set_lines_back, set_well_formed, text_form, take_gives}

-- calls give these answers and leave this bench
pub record Goes (width : ℕ) (b : Bench) (cs : List Call) (given : List Answer) (next : Bench) : Type 0 where
  pub answers : answers_to width b cs ≡ given
  pub leaves : after_calls width b cs ≡ next

-- no call
goes_none : (width : ℕ) (b : Bench) → Goes width b [] [] b
unfolding answers_to after_calls
goes_none width b = record { answers = refl; leaves = refl }

-- one call and then others
goes_next : (width : ℕ) (b mid next : Bench) (c : Call) (cs : List Call) (a : Answer) (xs : List Answer) → called width b c ≡ record { answer = a; next = mid } → Goes width mid cs xs next → Goes width b (c ∷ cs) (a ∷ xs) next
unfolding answers_to after_calls
goes_next width b mid next c cs a xs e g = record { answers = rw e (ap (λ r. a ∷ r) g.answers); leaves = rw e g.leaves }

-- some calls and then others
goes_then : (width : ℕ) (b mid next : Bench) (cs ds : List Call) (xs ys : List Answer) → Goes width b cs xs mid → Goes width mid ds ys next → Goes width b (cs ++ ds) (xs ++ ys) next
unfolding answers_to after_calls
goes_then width b mid next [] ds xs ys g h = record { answers = rw (← g.answers, g.leaves) h.answers; leaves = rw g.leaves h.leaves }
goes_then width b mid next (c ∷ cs) ds xs ys g h =
    let rest = goes_then width (called width b c).next mid next cs ds (answers_to width (called width b c).next cs) ys (record { answers = refl; leaves = g.leaves }) h in
    record { answers = rw (← g.answers, rest.answers); leaves = rest.leaves }

-- lines that are accepted with nothing to write, whatever room the lent buffers have, and leave this bench
abbrev Accepts : ℕ → Bench → List (List ℕ) → Bench → Type 0
Accepts width b ss next = (rooms : List ℕ) → length rooms ≡ length ss → Goes width b (saying rooms ss) (quiet ss) next

-- no line
accepts_none : (width : ℕ) (b : Bench) → Accepts width b [] b
unfolding saying quiet
accepts_none width b [] e = goes_none width b
accepts_none width b (room ∷ rooms) e = absurd (omega arith)

-- one line and then others
accepts_next : (width : ℕ) (b mid next : Bench) (s : List ℕ) (ss : List (List ℕ)) → ((room : ℕ) → hear width room b s ≡ record { answer = accepted []; next = mid }) → Accepts width mid ss next → Accepts width b (s ∷ ss) next
unfolding saying quiet called
accepts_next width b mid next s ss e more [] l = absurd (omega arith)
accepts_next width b mid next s ss e more (room ∷ rooms) l =
    goes_next width b mid next _ _ _ _ (e room) (more rooms (omega arith))

-- the name of a stored form is a name
find_named : (width : ℕ) (name : List ℕ) (fs : List Form) (ls : List FormLine) → AllStored width fs → find name fs ≡ some ls → is_name name ≡ true
unfolding find when◌then◌else◌
find_named width name [] ls h e = absurd (some-ne-none _ (sym e))
find_named width name (f ∷ fs) ls h e =
    either (same name f.name)
    (λ y. rw (same_eq name f.name y) h.0)
    (λ n. find_named width name fs ls h.3 (rw n at e))

-- a line that may be an answer: neither too long nor with a byte below 20H
pub record Sendable (a : List ℕ) : Type 0 where
  pub short : long a ≡ false
  pub clear : control a ≡ false

-- a fitting answer is one
pub fits_sendable : (d : Define) (a : List ℕ) → all_of (define_ranges d) ≡ true → fits d a ≡ true → Sendable a
unfolding fits define_ranges long is_digit is_shown
fits_sendable (counting n len letter by prompt) a r e =
    let h = held _ r in
    let most : length a ≤ len = leb-true _ _ (and_right (leb 1 (length a)) _ (and_left _ _ e)) in
    record {
      short = le-ltb 256 (length a) (omega (tests, h.1.0.1.0));
      clear = clear_control a (clear_between 0x30 0x39 (omega arith) a (and_right (leb 1 (length a) && leb (length a) len) _ e));
    }
fits_sendable (varying n len letter prompt) a r e =
    let h = held _ r in
    let most : length a ≤ len = leb-true _ _ (and_left _ _ e) in
    record {
      short = le-ltb 256 (length a) (omega (tests, h.1.0.1.0));
      clear = clear_control a (clear_between 0x20 0xff (omega arith) a (and_right (leb (length a) len) _ e));
    }

-- definitions in range
abbrev pub InRange : List Define → Type 0
InRange [] = Unit
InRange (d ∷ ds) = (all_of (define_ranges d) ≡ true) × InRange ds

-- so are those of a form in range
pub asked_range : (width : ℕ) (ls : List FormLine) → all_in width ls ≡ true → InRange (asked ls)
unfolding all_in asked in_range ranges
asked_range width [] e = tt
asked_range width (draw d ∷ ls) e = asked_range width ls (and_right (all_of (draw_ranges width d)) _ e)
asked_range width (define d ∷ ls) e = (and_left _ _ e, asked_range width ls (and_right (all_of (define_ranges d)) _ e))

-- a list behind so many elements and one more
pub drop_more : {A : Type 0} (n : ℕ) (xs ys : List A) (x : A) → drop n xs ≡ x ∷ ys → drop (suc n) xs ≡ ys
drop_more zero [] ys x e = cc
drop_more zero (a ∷ xs) ys x e = cc
drop_more (suc n) [] ys x e = cc
drop_more (suc n) (a ∷ xs) ys x e = drop_more n xs ys x e

-- what holds of a set: it is well formed, it has room in a buffer of 10,291 bytes, its lines read back as they were, and each of
-- them is within the label's limits
pub record GoodSet (width : ℕ) (ls : List FormLine) (given : List (List ℕ)) (c i : ℕ) : Type 0 where
  pub well : well_formed width (set_of ls given c i) ≡ true
  pub room : length (set_of ls given c i) ≤ enough
  pub back : commands_of width (cut (set_of ls given c i)) ≡ some (set_lines (value_in (asked ls) given i) ls c)
  pub inside : all_range width (set_lines (value_in (asked ls) given i) ls c) ≡ true

module _ (width : ℕ) (b : Bench) (name : List ℕ) (ls : List FormLine) (given : List (List ℕ)) (n c : ℕ) (narrow : width ≤ 10000) (sane : Sane width b) (o : Orders b name ls given n c) where
  -- the bench in another state
  abbrev at' : Session → Bench
  at' st = record { forms = b.forms; session = st }

  -- the form may be held
  storable : Storable width ls
  storable = find_storable width name b.forms ls sane.forms.each o.stored

  -- `FR` opens the form
  accepts_recall : (rest : List (List ℕ)) (last : Bench) → Accepts width (at' (opened_with ls (asked ls))) rest last → Accepts width b (normal (file (recall name)) ∷ rest) last
  unfolding done outcome in_range ranges filing_ranges all_of all
  accepts_recall rest last more =
      let named : in_range width (file (recall name)) ≡ true = rw (find_named width name b.forms ls sane.forms.each o.stored) in
      accepts_next width b _ last _ rest (λ room. recall_opens width room b _ name ls o.free o.stored (rw (kept_normal width (file (recall name)) named) (read_normal width (file (recall name)) narrow named))) more

  -- `?` asks, where the form asks for something
  accepts_ask : (ds : List Define) (rest : List (List ℕ)) (last : Bench) → Accepts width (at' (answered_of ls [] ds)) rest last → Accepts width (at' (opened_with ls ds)) (asking ds ++ rest) last
  unfolding asking opened_with answered_of hear heard obeyed in_opened done outcome in_range ranges all_of
  accepts_ask [] rest last more = more
  accepts_ask (d ∷ ds) rest last more =
      accepts_next width _ _ last _ rest (λ room. rw (kept_normal width ask refl, read_normal width ask narrow refl)) more

  -- each answer is taken, and after the last the form is ready
  accepts_answers : (before later : List (List ℕ)) (ds : List Define) (rest : List (List ℕ)) (last : Bench) → drop (length before) (asked ls) ≡ ds → InRange ds → fitting ds later ≡ true → Accepts width (at' (ready ls (before ++ later))) rest last → Accepts width (at' (answered_of ls before ds)) (later ++ rest) last
  unfolding fitting answered_of hear heard in_answering answered done outcome
  accepts_answers before [] [] rest last e r f more = rw (append-nil before) at more
  accepts_answers before (a ∷ later) [] rest last e r f more = absurd (false≢true f)
  accepts_answers before [] (d ∷ ds) rest last e r f more = absurd (false≢true f)
  accepts_answers before (a ∷ later) (d ∷ ds) rest last e r f more =
      let fine = fits_sendable d a r.0 (and_left _ _ f) in
      let count : length (before ++ (a ∷ [])) ≡ suc (length before) = rw length-append (omega arith) in
      let left : drop (length (before ++ (a ∷ []))) (asked ls) ≡ ds = rw count (drop_more (length before) (asked ls) ds d e) in
      accepts_next width _ (at' (answered_of ls (before ++ (a ∷ [])) ds)) last a (later ++ rest)
      (λ room. rw (kept_clear a fine.clear, if_false (long a) _ _ fine.short, if_false (control a) _ _ fine.clear, e, if_true (fits d a) _ _ (and_left _ _ f)))
      (accepts_answers (before ++ (a ∷ [])) later ds rest last left r.1 (and_right (fits d a) _ f) (rw (append_assoc before (a ∷ []) later) more))

  -- `P` prints
  accepts_print : Accepts width (at' (ready ls given)) (normal (print n c) ∷ []) (at' (printing ls given n c 0))
  unfolding hear heard obeyed in_ready done outcome in_range ranges all_of all
  accepts_print =
      let inside : in_range width (print n c) ≡ true = rw (le-leb 1 n o.some_sets, le-leb n 65535 o.few_sets, le-leb 1 c o.some_copies, le-leb c 65535 o.few_copies) in
      accepts_next width _ _ _ _ []
      (λ room. rw (kept_normal width (print n c) inside, read_normal width (print n c) narrow inside, if_true _ _ _ o.hold))
      (accepts_none width _)

  -- every line of the order is accepted, and then its sets are printed
  pub accepts_order : Accepts width b (order name ls given n c) (at' (printing ls given n c 0))
  unfolding order
  accepts_order =
      accepts_recall _ _
      (accepts_ask (asked ls) _ _
      (accepts_answers [] given (asked ls) _ _ refl (asked_range width ls storable.inside) o.fit accepts_print))

  -- the numbers of a set that is still to be taken
  numbers : (i : ℕ) → i < n → Printing ls given n c i
  numbers i l = record { holding = o.hold; counted = o.few_sets; some_copies = o.some_copies; copied = o.few_copies; left = l }

  -- a bench that prints these sets is sane
  sane_printing : (i : ℕ) → i < n → Sane width (at' (printing ls given n c i))
  sane_printing i l = record { forms = sane.forms; session = (storable, o.fit, numbers i l) }

  -- the state with so many sets taken
  unfoldable after_sets : ℕ → Session
  after_sets i = when eqb i n then idle else printing ls given n c i

  -- takes with enough room give the sets from the next on, and after the last the bench is Idle
  gives_from : (i : ℕ) (rooms : List ℕ) → i + length rooms ≡ n → every (leb enough) rooms ≡ true → Goes width (at' (after_sets i)) (map taking rooms) (map accepted (sets_from ls given c i (length rooms))) (at' idle)
  unfolding after_sets sets_from every enough called after_set
  gives_from i [] l e = rw (if_true _ _ _ (eq-eqb i n (omega arith))) (goes_none width _)
  gives_from i (room ∷ rooms) l e =
      rw (if_false _ _ _ (ne_eqb i n (omega arith)))
      (goes_next width _ (at' (after_sets (suc i))) _ _ _ _ _ (take_gives width room (at' (printing ls given n c i)) ls given n c i narrow (leb-true 10291 room (and_left _ _ e)) (sane_printing i (omega arith)) refl)
      (gives_from (suc i) rooms (omega arith) (and_right (leb 10291 room) _ e)))

  -- the takes of an order give its sets, and the bench is as it was before the order
  pub gives_sets : (rooms : List ℕ) → length rooms ≡ n → every (leb enough) rooms ≡ true → Goes width (at' (printing ls given n c 0)) (map taking rooms) (map accepted (sets_from ls given c 0 n)) b
  unfolding after_sets
  gives_sets rooms l e =
      let was : b ≡ at' idle = ap (λ st. at' st) o.free in
      let first : after_sets 0 ≡ printing ls given n c 0 = if_false _ _ _ (ne_eqb 0 n (omega (arith, o.some_sets))) in
      rw (was, ← first) (rw l at (gives_from 0 rooms (omega arith) e))

  -- no call of the order is refused, each take gives the set that is next, and the bench is as it was
  pub prints_form : (lines rooms : List ℕ) → length lines ≡ length (order name ls given n c) → length rooms ≡ n → every (leb enough) rooms ≡ true
      → Goes width b (saying lines (order name ls given n c) ++ map taking rooms) (quiet (order name ls given n c) ++ map accepted (sets_from ls given c 0 n)) b
  prints_form lines rooms k l e = goes_then width b _ b _ _ _ _ (accepts_order lines k) (gives_sets rooms l e)

  -- all of that holds of every set of the order
  pub sets_well_formed : (i : ℕ) → i < n → GoodSet width ls given c i
  unfolding enough
  sets_well_formed i l =
      record {
        well = set_well_formed width ls given n c i storable o.fit (numbers i l) narrow;
        room = set_room width ls given n c i storable o.fit (numbers i l) narrow;
        back = set_lines_back width ls given n c i storable o.fit (numbers i l) narrow;
        inside = set_range width ls given n c i storable o.fit (numbers i l);
      }

-- stored forms of one text have the same lines
pub stored_one : (width : ℕ) (b b' : Bench) (name name' : List ℕ) (ls ls' : List FormLine) → width ≤ 10000 → Sane width b → Sane width b' → find name b.forms ≡ some ls → find name' b'.forms ≡ some ls' → text_of ls ≡ text_of ls' → ls ≡ ls'
stored_one width b b' name name' ls ls' w sane sane' f f' t =
    text_form width ls ls' w (find_storable width name b.forms ls sane.forms.each f).inside (find_storable width name' b'.forms ls' sane'.forms.each f').inside t

-- the sets depend on the form's text, the answers and the copies alone: two benches with any pasts that store forms of one
-- text, under whatever names, answer the takes of an order alike
pub same_sets : (width : ℕ) (b b' : Bench) (name name' : List ℕ) (ls ls' : List FormLine) (given : List (List ℕ)) (n c : ℕ) → width ≤ 10000 → Sane width b → Sane width b' → Orders b name ls given n c → Orders b' name' ls' given n c → text_of ls ≡ text_of ls'
    → (lines lines' rooms rooms' : List ℕ) → length lines ≡ length (order name ls given n c) → length lines' ≡ length (order name' ls' given n c) → length rooms ≡ n → length rooms' ≡ n → every (leb enough) rooms ≡ true → every (leb enough) rooms' ≡ true
    → answers_to width (after_calls width b (saying lines (order name ls given n c))) (map taking rooms) ≡ answers_to width (after_calls width b' (saying lines' (order name' ls' given n c))) (map taking rooms')
same_sets width b b' name name' ls ls' given n c w sane sane' o o' t lines lines' rooms rooms' k k' l l' e e' =
    rw ((accepts_order width b name ls given n c w sane o lines k).leaves, (accepts_order width b' name' ls' given n c w sane' o' lines' k').leaves, (gives_sets width b name ls given n c w sane o rooms l e).answers, (gives_sets width b' name' ls' given n c w sane' o' rooms' l' e').answers)
    (ap (λ x. map accepted (sets_from x given c 0 n)) (stored_one width b b' name name' ls ls' w sane sane' o.stored o'.stored t))
