-- A form with its answers in memory: what the plan's numbers show is the set, and they hold where the counters do.
use Prim.Native.Nat.{ℕ, zero, suc, ◌+◌, ◌-◌, ◌*◌, ◌/◌, ◌≤◌, ◌<◌}
use mathlib.Core.Path.{◌≡◌, refl, sym, ◌∙◌, ap}
use mathlib.Core.Bool.{true, false, false≢true}
use mathlib.Core.List.{List, [], ◌∷◌, ◌++◌, append_assoc}
use native.Mathlib.Omega.{arith}
use lib.ListN.{length, drop, get_or, replicate, length-replicate}
use Rattle.paper.specs.Byte.{bytes, decimal}
use Rattle.paper.specs.Line.{escape}
use Rattle.paper.specs.Command as P
use Rattle.paper.specs.Command.{define_ranges, all_of}
use Rattle.paper.specs.Form.{text_of, asked, value_of, unsound_at, defined, is_some}
use Rattle.paper.specs.Set.{fits, shows, value_in, holds_to, all_hold, set_of}
use Rattle.paper.specs.State.{fitting}
use Rattle.paper.specs.Write.{commas, normal, lines_text}
use Rattle.paper.proofs.Law.{and_left, and_right}
use Rattle.paper.proofs.Number.{decimal_small}
use Rattle.paper.proofs.SetOf.{set_room}
use Rattle.command.specs.View.{width}
use Rattle.form.specs.Walk.{part_of}
use Rattle.form.specs.Plan.{number_of, kind_of, defines_in, Shows, nothing, value, Piece, pieces, behind_in, pieces_in}
use Rattle.set.specs.Answers.{answers_text, first_of, second_of, values_in}
use Rattle.set.specs.Made.{opening_of, behind_text, pieces_text}
use Rattle.set.specs.Values.{Told, value_show, behind_show}
use Rattle.set.specs.Piece.{piece_show, PieceTold, pieces_show, PiecesTold, holds_at, DefineTold, hold_from, DefinesTold}
use Rattle.set.specs.Taking.{Filled, Taking}
use Rattle.set.proofs.Making.{set_in_pieces}
use Rattle.form.proofs.Distinct.{Ranged, Distinct, ranged, distinct, small, number_below, defines_few}
use Rattle.set.proofs.Keeping.{Kept, AllKept, all_kept, from_length, found}
use Rattle.set.proofs.Defining.{step_small, len_small, first_small, show_same, hold_same}
use Rattle.set.proofs.Numbers.{opening_some, opening_none, none_behind, some_behind}
use Rattle.set.proofs.Planned.{Defined, define_stands, defines_next, plan_defines, plan_asks, plan_shows, plan_counts, plan_pieces, piece_stands, pieces_next, Inside, pieces_inside, Named, AllNamed, pieces_named}

-- a definition of a plan with its answer
module _ (plan values answers : List ℕ) (k : ℕ) (d : P.Define) (a : List ℕ) (s : Defined plan k d) (t : Kept values answers d a) (r : all_of (define_ranges d) ≡ true) (f : fits d a ≡ true) where
  define_told : 104 ≤ length values → DefineTold plan values k
  define_told h =
      let below = number_below (value_of d) (small d r) in
      record {
        inside = s.inside;
        placed = rw s.value (omega arith);
        few = λ n. rw s.len (len_small d r (λ q. n (s.kind ∙ q)));
        stepped = rw s.step (step_small d r);
        small = λ n. rw (s.value, t.first) (first_small d a t.place r f (λ q. n (s.kind ∙ q)));
      }

  define_holds : (last : ℕ) → holds_at plan values k last ≡ holds_to last d a
  unfolding holds_at
  define_holds last = rw (s.kind, s.len, s.step, s.value, t.first) (hold_same d a t.place last f)

-- and all of them
defines_told : (plan values answers rest : List ℕ) (ds : List P.Define) (given : List (List ℕ)) (j k : ℕ) → drop (2 + j * 4) plan ≡ defines_in ds ++ rest → AllKept values answers ds given → Ranged ds → fitting ds given ≡ true → 104 ≤ length values
    → k < length ds → DefineTold plan values (j + k)
unfolding fitting
defines_told plan values answers rest [] given j k e t r f h l = absurd (omega arith)
defines_told plan values answers rest (d ∷ ds) [] j k e t r f h l = absurd (false≢true f)
defines_told plan values answers rest (d ∷ ds) (a ∷ more) j zero e t r f h l =
    let none : j + 0 ≡ j = omega arith in
    rw none (define_told plan values answers j d a (define_stands plan rest j d ds e) t.0 r.0 (and_left (fits d a) _ f) h)
defines_told plan values answers rest (d ∷ ds) (a ∷ more) j (suc k) e t r f h l =
    let place : j + suc k ≡ j + 1 + k = omega arith in
    rw place (defines_told plan values answers rest ds more (j + 1) k (defines_next plan rest j d ds e) t.1 r.1 (and_right (fits d a) _ f) h (omega arith))

defines_hold : (plan values answers rest : List ℕ) (ds : List P.Define) (given : List (List ℕ)) (j last : ℕ) → drop (2 + j * 4) plan ≡ defines_in ds ++ rest → AllKept values answers ds given → Ranged ds → fitting ds given ≡ true
    → hold_from plan values last j (length ds) ≡ all_hold last ds given
unfolding fitting hold_from all_hold
defines_hold plan values answers rest [] given j last e t r f = refl
defines_hold plan values answers rest (d ∷ ds) [] j last e t r f = absurd (false≢true f)
defines_hold plan values answers rest (d ∷ ds) (a ∷ more) j last e t r f =
    rw (
      define_holds plan values answers j d a (define_stands plan rest j d ds e) t.0 r.0 (and_left (fits d a) _ f) last,
      defines_hold plan values answers rest ds more (j + 1) last (defines_next plan rest j d ds e) t.1 r.1 (and_right (fits d a) _ f),
    )

-- what four numbers of a variable are
place_begins : (d : P.Define) (a : List ℕ) (place : ℕ) → kind_of d ≡ 2 → first_of d a place ≤ second_of d a place
unfolding kind_of first_of second_of
place_begins (P.counting n len letter (P.up by) prompt) a place e = absurd (omega (arith, e))
place_begins (P.counting n len letter (P.down by) prompt) a place e = absurd (omega (arith, e))
place_begins (P.varying n len letter prompt) a place e = omega arith

place_ends : (d : P.Define) (a : List ℕ) (place size : ℕ) → kind_of d ≡ 2 → place + length a ≤ size → second_of d a place ≤ size
unfolding kind_of second_of
place_ends (P.counting n len letter (P.up by) prompt) a place size e h = absurd (omega (arith, e))
place_ends (P.counting n len letter (P.down by) prompt) a place size e h = absurd (omega (arith, e))
place_ends (P.varying n len letter prompt) a place size e h = h

-- a definition's value may be shown, and shows what it should
kept_told : (values answers : List ℕ) (d : P.Define) (a : List ℕ) (i : ℕ) → Kept values answers d a → all_of (define_ranges d) ≡ true → fits d a ≡ true → i ≤ 65535 → 104 ≤ length values → Told answers values (number_of (value_of d)) i
kept_told values answers d a i t r f l h =
    let below = number_below (value_of d) (small d r) in
    record {
      inside = omega arith;
      shown = record {
        begins = λ q. rw (t.first, t.second) (place_begins d a t.place (sym t.kind ∙ q));
        ends = λ q. rw t.second (place_ends d a t.place (length answers) (sym t.kind ∙ q) t.inside);
        small = λ n. rw t.first (first_small d a t.place r f (λ q. n (t.kind ∙ q)));
        stepped = rw t.step (step_small d r);
        counted = l;
      };
    }

kept_shows : (values answers : List ℕ) (d : P.Define) (a : List ℕ) (i : ℕ) → Kept values answers d a → value_show answers values (number_of (value_of d)) i ≡ escape (shows d a i)
unfolding value_show
kept_shows values answers d a i t = rw (t.first, t.second, t.kind, t.step) (show_same answers d a t.place i t.here)

-- a form's values in set i
module _ (values answers : List ℕ) (ds : List P.Define) (given : List (List ℕ)) (i : ℕ) (t : AllKept values answers ds given) (r : Ranged ds) (f : fitting ds given ≡ true) where
  -- a value that is defined is told
  pub value_told : (v : P.Value) → is_some (defined v ds) ≡ true → i ≤ 65535 → 104 ≤ length values → Told answers values (number_of v) i
  value_told v e l h =
      let g = found values answers ds given i v t r f e in
      rw g.value (kept_told values answers g.define g.answer i g.kept g.range g.fit l h)

  -- and shows what the paper says
  pub value_shows : (v : P.Value) → is_some (defined v ds) ≡ true → value_show answers values (number_of v) i ≡ escape (value_in ds given i v)
  value_shows v e =
      let g = found values answers ds given i v t r f e in
      ap (λ w. value_show answers values (number_of w) i) g.value ∙ kept_shows values answers g.define g.answer i g.kept ∙ ap escape (sym g.shows)

  -- what goes behind a piece
  behind_told : (b : Shows) → Named ds b → i ≤ 65535 → 104 ≤ length values → (behind_in b ≡ 0 → ⊥) → Told answers values ((behind_in b - 1) / 2) i
  unfolding behind_in
  behind_told nothing n l h z = absurd (z refl)
  behind_told (value false v) n l h z = let is : (1 + number_of v * 2 - 1) / 2 ≡ number_of v = omega arith in rw is (value_told v n l h)
  behind_told (value true v) n l h z = let is : (2 + number_of v * 2 - 1) / 2 ≡ number_of v = omega arith in rw is (value_told v n l h)

  behind_shows : (b : Shows) → Named ds b → behind_show answers values (behind_in b) i ≡ behind_text (value_in ds given i) b
  unfolding behind_in behind_text opening_of
  behind_shows nothing n = none_behind answers values 0 i refl
  behind_shows (value false v) n =
      let is : (1 + number_of v * 2 - 1) / 2 ≡ number_of v = omega arith in
      some_behind answers values (1 + number_of v * 2) i (λ q. omega arith) ∙ rw (is, opening_none (1 + number_of v * 2) (λ q. omega arith), value_shows v n)
  behind_shows (value true v) n =
      let is : (2 + number_of v * 2 - 1) / 2 ≡ number_of v = omega arith in
      some_behind answers values (2 + number_of v * 2) i (λ q. omega arith) ∙ rw (is, opening_some (2 + number_of v * 2) (omega arith), value_shows v n)

  -- the pieces from the k-th on
  module _ (text plan rest : List ℕ) where
    pub pieces_are_shown : (ps : List Piece) (k : ℕ) → drop (106 + k * 3) plan ≡ pieces_in ps ++ rest → AllNamed ds ps → pieces_show text answers plan values i k (length ps) ≡ pieces_text (value_in ds given i) text ps
    unfolding pieces_show piece_show pieces_text
    pieces_are_shown [] k e n = refl
    pieces_are_shown (p ∷ ps) k e n =
        let s = piece_stands plan rest k p ps e in
        rw (s.starts, s.ends, s.behinds, behind_shows p.behind n.0, pieces_are_shown ps (k + 1) (pieces_next plan rest k p ps e) n.1) (append_assoc (part_of text p.start p.end) (behind_text (value_in ds given i) p.behind) (pieces_text (value_in ds given i) text ps))

    pub pieces_told : (ps : List Piece) (k j : ℕ) → drop (106 + k * 3) plan ≡ pieces_in ps ++ rest → AllNamed ds ps → Inside (length text) ps → i ≤ 65535 → 104 ≤ length values → j < length ps → PieceTold text answers plan values (k + j) i
    pieces_told [] k j e n w l h q = absurd (omega arith)
    pieces_told (p ∷ ps) k zero e n w l h q =
        let none : k + 0 ≡ k = omega arith in
        let s = piece_stands plan rest k p ps e in
        rw none
        (record {
          inside = s.inside;
          begins = rw (s.starts, s.ends) w.0;
          ends = rw s.ends w.1;
          told = rw s.behinds (behind_told p.behind n.0 l h);
        })
    pieces_told (p ∷ ps) k (suc j) e n w l h q =
        let place : k + suc j ≡ k + 1 + j = omega arith in
        rw place (pieces_told ps (k + 1) j (pieces_next plan rest k p ps e) n.1 w.2 l h (omega arith))

-- a form's plan and its values
module _ (plan values : List ℕ) (t : Filled plan values) where
  form_ranged : Ranged (asked t.lines)
  form_ranged = ranged width t.lines t.storable.inside

  form_distinct : Distinct (asked t.lines)
  unfolding unsound_at
  form_distinct = distinct 0 [] t.lines t.storable.sound

  pub values_length : length values ≡ 104
  unfolding values_in
  values_length = rw t.valued (from_length 0 (replicate 104 0) (asked t.lines) t.given ∙ length-replicate {A = ℕ} 104 0)

  form_kept : AllKept values (answers_text t.given) (asked t.lines) t.given
  unfolding values_in
  form_kept =
      let size : 104 ≤ length {A = ℕ} (replicate 104 0) = rw length-replicate (omega arith) in
      rw t.valued (all_kept 0 (replicate 104 0) (answers_text t.given) (asked t.lines) t.given form_distinct form_ranged size refl (omega arith))

  pub filled_told : DefinesTold plan values
  filled_told =
      record {
        counted = rw t.planned (omega (arith, plan_counts t.lines));
        each = λ k h.
            let count : get_or plan 0 0 ≡ length (asked t.lines) = ap (λ p. get_or p 0 0) t.planned ∙ plan_asks t.lines in
            let stands = ap (drop 2) t.planned ∙ plan_defines t.lines in
            let front : 0 + k ≡ k = omega arith in
            rw front at (defines_told plan values _ _ (asked t.lines) t.given 0 k stands form_kept form_ranged t.fit (omega (arith, values_length)) (omega arith));
      }

  pub filled_holds : (last : ℕ) → hold_from plan values last 0 (get_or plan 0 0) ≡ all_hold last (asked t.lines) t.given
  filled_holds last =
      let count : get_or plan 0 0 ≡ length (asked t.lines) = ap (λ p. get_or p 0 0) t.planned ∙ plan_asks t.lines in
      let stands = ap (drop 2) t.planned ∙ plan_defines t.lines in
      rw count (defines_hold plan values _ _ (asked t.lines) t.given 0 last stands form_kept form_ranged t.fit)

-- with the answers
kept_of : (plan values : List ℕ) (f : Filled plan values) (answers : List ℕ) → answers ≡ answers_text f.given → AllKept values answers (asked f.lines) f.given
kept_of plan values f answers e = rw e (form_kept plan values f)

-- a set that is taken
module _ (text answers plan values : List ℕ) (copies i : ℕ) (t : Taking text answers plan values copies i) where
  abbrev Lines : List P.FormLine
  Lines = t.form.filled.lines

  abbrev Given : List (List ℕ)
  Given = t.form.filled.given

  kept : AllKept values answers (asked Lines) Given
  kept = kept_of plan values t.form.filled answers t.form.answered

  stands : drop 106 plan ≡ pieces_in (pieces 0 0 Lines) ++ replicate (126 - length (pieces_in (pieces 0 0 Lines))) 0
  stands = ap (drop 106) t.form.filled.planned ∙ (plan_pieces Lines (defines_few (asked Lines) (form_distinct plan values t.form.filled) (form_ranged plan values t.form.filled)))

  named : AllNamed (asked Lines) (pieces 0 0 Lines)
  unfolding unsound_at
  named = pieces_named 0 [] Lines 0 0 t.form.filled.storable.sound

  inside : Inside (length text) (pieces 0 0 Lines)
  inside = pieces_inside Lines 0 0 (length text) (omega arith) (omega (arith, ap length t.form.is))

  count : get_or plan 1 0 ≡ length (pieces 0 0 Lines)
  count = ap (λ p. get_or p 1 0) t.form.filled.planned ∙ plan_shows Lines

  pub taking_told : PiecesTold text answers plan values i
  taking_told =
      record {
        counted = rw t.form.filled.planned (plan_counts Lines);
        each = λ k h.
            let front : 0 + k ≡ k = omega arith in
            rw front at (pieces_told values answers (asked Lines) Given i kept (form_ranged plan values t.form.filled) t.form.filled.fit text plan _ (pieces 0 0 Lines) 0 k stands named inside
            (omega (arith, t.printing.left, t.printing.counted)) (omega (arith, values_length plan values t.form.filled)) (omega (arith, count)));
      }

  -- the pieces are the set between its `N` and its `P`
  pub taking_shows : set_of Lines Given copies i ≡ (78 ∷ 10 ∷ []) ++ (pieces_show text answers plan values i 0 (get_or plan 1 0) ++ ((80 ∷ 49 ∷ 44 ∷ []) ++ (decimal copies ++ (10 ∷ []))))
  unfolding lines_text normal commas bytes
  taking_shows =
      let show : pieces_show text answers plan values i 0 (get_or plan 1 0) ≡ pieces_text (value_in (asked Lines) Given i) (text_of Lines) (pieces 0 0 Lines) =
      rw count (pieces_are_shown values answers (asked Lines) Given i kept (form_ranged plan values t.form.filled) t.form.filled.fit text plan _ (pieces 0 0 Lines) 0 stands named ∙ ap (λ s. pieces_text (value_in (asked Lines) Given i) s (pieces 0 0 Lines)) t.form.is) in
      set_in_pieces Lines Given copies i ∙ rw (show, decimal_small 1 (omega arith))

  -- it has room in a buffer for the longest
  pub taking_room : length (set_of Lines Given copies i) ≤ 10291
  taking_room = set_room width Lines Given t.sets copies i t.form.filled.storable t.form.filled.fit t.printing (omega arith)
