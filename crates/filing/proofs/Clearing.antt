-- Forms leave a shelf: the store's part of them, and their plans.
use Prim.Native.Nat.{ℕ, suc, ◌+◌, ◌-◌, ◌*◌, ◌≤◌, ◌<◌}
use mathlib.Core.Path.{◌≡◌, refl, sym, ◌∙◌, ap}
use mathlib.Core.Bool.{true, false, ◌&&◌, ◌||◌}
use mathlib.Core.List.{List, [], ◌∷◌, ◌++◌}
use native.Mathlib.Omega.{arith}
use lib.ListN.{length, take, drop, replicate, get_or, length-append}
use lib.Seq.{length-take-le}
use lib.Dec.{leb}
use Rattle.paper.specs.Byte.{when◌then◌else◌, bytes, between, every, any, among, same}
use Rattle.paper.specs.Line.{is_digit}
use Rattle.paper.specs.Command.{is_name, is_name_byte, star}
use Rattle.paper.specs.Form.{text_of, used}
use Rattle.paper.specs.State.{AllStored}
use Rattle.paper.specs.Bench as P
use Rattle.paper.proofs.Law.{and_left, and_right}
use Rattle.paper.proofs.Store.{without_absent}
use Rattle.paper.proofs.Test.{either, clash}
use Rattle.paper.proofs.Text.{same_eq}
use Rattle.text.specs.Write.{padded}
use Rattle.text.proofs.Padded.{padded_length}
use Rattle.command.specs.View.{width}
use Rattle.form.specs.Plan.{plan_of}
use Rattle.store.specs.Gap.{closed}
use Rattle.store.specs.Packed.{Store, entry, packed, find_from}
use Rattle.store.specs.Lent.{Stocked, Finds, Stands, Leaves, Clears}
use Rattle.store.specs.declared.Found.{Found}
use Rattle.std.specs.Prelude as Std
use Rattle.std.specs.Prelude.{Some, None}
use Rattle.store.proofs.Leaving.{gap_closed}
use Rattle.store.proofs.Standing.{stocks}
use Rattle.session.specs.Memory.{Session, Shelf, named, entries_of, plans_of, packed_shelf}
use Rattle.session.specs.Outcome.{At, Fills, Stocks, Deletes, Removes}
use Rattle.filing.specs.Leaving.{Leaving, Left}
use Rattle.session.specs.declared.name.Name.{Name}
use Rattle.session.proofs.Used.{name_short, padded_front, wiped}
use Rattle.session.proofs.Entries.{entries_count, entries_used, store_kept}
use Rattle.filing.proofs.Finding.{Among, entries_both, entries_place, entries_absent, entries_found}
use Rattle.session.proofs.Parted.{plan_whole, plans_length, plans_both, stored_both, lies_between, text_ends}

-- the store of a shelf
unfoldable pub at_stocked : (session : Session) (shelf : Shelf) → At session shelf → Stocked shelf.store
unfolding packed_shelf
at_stocked session shelf a =
    let kept = store_kept shelf.store a.forms (ap (λ x. x.store) a.there) a.sane.forms in
    let s = stocks shelf.store kept in
    record { kept = kept; few = s.few; room = s.room; text = s.text; names = s.names; texts = s.texts; lens = s.lens }

pub stocks_stocked : (shelf : Shelf) → Stocks shelf → Stocked shelf.store
stocks_stocked shelf k = at_stocked k.session shelf k.at

-- as many forms as the store counts
pub at_count : (session : Session) (shelf : Shelf) (a : At session shelf) → shelf.store.count ≡ length a.forms
unfolding packed_shelf packed
at_count session shelf a = ap (λ x. x.store.count) a.there ∙ entries_count a.forms

-- and as many plans
pub at_plans : (session : Session) (shelf : Shelf) → At session shelf → Fills 1856 shelf.plans (shelf.store.count * 232)
unfolding packed_shelf
at_plans session shelf a =
    let many = plans_length a.forms a.sane.forms.each in
    record {
      bytes = plans_of a.forms;
      is = ap (λ x. x.plans) a.there;
      counts = rw (at_count session shelf a, many);
      room = omega (arith, many, a.sane.forms.few);
    }

pub stocks_plans : (shelf : Shelf) → Stocks shelf → Fills 1856 shelf.plans (shelf.store.count * 232)
stocks_plans shelf k = at_plans k.session shelf k.at

pub stocks_few : (shelf : Shelf) → Stocks shelf → shelf.store.count ≤ 8
stocks_few shelf k = (stocks_stocked shelf k).few

-- every form leaves
pub shelf_cleared : (shelf : Shelf) (less : Store) (plans : List ℕ) → Stocks shelf → Clears less
    → plans ≡ replicate (shelf.store.count * 232) 0 ++ drop (shelf.store.count * 232) shelf.plans → record { store = less; plans = plans } ≡ packed_shelf []
unfolding packed_shelf entries_of plans_of
shelf_cleared shelf less plans k c w =
    let none = wiped 1856 shelf.plans _ plans (stocks_plans shelf k) w in
    λ j. record { store = c j; plans = none j }

-- as many bytes as the store has used
pub at_bytes : (session : Session) (shelf : Shelf) (a : At session shelf) → shelf.store.used ≡ used a.forms
unfolding packed_shelf packed
at_bytes session shelf a = ap (λ x. x.store.used) a.there ∙ entries_used a.forms

-- a form that stands on a shelf is one of those there
pub leaving_counts : (shelf : Shelf) (index start size : ℕ) (l : Leaving shelf index start size) → shelf.store.count ≡ length l.before + suc (length l.behind)
leaving_counts shelf index start size l = at_count l.session shelf l.at ∙ rw (l.forms, length-append)

-- and stands in the store
unfoldable pub leaving_stands : (shelf : Shelf) (index start size : ℕ) → Leaving shelf index start size → Stands shelf.store index start size
unfolding entries_of entry at_stocked store_kept
leaving_stands shelf index start size l =
    let a = l.at in
    let count = leaving_counts shelf index start size l in
    let ends = text_ends a.forms index l.here.lines (rw (l.number, l.forms) (lies_between l.before l.here l.behind)) in
    record {
      stocked = at_stocked l.session shelf a;
      before = entries_of l.before;
      here = entry l.here.name (text_of l.here.lines);
      behind = entries_of l.behind;
      forms = ap entries_of l.forms ∙ entries_both l.before (l.here ∷ l.behind);
      number = l.number ∙ sym (entries_count l.before);
      place = l.place ∙ rw (l.number, l.forms) (entries_place l.before (l.here ∷ l.behind));
      bytes = l.bytes;
      counted = omega (arith, l.number);
      inside = rw (at_bytes l.session shelf a, l.place, l.bytes) ends;
    }

-- there is room for its number in a plan's place
pub leaving_few : (shelf : Shelf) (index start size : ℕ) → Leaving shelf index start size → index < 8
leaving_few shelf index start size l =
    omega (arith, l.number, leaving_counts shelf index start size l, at_count l.session shelf l.at, l.at.sane.forms.few)

-- the store without it
leaving_rest : (shelf : Shelf) (index start size : ℕ) (less : Store) → Leaves shelf.store index start size less → (l : Leaving shelf index start size)
    → less ≡ packed (entries_of (l.before ++ l.behind))
unfolding leaving_stands
leaving_rest shelf index start size less r l = r.leaves (leaving_stands shelf index start size l) ∙ ap packed (sym (entries_both l.before l.behind))

-- counts one less
leaving_left : (shelf : Shelf) (index start size : ℕ) (less : Store) → Leaves shelf.store index start size less → (l : Leaving shelf index start size)
    → less.count ≡ length l.before + length l.behind
unfolding packed
leaving_left shelf index start size less r l =
    ap (λ x. x.count) (leaving_rest shelf index start size less r l) ∙ rw (entries_count, length-append)

-- so its number is at most that
pub leaving_inside : (shelf : Shelf) (index start size : ℕ) (less : Store) → Leaving shelf index start size → Leaves shelf.store index start size less → index ≤ less.count
leaving_inside shelf index start size less l r = omega (arith, l.number, leaving_left shelf index start size less r l)

-- which is small
pub leaving_small : (shelf : Shelf) (index start size : ℕ) (less : Store) → Leaving shelf index start size → Leaves shelf.store index start size less → less.count < 8
leaving_small shelf index start size less l r =
    omega (
      arith,
      leaving_left shelf index start size less r l,
      leaving_counts shelf index start size l,
      at_count l.session shelf l.at,
      l.at.sane.forms.few,
    )

-- the plans behind its own stand within theirs
pub leaving_room : (shelf : Shelf) (index start size : ℕ) (less : Store) → Leaving shelf index start size → Leaves shelf.store index start size less
    → index * 232 + 232 + (less.count - index) * 232 ≤ length shelf.plans
leaving_room shelf index start size less l r =
    let p = stocks_plans shelf (record { session = l.session; at = l.at }) in
    let whole : length shelf.plans ≡ 1856 = rw p.is (padded_length 1856 p.bytes p.room) in
    omega (
      arith,
      l.number,
      leaving_left shelf index start size less r l,
      leaving_counts shelf index start size l,
      at_count l.session shelf l.at,
      l.at.sane.forms.few,
    )

-- the form has left, and its plan with it
pub shelf_leaves : (shelf : Shelf) (index start size : ℕ) (less : Store) (plans : List ℕ) → Leaves shelf.store index start size less
    → plans ≡ closed shelf.plans (index * 232) 232 ((less.count - index) * 232) 0
    → Left shelf index start size (record { store = less; plans = plans })
unfolding packed_shelf plans_of
shelf_leaves shelf index start size less plans r w =
    record {
      left = λ l.
          let a = l.at in
          let each : AllStored width (l.before ++ (l.here ∷ l.behind)) = rw l.forms at a.sane.forms.each in
          let (front, rest) = stored_both l.before (l.here ∷ l.behind) each in
          let size-before = plans_length l.before front in
          let size-here = plan_whole l.here.lines rest.2 in
          let size-behind = plans_length l.behind rest.3 in
          let count = leaving_left shelf index start size less r l in
          let few : length l.before + suc (length l.behind) ≤ 8 = omega (arith, leaving_counts shelf index start size l, at_count l.session shelf a, a.sane.forms.few) in
          let old : shelf.plans ≡ padded 1856 (plans_of l.before ++ (plan_of l.here.lines ++ plans_of l.behind)) =
          ap (λ x. x.plans) a.there ∙ ap (λ fs. padded 1856 (plans_of fs)) l.forms ∙ ap (padded 1856) (plans_both l.before (l.here ∷ l.behind)) in
          let moved : plans ≡ padded 1856 (plans_of l.before ++ plans_of l.behind) =
          gap_closed 1856 (plans_of l.before) (plan_of l.here.lines) (plans_of l.behind) shelf.plans plans (index * 232) 232 ((less.count - index) * 232) old
          (omega (arith, l.number)) (sym size-here) (omega (arith, l.number)) (omega arith) w in
          let kept = leaving_rest shelf index start size less r l in
          let both : padded 1856 (plans_of l.before ++ plans_of l.behind) ≡ padded 1856 (plans_of (l.before ++ l.behind)) = ap (padded 1856) (sym (plans_both l.before l.behind)) in
          λ j. record { store = kept j; plans = (moved ∙ both) j };
    }

-- the bytes of a name
pub name_bytes : (name : Name) (text : List ℕ) → name ≡ named text → take name.len name.bytes ≡ text
unfolding named
name_bytes name text e = rw e (padded_front 16 text)

-- a name within its sixteen bytes
pub name_inside : (name : Name) (text : List ℕ) → name ≡ named text → length text ≤ 16 → name.len ≤ length name.bytes
unfolding named
name_inside name text e h = rw e (rw (padded_length 16 text h) h)

-- a name or the star is short
pub range_short : (text : List ℕ) → (is_name text || same text star) ≡ true → length text ≤ 16
unfolding star bytes
range_short text h =
    either (is_name text)
    (λ y. name_short text y)
    (λ n. let is : same text star ≡ true = rw n at h in rw (same_eq text star is) (omega arith))

-- so it lies within its bytes, and is as long as it says
pub deletes_inside : (name : Name) → Deletes name → name.len ≤ length name.bytes
deletes_inside name d = name_inside name d.text d.is (range_short d.text d.range)

pub deletes_size : (name : Name) → Deletes name → name.len ≡ length (take name.len name.bytes)
deletes_size name d = sym (length-take-le name.len name.bytes (deletes_inside name d))

-- no name has the star's byte
star_byte : is_name_byte 42 ≡ false
unfolding is_name_byte between is_digit among any bytes
star_byte = refl

-- what begins with it is the star
is_star : (text : List ℕ) → (is_name text || same text star) ≡ true → get_or (padded 16 text) 0 0 ≡ 42 → same text star ≡ true
unfolding padded is_name every
is_star [] h e = absurd (omega arith)
is_star (b ∷ text) h e =
    either (is_name (b ∷ text))
    (λ y. clash (and_left (is_name_byte b) (every is_name_byte text) (and_right (leb 1 (length (b ∷ text)) && leb (length (b ∷ text)) 16) (every is_name_byte (b ∷ text)) y)) (rw e star_byte))
    (λ n. rw n at h)

-- and the star begins so
not_star : (text : List ℕ) → (get_or (padded 16 text) 0 0 ≡ 42 → ⊥) → same text star ≡ false
unfolding padded star bytes
not_star text h = either (same text star) (λ y. absurd (h (rw (same_eq text star y)))) (λ n. n)

-- the text of a name or the star is that of its sixteen bytes
deletes_text : (name : Name) (d : Deletes name) (text : List ℕ) → name ≡ named text → d.text ≡ text
deletes_text name d text e = sym (name_bytes name d.text d.is) ∙ name_bytes name text e

-- with the star every form leaves
pub removes_all : (shelf : Shelf) (name : Name) (less : Shelf) → Deletes name → get_or name.bytes 0 0 ≡ 42 → less ≡ packed_shelf [] → Removes shelf name less
unfolding named P.deleted when◌then◌else◌
removes_all shelf name less d e p =
    record {
      removes = λ session a text is.
          let star' = is_star text (rw (deletes_text name d text is) at d.range) (rw is at e) in
          p ∙ rw star';
    }

-- what is found under a name
pub looked : (session : Session) (shelf : Shelf) (a : At session shelf) (key : List ℕ) (found : Std.Option Found) → Finds shelf.store key found → find_from 0 0 key (entries_of a.forms) ≡ found
unfolding at_stocked store_kept
looked session shelf a key found f = sym (f.finds (at_stocked session shelf a).kept)

-- a form that is found stands there
unfoldable found_leaving : (session : Session) (shelf : Shelf) (a : At session shelf) (key : List ℕ) (index start size : ℕ) (w : Among key a.forms 0 0 index start size) → Leaving shelf index start size
found_leaving session shelf a key index start size w =
    let number : index ≡ length w.before = omega (arith, w.number) in
    record {
      session = session;
      at = a;
      before = w.before;
      here = w.here;
      behind = w.behind;
      forms = w.forms;
      number = number;
      place = rw number (omega (arith, w.place));
      bytes = w.bytes;
    }

pub finds_leaving : (shelf : Shelf) (key : List ℕ) (found : Std.Option Found) (it : Found) → Stocks shelf → Finds shelf.store key found → found ≡ Some it
    → Leaving shelf it.index it.start it.len
finds_leaving shelf key found it k f e =
    let a = k.at in
    found_leaving k.session shelf a key it.index it.start it.len
    (entries_found key a.forms 0 0 it a.sane.forms.each (looked k.session shelf a key found f ∙ e))

-- with a name its form leaves
pub removes_one : (shelf : Shelf) (name : Name) (found : Std.Option Found) (it : Found) (less : Shelf) → (get_or name.bytes 0 0 ≡ 42 → ⊥)
    → Finds shelf.store (take name.len name.bytes) found → found ≡ Some it → Left shelf it.index it.start it.len less → Removes shelf name less
unfolding named P.deleted when◌then◌else◌ found_leaving
removes_one shelf name found it less n f e l =
    record {
      removes = λ session a text is.
          let key = name_bytes name text is in
          let seen : find_from 0 0 text (entries_of a.forms) ≡ Some it = rw key at (looked session shelf a _ found f ∙ e) in
          let w = entries_found text a.forms 0 0 it a.sane.forms.each seen in
          l.left (found_leaving session shelf a text it.index it.start it.len w)
          ∙ rw (not_star text (rw is at n)) (ap packed_shelf w.rest);
    }

-- or none does, where it has none
pub removes_none : (shelf : Shelf) (name : Name) (found : Std.Option Found) → (get_or name.bytes 0 0 ≡ 42 → ⊥)
    → Finds shelf.store (take name.len name.bytes) found → found ≡ None → Removes shelf name shelf
unfolding named P.deleted when◌then◌else◌
removes_none shelf name found n f e =
    record {
      removes = λ session a text is.
          let key = name_bytes name text is in
          let seen : find_from 0 0 text (entries_of a.forms) ≡ None = rw key at (looked session shelf a _ found f ∙ e) in
          let free = entries_absent text a.forms 0 0 seen in
          a.there ∙ rw (not_star text (rw is at n)) (ap packed_shelf (sym (without_absent text a.forms free)));
    }
