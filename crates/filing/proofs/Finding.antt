-- The forms as the store holds them: what is found, left out and listed there is what the paper says of the forms.
use Prim.Native.Nat.{ℕ, suc, ◌+◌}
use mathlib.Core.Path.{◌≡◌, refl, sym, ap}
use mathlib.Core.List.{List, [], ◌∷◌, ◌++◌}
use mathlib.Core.Option.{none, some}
use native.Mathlib.Omega.{arith}
use lib.ListN.{length, length-append}
use Rattle.paper.specs.Byte.{when◌then◌else◌, same}
use Rattle.paper.specs.Form.{Form, text_of, find, without, names, listing}
use Rattle.paper.specs.State.{AllStored}
use Rattle.paper.proofs.Store.{without_absent}
use Rattle.paper.proofs.Test.{either}
use Rattle.paper.proofs.Text.{same_eq}
use Rattle.command.specs.View.{width}
use Rattle.store.specs.Packed.{entry, texts_of, find_from, lines_of, listing_of}
use Rattle.std.specs.Prelude.{Option, Some, None}
use Rattle.store.specs.declared.Found.{Found}
use Rattle.session.specs.Memory.{place_of, entries_of, Lies, number_of}

-- the names of the entries are those of the forms
entries_names : (fs : List Form) → lines_of (entries_of fs) ≡ names fs
unfolding entries_of entry lines_of names
entries_names [] = refl
entries_names (f ∷ fs) = rw (entries_names fs)

-- and so is the reply to `FI`
pub entries_listing : (fs : List Form) → listing_of (entries_of fs) ≡ listing fs
unfolding entries_of entry listing_of listing lines_of names
entries_listing [] = refl
entries_listing (f ∷ fs) = rw (entries_names fs)

-- the entries of two lists of forms
pub entries_both : (fs gs : List Form) → entries_of (fs ++ gs) ≡ entries_of fs ++ entries_of gs
unfolding entries_of
entries_both [] gs = refl
entries_both (f ∷ fs) gs = ap (λ es. entry f.name (text_of f.lines) ∷ es) (entries_both fs gs)

-- a form's text begins behind those before it
pub entries_place : (fs gs : List Form) → place_of (fs ++ gs) (length fs) ≡ length (texts_of (entries_of fs))
unfolding place_of entries_of entry texts_of
entries_place [] [] = refl
entries_place [] (g ∷ gs) = refl
entries_place (f ∷ fs) gs = rw (length-append, entries_place fs gs)

-- where nothing is found there is no form of the name
pub entries_absent : (name : List ℕ) (fs : List Form) (i start : ℕ) → find_from i start name (entries_of fs) ≡ None → find name fs ≡ none
unfolding entries_of entry find_from find when◌then◌else◌
entries_absent name [] i start e = refl
entries_absent name (f ∷ fs) i start e =
    either (same name f.name)
    (λ y. let never : ◌≡◌ {A = Option Found} (Some (record { index = i; start = start; len = length (text_of f.lines) })) None = rw y at e in cc)
    (λ n. rw n (entries_absent name fs _ _ (rw n at e)))

-- the form of a name among others, of which the first has a number and a place
pub record Among (name : List ℕ) (fs : List Form) (i from index start size : ℕ) : Type 0 where
  pub before : List Form
  pub here : Form
  pub behind : List Form
  pub forms : fs ≡ before ++ (here ∷ behind)
  pub number : index ≡ i + length before
  pub place : start ≡ from + place_of fs (length before)
  pub bytes : size ≡ length (text_of here.lines)
  pub first : number_of name fs ≡ length before
  pub found : find name fs ≡ some here.lines
  pub lies : Lies fs (length before) here.lines
  pub rest : before ++ behind ≡ without name fs

-- what is found is that form
pub entries_found : (name : List ℕ) (fs : List Form) (i from : ℕ) (found : Found) → AllStored width fs
    → find_from i from name (entries_of fs) ≡ Some found → Among name fs i from found.index found.start found.len
unfolding entries_of entry find_from find without place_of number_of when◌then◌else◌
entries_found name [] i from found h e = absurd cc
entries_found name (f ∷ fs) i from found h e =
    either (same name f.name)
    (λ y.
    let it : Some (record { index = i; start = from; len = length (text_of f.lines) }) ≡ Some found = rw y at e in
    let is : found ≡ record { index = i; start = from; len = length (text_of f.lines) } = cc in
    let number : found.index ≡ i = ap (λ x. x.index) is in
    let place : found.start ≡ from = ap (λ x. x.start) is in
    record {
      before = [];
      here = f;
      behind = fs;
      forms = refl;
      number = omega arith;
      place = omega arith;
      bytes = ap (λ x. x.len) is;
      first = rw y;
      found = rw y;
      lies = refl;
      rest = rw y (sym (without_absent name fs (rw (same_eq name f.name y) h.1)));
    })
    (λ n.
    let w = entries_found name fs (suc i) (from + length (text_of f.lines)) found h.3 (rw n at e) in
    record {
      before = f ∷ w.before;
      here = w.here;
      behind = w.behind;
      forms = ap (λ xs. f ∷ xs) w.forms;
      number = omega (arith, w.number);
      place = omega (arith, w.place);
      bytes = w.bytes;
      first = rw n (ap suc w.first);
      found = rw n w.found;
      lies = w.lies;
      rest = rw n (ap (λ xs. f ∷ xs) w.rest);
    })
