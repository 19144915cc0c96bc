-- The form at a number of a store that holds some forms: its lengths and its name are where `packed` puts them.
use mathlib.Core.Path.{◌≡◌, refl, ◌∙◌, ap}
use mathlib.Core.List.{List, [], ◌∷◌, ◌++◌, map, append_assoc}
use Prim.Native.Nat.{ℕ, zero, suc, ◌+◌, ◌-◌, ◌*◌, ◌≤◌, ◌<◌}
use native.Mathlib.Omega.{arith}
use native.Mathlib.Numerals.{add-one}
use lib.ListN.{length, take, drop, get_or, replicate, length-append, length-map, get_or-append}
use lib.Seq.{drop-cons, take-suc, take-append_seam, drop-append-add, take-nil}
use mathlib.Core.Bool.{◌&&◌}
use lib.Dec.{eqb}
use Rattle.std.specs.Cmp.Lexicographic.{pointwise}
use Rattle.paper.specs.Byte.{same}
use Rattle.store.specs.Packed.{Store, Entry, entry, slot, texts_of, names_of, packed, name_in, Short, Kept}
use Rattle.store.proofs.Packing.{slot_length, texts_more}
use Rattle.text.specs.Write.{padded}
use Rattle.text.proofs.Padded.{filled}

-- the form at a number
unfoldable pub form_at : List Entry → ℕ → Entry
form_at es i = get_or es i (entry [] [])

-- as many forms as the store counts
pub counts : (self : Store) (k : Kept self) → self.count ≡ length k.forms
unfolding packed
counts self k = ap (λ s. s.count) k.is

-- a number that is kept for each form
number_at : (f : Entry → ℕ) (es : List Entry) (i : ℕ) → i < length es → get_or (padded 8 (map f es)) i 0 ≡ f (form_at es i)
unfolding padded form_at
number_at f es i h =
    get_or-append (map f es) _ 0 i (rw (length-map es f) h) ∙ up es i h
  where
    up : (es : List Entry) (i : ℕ) → i < length es → get_or (map f es) i 0 ≡ f (get_or es i (entry [] []))
    up [] i h = absurd (omega arith)
    up (e ∷ es) zero h = refl
    up (e ∷ es) (suc i) h = up es i (omega arith)

pub len_at : (self : Store) (k : Kept self) (i : ℕ) → i < self.count → get_or self.lens i 0 ≡ length (form_at k.forms i).name
unfolding packed
len_at self k i h =
    ap (λ s. get_or s.lens i 0) k.is ∙ number_at (λ e. length e.name) k.forms i (omega (arith, counts self k))

pub size_at : (self : Store) (k : Kept self) (i : ℕ) → i < self.count → get_or self.texts i 0 ≡ length (form_at k.forms i).text
unfolding packed
size_at self k i h =
    ap (λ s. get_or s.texts i 0) k.is ∙ number_at (λ e. length e.text) k.forms i (omega (arith, counts self k))

-- names are short
short_at : (es : List Entry) (i : ℕ) → Short es → i < length es → length (form_at es i).name ≤ 16
unfolding form_at
short_at [] i s h = absurd (omega arith)
short_at (e ∷ es) zero s h = s.0
short_at (e ∷ es) (suc i) s h = short_at es i s.1 (omega arith)

name_short : (self : Store) (k : Kept self) (i : ℕ) → i < self.count → length (form_at k.forms i).name ≤ 16
name_short self k i h = short_at k.forms i k.short (omega (arith, counts self k))

-- a name at its slot, whatever stands behind
slot_at : (es : List Entry) (more : List ℕ) (i : ℕ) → Short es → i < length es
    → take (length (form_at es i).name) (drop (i * 16) (names_of es ++ more)) ≡ (form_at es i).name
unfolding names_of form_at
slot_at [] more i s h = absurd (omega arith)
slot_at (e ∷ es) more zero s h =
    let is : slot e.name ≡ e.name ++ replicate (16 - length e.name) 0 = unfold slot in filled 16 e.name s.0 in
    rw is (simp append_assoc (take-append_seam e.name _))
slot_at (e ∷ es) more (suc i) s h =
    let past : suc i * 16 ≡ length (slot e.name) + i * 16 = rw (slot_length e.name) (omega arith) in
    rw (past, append_assoc, drop-append-add) (slot_at es more i s.1 (omega arith))

pub name_at : (self : Store) (k : Kept self) (i : ℕ) → i < self.count
    → take (length (form_at k.forms i).name) (drop (i * 16) self.names) ≡ (form_at k.forms i).name
unfolding packed padded
name_at self k i h =
    ap (λ s. take (length (form_at k.forms i).name) (drop (i * 16) s.names)) k.is
    ∙ slot_at k.forms _ i k.short (omega (arith, counts self k))

-- the forms before a number, and the one there
pub drop_form : (es : List Entry) (i : ℕ) → i < length es → drop i es ≡ form_at es i ∷ drop (suc i) es
unfolding form_at
drop_form es i h = drop-cons es i (entry [] []) h

-- where the text of the form at a number begins: behind those before it
unfoldable pub start_of : List Entry → ℕ → ℕ
start_of es i = length (texts_of (take i es))

pub start_more : (es : List Entry) (i : ℕ) → i < length es → start_of es (i + 1) ≡ start_of es i + length (form_at es i).text
unfolding start_of form_at
start_more es i h =
    rw (add-one, take-suc es i (entry [] []) h, texts_more (take i es) (get_or es i (entry [] [])), length-append)

-- it begins within the whole
start_inside : (es : List Entry) (i : ℕ) → start_of es i ≤ length (texts_of es)
unfolding start_of texts_of
start_inside [] i = rw (take-nil i) (omega arith)
start_inside (e ∷ es) zero = omega arith
start_inside (e ∷ es) (suc i) = rw (length-append, length-append) (omega (arith, start_inside es i))

text_room : (self : Store) (k : Kept self) (i : ℕ) → i < self.count → start_of k.forms i + length (form_at k.forms i).text ≤ 4096
text_room self k i h =
    omega (arith, start_inside k.forms (i + 1), start_more k.forms i (omega (arith, counts self k)), k.room)

-- the part of the names that a slot's name is
pub name_part : (names : List ℕ) (i len : ℕ) → take (i * 16 + len - i * 16) (drop (i * 16) names) ≡ name_in names i len
unfolding name_in
name_part names i len = let is : i * 16 + len - i * 16 ≡ len = omega arith in rw is

-- texts that are compared number by number
pub same_is : (s t : List ℕ) → pointwise eqb s t ≡ same s t
unfolding same
same_is [] [] = refl
same_is [] (c ∷ t) = refl
same_is (b ∷ s) [] = refl
same_is (b ∷ s) (c ∷ t) = ap (λ r. eqb b c && r) (same_is s t)

-- a form's lengths at its number: the name's is short, and the text ends within the store
pub len_short : (self : Store) (k : Kept self) (i : ℕ) → i < self.count → get_or self.lens i 0 ≤ 16
len_short self k i h = omega (arith, len_at self k i h, name_short self k i h)

pub size_room : (self : Store) (k : Kept self) (i start : ℕ) → i < self.count → start ≡ start_of k.forms i
    → start + get_or self.texts i 0 ≤ 4096
size_room self k i start h e = omega (arith, size_at self k i h, text_room self k i h)

-- as many bytes are used as the texts have
pub uses : (self : Store) (k : Kept self) → self.used ≡ length (texts_of k.forms)
unfolding packed
uses self k = ap (λ s. s.used) k.is
