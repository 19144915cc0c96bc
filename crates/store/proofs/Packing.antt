-- A form joins the others in memory: its bytes are written over zeros, so that the whole is again what the forms fix.
use mathlib.Core.Path.{◌≡◌, refl, sym, ◌∙◌}
use mathlib.Core.List.{List, [], ◌∷◌, ◌++◌, map, map-append, append_assoc, append-nil}
use Prim.Native.Nat.{ℕ, ◌+◌, ◌-◌, ◌*◌, ◌≤◌, ◌<◌}
use native.Mathlib.Omega.{arith}
use lib.ListN.{length, set, replicate, length-append, length-take, length-map}
use Rattle.text.specs.Write.{Writes, written, padded}
use Rattle.text.proofs.Padded.{padded_write, padded_set, padded_zeros, filled}
use Rattle.store.specs.Packed.{Store, Entry, entry, slot, texts_of, names_of, packed}
use Rattle.store.specs.Lent.{Spare, Joins}

-- every slot has sixteen bytes
pub slot_length : (name : List ℕ) → length (slot name) ≡ 16
unfolding slot
slot_length name = rw (length-take, length-append) (omega arith)

-- so many names take sixteen bytes each
pub names_length : (es : List Entry) → length (names_of es) ≡ length es * 16
unfolding names_of
names_length [] = refl
names_length (e ∷ es) = rw (length-append, slot_length, names_length es) (omega arith)

-- the texts and the names of two lists of forms
pub texts_both : (es fs : List Entry) → texts_of (es ++ fs) ≡ texts_of es ++ texts_of fs
unfolding texts_of
texts_both [] fs = refl
texts_both (e ∷ es) fs = rw (texts_both es fs, append_assoc)

pub names_both : (es fs : List Entry) → names_of (es ++ fs) ≡ names_of es ++ names_of fs
unfolding names_of
names_both [] fs = refl
names_both (e ∷ es) fs = rw (names_both es fs, append_assoc)

-- one form more
pub texts_more : (es : List Entry) (e : Entry) → texts_of (es ++ (e ∷ [])) ≡ texts_of es ++ e.text
unfolding texts_of
texts_more es e = texts_both es (e ∷ []) ∙ rw append-nil

names_more : (es : List Entry) (e : Entry) → names_of (es ++ (e ∷ [])) ≡ names_of es ++ slot e.name
unfolding names_of
names_more es e = names_both es (e ∷ []) ∙ rw append-nil

-- a name written behind the others fills its slot
name_joins : (es : List Entry) (name : List ℕ) → length es < 8 → length name ≤ 16
    → written (padded 128 (names_of es)) (length es * 16) name ≡ padded 128 (names_of es ++ slot name)
unfolding slot
name_joins es name few short =
    let at : length (names_of es) ≡ length es * 16 = names_length es in
    let zeros : padded 128 ((names_of es ++ name) ++ replicate (16 - length name) 0) ≡ padded 128 (names_of es ++ name) =
    padded_zeros 128 (16 - length name) (names_of es ++ name) (rw (length-append, at) (omega arith)) in
    rw (← at) (padded_write 128 (names_of es) name (rw at (omega arith)))
    ∙ sym zeros
    ∙ rw (append_assoc, filled 16 name short)

-- a store's fields after a form has joined
abbrev joined : Store → (all names : List ℕ) (text name used : ℕ) → Store
joined self all names text name used =
    record {
      text = all;
      names = names;
      texts = set self.texts self.count text;
      lens = set self.lens self.count name;
      used = used;
      count = self.count + 1;
    }

-- a list of one number for each form, with one more
one_more : (f : Entry → ℕ) (es : List Entry) (e : Entry) → length es < 8
    → set (padded 8 (map f es)) (length es) (f e) ≡ padded 8 (map f (es ++ (e ∷ [])))
one_more f es e few =
    rw (map-append f es (e ∷ []), ← length-map es f) (padded_set 8 (map f es) (f e) (rw (length-map es f) few))

packed_joins : (es : List Entry) (name text all names : List ℕ) (used end : ℕ)
    → length es < 8 → length (texts_of es) + length text ≤ 4096 → length name ≤ 16
    → Writes (padded 4096 (texts_of es)) (length (texts_of es)) text all used
    → Writes (padded 128 (names_of es)) (length es * 16) name names end
    → joined (packed es) all names (length text) (length name) used ≡ packed (es ++ (entry name text ∷ []))
unfolding packed entry
packed_joins es name text all names used end few room short a b =
    let e = entry name text in
    let texts : all ≡ padded 4096 (texts_of (es ++ (e ∷ []))) =
    a.is ∙ padded_write 4096 (texts_of es) text room ∙ rw (texts_more es e) in
    let slots : names ≡ padded 128 (names_of (es ++ (e ∷ []))) =
    b.is ∙ name_joins es name few short ∙ rw (names_more es e) in
    let sum : used ≡ length (texts_of (es ++ (e ∷ []))) = a.ends ∙ rw (texts_more es e, length-append) in
    let count : length es + 1 ≡ length (es ++ (e ∷ [])) = rw length-append in
    λ i. record {
      text = texts i;
      names = slots i;
      texts = one_more (λ x. length x.text) es e few i;
      lens = one_more (λ x. length x.name) es e few i;
      used = sum i;
      count = count i;
    }

-- the store with one form more is what the forms with it fix
pub joins : (self : Store) (name text all names : List ℕ) (used end : ℕ) → Spare self name text
    → Writes self.text self.used text all used → Writes self.names (self.count * 16) name names end
    → Joins self name text (joined self all names (length text) (length name) used)
unfolding packed
joins self name text all names used end h a b =
    record {
      joins = λ es e.
          rw e (packed_joins es name text all names used end (rw e at h.few) (rw e at h.room) h.short (rw e at a) (rw e at b));
    }
