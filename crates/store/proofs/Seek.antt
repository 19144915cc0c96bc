-- Looking for a name from the first form on: what is left to look at is what was to be looked at.
use mathlib.Core.Path.{◌≡◌, refl, sym, ◌∙◌}
use mathlib.Core.Bool.{Bool, true, false}
use mathlib.Core.List.{List, ◌∷◌}
use Prim.Native.Nat.{ℕ, suc, ◌+◌, ◌≤◌, ◌<◌}
use native.Mathlib.Omega.{arith}
use mir.Val.{Fits}
use mir.Syntax.{w64}
use native.Mathlib.Numerals.{add-one}
use lib.ListN.{drop, get_or, drop_of_length-le}
use Rattle.paper.specs.Byte.{same}
use Rattle.paper.proofs.Law.{if_true, if_false}
use Rattle.store.specs.Packed.{Store, texts_of, Kept, name_in, find_from}
use Rattle.store.specs.Lent.{Stocked}
use Rattle.std.specs.Prelude.{Option, Some, None}
use Rattle.store.specs.declared.Found.{Found}
use Rattle.store.proofs.Look.{form_at, counts, len_at, size_at, name_at, len_short, size_room, drop_form, start_of, start_more}

-- the name was not found before the form at a number, whose text begins at a place
pub record Seeking (self : Store) (name : List ℕ) (i start : ℕ) : Type 0 where
  pub inside : i ≤ self.count
  pub left : (k : Kept self) → find_from 0 0 name k.forms ≡ find_from i start name (drop i k.forms)
  pub sum : (k : Kept self) → start ≡ start_of k.forms i

pub seek_begins : (self : Store) (name : List ℕ) → Seeking self name 0 0
unfolding start_of texts_of
seek_begins self name = record { inside = omega arith; left = λ k. refl; sum = λ k. refl }

-- the name that is compared is the form's
compared : (self : Store) (name : List ℕ) (i start len : ℕ) (k : Kept self) → Seeking self name i start → i < self.count
    → len ≡ get_or self.lens i 0 → name_in self.names i len ≡ (form_at k.forms i).name
unfolding name_in
compared self name i start len k s h e = rw (e, len_at self k i h) (name_at self k i h)

-- its name is short, and its text lies within the store
pub seek_short : (self : Store) (name : List ℕ) (i start len : ℕ) → Stocked self → Seeking self name i start → i < self.count
    → len ≡ get_or self.lens i 0 → len ≤ 16
seek_short self name i start len k s h e = rw e (len_short self k.kept i h)

pub seek_room : (self : Store) (name : List ℕ) (i start size : ℕ) → Stocked self → Seeking self name i start → i < self.count
    → size ≡ get_or self.texts i 0 → Fits w64 (start + size)
seek_room self name i start size k s h e = omega (arith, size_room self k.kept i start h (s.sum k.kept))

-- what is left, by the form that is first in it
next_left : (self : Store) (name : List ℕ) (i start : ℕ) (k : Kept self) → i < self.count
    → find_from i start name (drop i k.forms) ≡ find_from i start name (form_at k.forms i ∷ drop (suc i) k.forms)
next_left self name i start k h = rw (drop_form k.forms i (omega (arith, counts self k)))

pub seek_finds : (self : Store) (name : List ℕ) (i start len size : ℕ) (t : Bool) → Seeking self name i start → i < self.count
    → len ≡ get_or self.lens i 0 → size ≡ get_or self.texts i 0
    → t ≡ same name (name_in self.names i len) → t ≡ true → (k : Kept self) → Some (record { index = i; start = start; len = size }) ≡ find_from 0 0 name k.forms
unfolding find_from
seek_finds self name i start len size t s h l z e y k =
    let is : same name (form_at k.forms i).name ≡ true = rw (← compared self name i start len k s h l, ← e) y in
    sym (s.left k ∙ next_left self name i start k h ∙ if_true _ _ _ is ∙ rw (z, size_at self k i h))

pub seek_turns : (self : Store) (name : List ℕ) (i start len size : ℕ) (t : Bool) → Kept self → Seeking self name i start → i < self.count
    → len ≡ get_or self.lens i 0 → size ≡ get_or self.texts i 0
    → t ≡ same name (name_in self.names i len) → t ≡ false → Seeking self name (i + 1) (start + size)
unfolding find_from
seek_turns self name i start len size t kept s h l z e n =
    record {
      inside = omega arith;
      left = λ k.
          let is : same name (form_at k.forms i).name ≡ false = rw (← compared self name i start len k s h l, ← e) n in
          s.left k ∙ next_left self name i start k h ∙ if_false _ _ _ is ∙ rw (z, size_at self k i h, add-one);
      sum = λ k. rw (s.sum k, z, size_at self k i h) (sym (start_more k.forms i (omega (arith, counts self k))));
    }

pub seek_ends : (self : Store) (name : List ℕ) (i start : ℕ) → Seeking self name i start → self.count ≤ i
    → (k : Kept self) → ◌≡◌ {A = Option Found} None (find_from 0 0 name k.forms)
unfolding find_from
seek_ends self name i start s h k =
    sym (s.left k ∙ rw (drop_of_length-le k.forms {i = i} (omega (arith, counts self k))))
