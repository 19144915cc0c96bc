-- A store whose memory is lent: the numbers that go by value and the slices, gathered into the store that they are.
use Rattle.std.specs.Prelude.{ℕ, ◌+◌, ◌≤◌, ◌<◌, ◌≡◌, List, [], ◌∷◌, ◌++◌, length, Option}
use Rattle.store.specs.Packed.{Store, Entry, entry, texts_of, packed, Kept, find_from, lines_of, listing_of}
use Rattle.text.specs.Write.{Writes}
use Rattle.store.specs.declared.Filed.{Filed}
use Rattle.store.specs.declared.Found.{Found}

-- the store that they are
abbrev pub store_of : Filed → (all names texts lens : List ℕ) → Store
store_of f all names texts lens =
    record { text = all; names = names; texts = texts; lens = lens; used = f.used; count = f.count }

-- a store that holds some forms, with the bounds that this gives its numbers and its memory
pub record Stocked (store : Store) : Type 0 where
  pub kept : Kept store
  pub few : store.count ≤ 8
  pub room : store.used ≤ 4096
  pub text : length store.text ≡ 4096
  pub names : length store.names ≡ 128
  pub texts : length store.texts ≡ 8
  pub lens : length store.lens ≡ 8

-- the form of a name is found where it stands
pub record Finds (store : Store) (name : List ℕ) (r : Option Found) : Type 0 where
  pub finds : (k : Kept store) → r ≡ find_from 0 0 name k.forms

-- there is room for a form
pub record Spare (store : Store) (name text : List ℕ) : Type 0 where
  pub stocked : Stocked store
  pub few : store.count < 8
  pub room : store.used + length text ≤ 4096
  pub short : length name ≤ 16

-- a form joins the others
pub record Joins (store : Store) (name text : List ℕ) (more : Store) : Type 0 where
  pub joins : (es : List Entry) → store ≡ packed es → more ≡ packed (es ++ (entry name text ∷ []))

-- the form of a number stands there, with its text at a place: both lie within the store
pub record Stands (store : Store) (index start size : ℕ) : Type 0 where
  pub stocked : Stocked store
  pub before : List Entry
  pub here : Entry
  pub behind : List Entry
  pub forms : stocked.kept.forms ≡ before ++ (here ∷ behind)
  pub number : index ≡ length before
  pub place : start ≡ length (texts_of before)
  pub bytes : size ≡ length here.text
  pub counted : index < store.count
  pub inside : start + size ≤ store.used

-- it leaves, and the others stay
pub record Leaves (store : Store) (index start size : ℕ) (rest : Store) : Type 0 where
  pub leaves : (s : Stands store index start size) → rest ≡ packed (s.before ++ s.behind)

-- no form is there
abbrev pub Clears : Store → Type 0
Clears store = store ≡ packed []

-- the names are written at a place, each on a line
pub record Names (store : Store) (old : List ℕ) (at : ℕ) (new : List ℕ) (next : ℕ) : Type 0 where
  pub names : (k : Kept store) → Writes old at (lines_of k.forms) new next

-- the reply to `FI` is written at the front
pub record Lists (store : Store) (old new : List ℕ) (next : ℕ) : Type 0 where
  pub lists : (k : Kept store) → Writes old 0 (listing_of k.forms) new next
