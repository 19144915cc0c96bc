-- A store's memory as a function of the forms that it holds: names and texts one behind the other, and 0 behind them.
use Rattle.std.specs.Prelude.{ℕ, suc, ◌+◌, ◌*◌, ◌≤◌, List, [], ◌∷◌, ◌++◌, map, length, take, drop, replicate, ◌≡◌, Option, Some, None}
use Rattle.paper.specs.Byte.{bytes, when◌then◌else◌, same}
use Rattle.paper.specs.Line.{lf}
use Rattle.text.specs.Write.{padded}
use Rattle.store.specs.declared.Found.{Found}

-- a form as the store holds it
pub record Entry : Type 0 where
  pub name : List ℕ
  pub text : List ℕ

unfoldable pub entry : List ℕ → List ℕ → Entry
entry name text = record { name = name; text = text }

-- the texts, one behind the other
unfoldable pub texts_of : List Entry → List ℕ
texts_of [] = []
texts_of (e ∷ es) = e.text ++ texts_of es

-- a name in sixteen bytes
unfoldable pub slot : List ℕ → List ℕ
slot name = take 16 (name ++ replicate 16 0)

-- the names, each in sixteen bytes
unfoldable pub names_of : List Entry → List ℕ
names_of [] = []
names_of (e ∷ es) = slot e.name ++ names_of es

-- a store in memory: the texts, the names, the lengths of both, the bytes that are used and the forms
pub record Store : Type 0 where
  pub text : List ℕ
  pub names : List ℕ
  pub texts : List ℕ
  pub lens : List ℕ
  pub used : ℕ
  pub count : ℕ

-- the store that holds these forms
unfoldable pub packed : List Entry → Store
packed es =
    record {
      text = padded 4096 (texts_of es);
      names = padded 128 (names_of es);
      texts = padded 8 (map (λ e. length e.text) es);
      lens = padded 8 (map (λ e. length e.name) es);
      used = length (texts_of es);
      count = length es;
    }

-- the name of so many bytes in a slot
unfoldable pub name_in : List ℕ → ℕ → ℕ → List ℕ
name_in names i len = take len (drop (i * 16) names)

-- every name has at most sixteen bytes
abbrev pub Short : List Entry → Type 0
Short [] = Unit
Short (e ∷ es) = (length e.name ≤ 16) × Short es

-- a store that holds some forms: at most 8 of them, with names of at most 16 bytes and texts of 4,096 together
pub record Kept (self : Store) : Type 0 where
  pub forms : List Entry
  pub is : self ≡ packed forms
  pub few : length forms ≤ 8
  pub room : length (texts_of forms) ≤ 4096
  pub short : Short forms

-- where the form of a name stands: its number, where its text begins and how long that is
unfoldable pub find_from : (i start : ℕ) → List ℕ → List Entry → Option Found
find_from i start name [] = None
find_from i start name (e ∷ es) =
    when same name e.name then
    Some (record { index = i; start = start; len = length e.text })
    else find_from (suc i) (start + length e.text) name es

-- the names, each on a line
unfoldable pub lines_of : List Entry → List ℕ
lines_of [] = []
lines_of (e ∷ es) = e.name ++ (lf ∷ lines_of es)

-- the reply to `FI`
unfoldable pub listing_of : List Entry → List ℕ
listing_of [] = bytes "Form Information:\nNo Form Stored\n"
listing_of (e ∷ es) = bytes "Form Information:\n" ++ lines_of (e ∷ es)
