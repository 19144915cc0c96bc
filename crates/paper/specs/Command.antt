-- 'The commands of the profile': what a line says, and the ranges of the table over the label's width.
use Rattle.std.specs.Prelude.{ℕ, ◌+◌, ◌-◌, Bool, true, ◌&&◌, ◌||◌, List, [], ◌∷◌, ◌++◌, length, leb, ltb}
use Rattle.paper.specs.Byte.{code, bytes, between, every, among, same}
use Rattle.paper.specs.Line.{is_digit}

-- a value by its number: `Cn` or `Vnn`
pub data Value : Type 0 where
  counter : ℕ → Value
  variable : ℕ → Value

-- the five kinds of content of an `A`: a string, one of the two values, or a string and then one of them
pub data Content : Type 0 where
  text : List ℕ → Content
  shown : Value → Content
  joined : List ℕ → Value → Content

-- where and how an `A` sets its content: the seven parameters before it, each under the table's letter
pub record Setting : Type 0 where
  pub x : ℕ
  pub y : ℕ
  pub r : ℕ
  pub f : ℕ
  pub h : ℕ
  pub v : ℕ
  pub m : ℕ

-- what an `L` line does to the dots under it: `LO` sets them, `Le` flips them and `LW` clears them
pub data Pen : Type 0 where
  black : Pen
  flip : Pen
  white : Pen

-- the lines that draw: `Q`, `Z`, `A`, the three `L` and `X`, each with the table's parameters
pub data Draw : Type 0 where
  size : ℕ → ℕ → Draw
  direction : ℕ → Draw
  put : Setting → Content → Draw
  bar : Pen → (x y w t : ℕ) → Draw
  frame : (x₁ y₁ t x₂ y₂ : ℕ) → Draw

-- a counter's step: a sign and a number; `-0` is read as `+0`, so a step down is 1 or more
pub data Step : Type 0 where
  up : ℕ → Step
  down : ℕ → Step

-- the lines that define a value to be asked for: `C` and `V`; the letter is the table's `N`
pub data Define : Type 0 where
  counting : (n len letter : ℕ) → Step → List ℕ → Define
  varying : (n len letter : ℕ) → List ℕ → Define

-- the lines that a form may hold
pub data FormLine : Type 0 where
  draw : Draw → FormLine
  define : Define → FormLine

-- the lines to the store: `FS`, `FE`, `FI`, `FR` and `FK`
pub data Filing : Type 0 where
  start : List ℕ → Filing
  finish : Filing
  inform : Filing
  recall : List ℕ → Filing
  delete : List ℕ → Filing

-- a command: the empty line, `N`, a line for a form, a line to the store, `?` and `P`
pub data Command : Type 0 where
  empty : Command
  new : Command
  keep : FormLine → Command
  file : Filing → Command
  ask : Command
  print : (sets copies : ℕ) → Command

-- a byte that a label shows: 20H to FFH
unfoldable pub is_shown : ℕ → Bool
is_shown = between 0x20 0xff

-- a text of at most so many bytes, each 20H to FFH
unfoldable pub texts : ℕ → List ℕ → List Bool
texts most s = leb (length s) most ∷ every is_shown s ∷ []

-- the numbers of `C` and `V`: one digit, and 00 to 15
unfoldable pub value_range : Value → List Bool
value_range (counter n) = leb n 9 ∷ []
value_range (variable n) = leb n 15 ∷ []

-- the content's parameters: a string of 0 to 100 bytes, a value's number
unfoldable pub content_ranges : Content → List (List Bool)
content_ranges (text s) = texts 100 s ∷ []
content_ranges (shown value) = value_range value ∷ []
content_ranges (joined s value) = texts 100 s ∷ value_range value ∷ []

-- the seven parameters before an `A`'s content, over the label's width
unfoldable pub setting_ranges : ℕ → Setting → List (List Bool)
setting_ranges width s =
    (ltb s.x width ∷ [])
    ∷ (leb s.y 8728 ∷ [])
    ∷ (leb s.r 3 ∷ [])
    ∷ (leb 1 s.f ∷ leb s.f 5 ∷ [])
    ∷ (leb 1 s.h ∷ leb s.h 24 ∷ [])
    ∷ (leb 1 s.v ∷ leb s.v 24 ∷ [])
    ∷ (among (bytes "NR") s.m ∷ [])
    ∷ []

-- the drawing lines of the table; a rule over several parameters stands at the last of them
unfoldable pub draw_ranges : ℕ → Draw → List (List Bool)
draw_ranges width (size p₁ p₂) = (leb p₁ 8728 ∷ []) ∷ (leb p₂ 8728 ∷ []) ∷ []
draw_ranges width (direction d) = (among (bytes "TB") d ∷ []) ∷ []
draw_ranges width (put s content) = setting_ranges width s ++ content_ranges content
draw_ranges width (bar pen x y w t) =
    [] ∷ [] ∷ (leb 1 w ∷ leb (x + w) width ∷ []) ∷ (leb 1 t ∷ leb (y + t) 8729 ∷ []) ∷ []
draw_ranges width (frame x₁ y₁ t x₂ y₂) =
    []
    ∷ []
    ∷ (leb 1 t ∷ [])
    ∷ (ltb x₁ x₂ ∷ ltb x₂ width ∷ leb t (x₂ - x₁) ∷ [])
    ∷ (ltb y₁ y₂ ∷ leb y₂ 8728 ∷ leb t (y₂ - y₁) ∷ [])
    ∷ []

-- a step of 0 to 9999; down from 1
unfoldable pub step_range : Step → List Bool
step_range (up n) = leb n 9999 ∷ []
step_range (down n) = leb 1 n ∷ leb n 9999 ∷ []

-- the defining lines of the table
unfoldable pub define_ranges : Define → List (List Bool)
define_ranges (counting n len letter step prompt) =
    (leb n 9 ∷ [])
    ∷ (leb 1 len ∷ leb len 9 ∷ [])
    ∷ (among (bytes "N") letter ∷ [])
    ∷ step_range step
    ∷ texts 32 prompt
    ∷ []
define_ranges (varying n len letter prompt) =
    (leb n 15 ∷ []) ∷ (leb 1 len ∷ leb len 99 ∷ []) ∷ (among (bytes "N") letter ∷ []) ∷ texts 32 prompt ∷ []

-- a byte of a name: A-Z, a-z, 0-9, `-` and `_`
unfoldable pub is_name_byte : ℕ → Bool
is_name_byte b =
    between (code "A") (code "Z") b
    || between (code "a") (code "z") b
    || is_digit b
    || among (bytes "-_") b

-- a form's name: 1 to 16 such bytes
unfoldable pub is_name : List ℕ → Bool
is_name s = leb 1 (length s) && leb (length s) 16 && every is_name_byte s

-- the star that stands for every form
unfoldable pub star : List ℕ
star = bytes "*"

-- the lines to the store; only `FK` takes the star
unfoldable pub filing_ranges : Filing → List (List Bool)
filing_ranges (start name) = (is_name name ∷ []) ∷ []
filing_ranges finish = []
filing_ranges inform = []
filing_ranges (recall name) = (is_name name ∷ []) ∷ []
filing_ranges (delete name) = ((is_name name || same name star) ∷ []) ∷ []

-- the ranges of the table: a list of tests for each part of the line, in the line's order
unfoldable pub ranges : ℕ → Command → List (List Bool)
ranges width empty = []
ranges width new = []
ranges width (keep (draw d)) = draw_ranges width d
ranges width (keep (define d)) = define_ranges d
ranges width (file filing) = filing_ranges filing
ranges width ask = []
ranges width (print sets copies) =
    (leb 1 sets ∷ leb sets 65535 ∷ []) ∷ (leb 1 copies ∷ leb copies 65535 ∷ []) ∷ []

-- all tests of a list pass
unfoldable pub all : List Bool → Bool
all [] = true
all (t ∷ ts) = t && all ts

-- all tests of all parameters pass
unfoldable pub all_of : List (List Bool) → Bool
all_of [] = true
all_of (p ∷ ps) = all p && all_of ps

-- a command within the label's limits, which are the ranges of the table; a label is at most 10,000 dots wide, so that
-- every place on it has at most 5 digits
unfoldable pub in_range : ℕ → Command → Bool
in_range width c = all_of (ranges width c)
