-- 'The form store': a form's text and its limits, the rules of a sound form, the stored forms and the reply to `FI`.
use Rattle.std.specs.Prelude.{ℕ, zero, suc, ◌+◌, ◌-◌, Bool, true, false, not, ◌&&◌, ◌||◌, List, [], ◌∷◌, ◌++◌, map, length, leb, ltb, eqb}
use Rattle.paper.specs.Byte.{Option, none, some, bytes, when◌then◌else◌, same}
use Rattle.paper.specs.Line.{lf}
use Rattle.paper.specs.Command.{Value, counter, variable, Content, text, shown, joined, Draw, size, direction, put, bar, frame, Define, counting, varying, FormLine, draw, define, keep, all}
use Rattle.paper.specs.Write.{lines_text}

-- a form's text: its lines in normal form, each with LF
unfoldable pub text_of : List FormLine → List ℕ
text_of ls = lines_text (map keep ls)

-- the limits of a form: 1,024 bytes and 40 lines
unfoldable pub within_limits : List FormLine → Bool
within_limits ls = leb (length (text_of ls)) 1024 && leb (length ls) 40

-- the definitions of a form, in its order
unfoldable pub asked : List FormLine → List Define
asked [] = []
asked (draw d ∷ ls) = asked ls
asked (define d ∷ ls) = d ∷ asked ls

-- the value that a definition defines
unfoldable pub value_of : Define → Value
value_of (counting n len letter by prompt) = counter n
value_of (varying n len letter prompt) = variable n

-- the len that it gives
unfoldable pub len_of : Define → ℕ
len_of (counting n len letter by prompt) = len
len_of (varying n len letter prompt) = len

-- `C` and `V` have numbers of their own
unfoldable pub same_value : Value → Value → Bool
same_value (counter n) (counter m) = eqb n m
same_value (counter n) (variable m) = false
same_value (variable n) (counter m) = false
same_value (variable n) (variable m) = eqb n m

-- the first definition of a value
unfoldable pub defined : Value → List Define → Option Define
defined v [] = none
defined v (d ∷ ds) = when same_value v (value_of d) then some d else defined v ds

-- there is one
unfoldable pub is_some {ℓ} : {A : Type ℓ} → Option A → Bool
is_some none = false
is_some (some a) = true

-- a `Q`
unfoldable pub is_size : Draw → Bool
is_size (size p₁ p₂) = true
is_size (direction d) = false
is_size (put s c) = false
is_size (bar pen x y w t) = false
is_size (frame x₁ y₁ t x₂ y₂) = false

-- a `Z`
unfoldable pub is_direction : Draw → Bool
is_direction (size p₁ p₂) = false
is_direction (direction d) = true
is_direction (put s c) = false
is_direction (bar pen x y w t) = false
is_direction (frame x₁ y₁ t x₂ y₂) = false

-- a line that draws and passes a test
unfoldable pub drawing : (Draw → Bool) → FormLine → Bool
drawing test (draw d) = test d
drawing test (define d) = false

-- line 1 is `Q`, line 2 is `Z`, no other line is either; the number counts the lines above
unfoldable pub in_place : ℕ → FormLine → Bool
in_place zero line = drawing is_size line
in_place (suc zero) line = drawing is_direction line
in_place (suc (suc k)) line = not (drawing is_size line || drawing is_direction line)

-- a string's length plus the defined len is at most 100
unfoldable pub room_for : List ℕ → Option Define → Bool
room_for s none = false
room_for s (some d) = leb (length s + len_of d) 100

-- an `A` that names a value stands below its definition; with a string too, both together are not too long
unfoldable pub content_sound : List Define → Content → List Bool
content_sound above (text s) = []
content_sound above (shown v) = is_some (defined v above) ∷ []
content_sound above (joined s v) = is_some (defined v above) ∷ room_for s (defined v above) ∷ []

-- only an `A` names values
unfoldable pub draw_sound : List Define → Draw → List Bool
draw_sound above (size p₁ p₂) = []
draw_sound above (direction d) = []
draw_sound above (put s c) = content_sound above c
draw_sound above (bar pen x y w t) = []
draw_sound above (frame x₁ y₁ t x₂ y₂) = []

-- no number is defined twice; an `A` agrees with the definitions above it
unfoldable pub value_sound : List Define → FormLine → List Bool
value_sound above (draw d) = draw_sound above d
value_sound above (define d) = not (is_some (defined (value_of d) above)) ∷ []

-- the rules for a line with so many lines and these definitions above it, in the order of 01's sentence
unfoldable pub rules : ℕ → List Define → FormLine → List Bool
rules k above line = in_place k line ∷ value_sound above line

-- the first line that breaks a rule, counted from 1; a missing line 1 or 2 breaks its rule like a wrong one
unfoldable pub first_broken : ℕ → List Define → List FormLine → Option ℕ
first_broken k above [] = when ltb k 2 then some (suc k) else none
first_broken k above (l ∷ ls) =
    elim (all (rules k above l)) [ true ↦ first_broken (suc k) (above ++ asked (l ∷ [])) ls | false ↦ some (suc k) ]

-- where a form is unsound, if it is
unfoldable pub unsound_at : List FormLine → Option ℕ
unsound_at ls = first_broken 0 [] ls

-- a stored form
pub record Form : Type 0 where
  pub name : List ℕ
  pub lines : List FormLine

-- the lines of the form of a name
unfoldable pub find : List ℕ → List Form → Option (List FormLine)
find name [] = none
find name (f ∷ fs) = when same name f.name then some f.lines else find name fs

-- the forms but that of a name, in their order
unfoldable pub without : List ℕ → List Form → List Form
without name [] = []
without name (f ∷ fs) = when same name f.name then without name fs else (f ∷ without name fs)

-- the bytes of the stored texts
unfoldable pub used : List Form → ℕ
used [] = 0
used (f ∷ fs) = length (text_of f.lines) + used fs

-- the store holds 4,096 bytes of text and 8 forms: there is room for one form more
unfoldable pub has_room : List Form → List FormLine → Bool
has_room fs ls = ltb (length fs) 8 && leb (length (text_of ls)) (4096 - used fs)

-- a form put behind those that are stored
unfoldable pub stored : List Form → List ℕ → List FormLine → List Form
stored fs name ls = fs ++ (record { name = name; lines = ls } ∷ [])

-- the names, each on a line
unfoldable pub names : List Form → List ℕ
names [] = []
names (f ∷ fs) = f.name ++ (lf ∷ names fs)

-- the reply to `FI`
unfoldable pub listing : List Form → List ℕ
listing [] = bytes "Form Information:\nNo Form Stored\n"
listing (f ∷ fs) = bytes "Form Information:\n" ++ names (f ∷ fs)
