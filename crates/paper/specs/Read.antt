-- Reading a line: its leading letters, then its shape to the end, then its ranges give one command or one refusal.
use Rattle.std.specs.Prelude.{ℕ, zero, suc, List, [], ◌∷◌, eqb}
use Rattle.paper.specs.Byte.{code, String, bytes, when◌then◌else◌, among}
use Rattle.paper.specs.Line.{Got, got, bad, Reader, ◌>>=◌, ◌>>◌, give, ended, one, byte, comma, part, digit, two_digits, number, letter, string, long, control}
use Rattle.paper.specs.Command.{Value, counter, variable, Content, text, shown, joined, Setting, Pen, black, flip, white, size, direction, put, bar, frame, Step, up, down, counting, varying, draw, define, Filing, start, finish, inform, recall, delete, Command, empty, new, keep, file, ask, print, in_range}
use Rattle.paper.specs.Refusal.{Refusal, too_long, control_byte, unknown, malformed, out_of_range}

-- the first reader, or where it finds nothing the second
unfoldable pub or_else : {A : Type 0} → Reader A → Reader A → Reader A
or_else p q s = elim (p s) [ got a rest ↦ got a rest | bad ↦ q s ]

-- a font: a number, or a letter, which is read and is no font of the table
unfoldable pub font : Reader ℕ
font = or_else number (letter >> give 0)

-- a sign and a number as a step; `-0` is `+0`
unfoldable pub step_of : ℕ → ℕ → Step
step_of sign zero = up 0
step_of sign (suc n) = when eqb sign (code "+") then up (suc n) else down (suc n)

-- a step: a sign and then a number
unfoldable pub step : Reader Step
step = do
  sign ← one (among (bytes "+-"))
  n ← number
  give (step_of sign n)

-- a value by its number: one digit after `C`, two after `V`
unfoldable pub value : Reader Value
value =
    or_else
    (do
      byte (code "C")
      n ← digit
      give (counter n))
    (do
      byte (code "V")
      n ← two_digits
      give (variable n))

-- the end of an `A` whose content starts with a string
unfoldable pub behind : List ℕ → Reader Content
behind s = or_else (ended (text s)) (value >>= λ v. give (joined s v))

-- the content of an `A`
unfoldable pub content : Reader Content
content = or_else (string >>= behind) (value >>= λ v. give (shown v))

-- the seven parameters of an `A` before its content, each with its comma
unfoldable pub setting : Reader Setting
setting = do
  x ← part number
  y ← part number
  r ← part number
  f ← part font
  h ← part number
  v ← part number
  m ← part letter
  give (record { x = x; y = y; r = r; f = f; h = h; v = v; m = m })

-- the parts behind the leading letters of each line of the table

-- `Q`: two lengths
unfoldable pub size_line : Reader Command
size_line = do
  p₁ ← part number
  p₂ ← number
  ended (keep (draw (size p₁ p₂)))

-- `Z`: a letter
unfoldable pub direction_line : Reader Command
direction_line = do
  d ← letter
  ended (keep (draw (direction d)))

-- `A`: seven parameters and the content
unfoldable pub text_line : Reader Command
text_line = do
  s ← setting
  c ← content
  ended (keep (draw (put s c)))

-- `LO`, `Le`, `LW`: a place, a width and a height
unfoldable pub bar_line : Pen → Reader Command
bar_line pen = do
  x ← part number
  y ← part number
  w ← part number
  t ← number
  ended (keep (draw (bar pen x y w t)))

-- `X`: a corner, a thickness and the other corner
unfoldable pub frame_line : Reader Command
frame_line = do
  x₁ ← part number
  y₁ ← part number
  t ← part number
  x₂ ← part number
  y₂ ← number
  ended (keep (draw (frame x₁ y₁ t x₂ y₂)))

-- `C`: one digit, a len, a letter, a step and a prompt
unfoldable pub counter_line : Reader Command
counter_line = do
  n ← part digit
  len ← part number
  l ← part letter
  by ← part step
  prompt ← string
  ended (keep (define (counting n len l by prompt)))

-- `V`: two digits, a len, a letter and a prompt
unfoldable pub variable_line : Reader Command
variable_line = do
  n ← part two_digits
  len ← part number
  l ← part letter
  prompt ← string
  ended (keep (define (varying n len l prompt)))

-- `FS`, `FR`, `FK`: a name
unfoldable pub name_line : (List ℕ → Filing) → Reader Command
name_line does = do
  name ← string
  ended (file (does name))

-- `P`'s copies: 1 if absent
unfoldable pub copies_of : ℕ → Reader Command
copies_of n = or_else (ended (print n 1)) (comma >> (number >>= λ c. ended (print n c)))

-- `P`: sets, and copies if given
unfoldable pub print_line : Reader Command
print_line = number >>= copies_of

-- the leading letters, each with the reader of what follows them
pub record Row : Type 0 where
  pub letters : String
  pub body : Reader Command

-- a row of the table
unfoldable pub row : String → Reader Command → Row
row letters body = record { letters = letters; body = body }

-- 01's table, in its order
unfoldable pub table : List Row
table =
    row "N" (ended new)
    ∷ row "FE" (ended (file finish))
    ∷ row "FI" (ended (file inform))
    ∷ row "?" (ended ask)
    ∷ row "Q" size_line
    ∷ row "Z" direction_line
    ∷ row "A" text_line
    ∷ row "LO" (bar_line black)
    ∷ row "LE" (bar_line flip)
    ∷ row "LW" (bar_line white)
    ∷ row "X" frame_line
    ∷ row "C" counter_line
    ∷ row "V" variable_line
    ∷ row "FS" (name_line start)
    ∷ row "FR" (name_line recall)
    ∷ row "FK" (name_line delete)
    ∷ row "P" print_line
    ∷ []

-- these bytes, one after the other
unfoldable pub these : List ℕ → Reader ℕ
these [] = give 0
these (b ∷ s) = byte b >> these s

-- the shape of a line: a command whose ranges are not judged yet, unknown leading letters (4) or a malformed rest (5)
pub data Shape : Type 0 where
  shaped : Command → Shape
  strange : Shape
  broken : Shape

-- what follows the letters fits, or the line is malformed
unfoldable pub body_shape : Got Command → Shape
body_shape (got c s) = shaped c
body_shape bad = broken

-- the row whose leading letters the line has decides; none is unknown
unfoldable pub by_row : List Row → List ℕ → Shape
by_row [] s = strange
by_row (r ∷ rs) s = elim (these (bytes r.letters) s) [ got _ rest ↦ body_shape (r.body rest) | bad ↦ by_row rs s ]

-- the empty line is a command of its own
unfoldable pub shape : List ℕ → Shape
shape [] = shaped empty
shape (b ∷ s) = by_row table (b ∷ s)

-- what reading a line gives
pub data Reading : Type 0 where
  command : Command → Reading
  unread : Refusal → Reading

-- the ranges are judged last
unfoldable pub judged : ℕ → Shape → Reading
judged width (shaped c) = when in_range width c then command c else unread out_of_range
judged width strange = unread unknown
judged width broken = unread malformed

-- a line over 256 bytes or with a byte below 20H is unread before anything of it is read
unfoldable pub read : ℕ → List ℕ → Reading
read width s = when long s then unread too_long else when control s then unread control_byte else judged width (shape s)
