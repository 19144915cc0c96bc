-- The normal form of a command, and writing it into a lent buffer.
use Rattle.std.specs.Prelude.{ℕ, ◌+◌, ◌/◌, ◌%◌, List, [], ◌∷◌, ◌++◌, length, leb}
use Rattle.paper.specs.Byte.{code, bytes, when◌then◌else◌, decimal}
use Rattle.paper.specs.Line.{lf, quoted}
use Rattle.paper.specs.Command.{Value, counter, variable, Content, text, shown, joined, Setting, Pen, black, flip, white, Draw, size, direction, put, bar, frame, Step, up, down, Define, counting, varying, FormLine, draw, define, Filing, start, finish, inform, recall, delete, Command, empty, new, keep, file, ask, print, in_range}
use Rattle.paper.specs.Refusal.{Answer, accepted, refused, out_of_range, too_short}

-- the parts of a line with a comma between each two
unfoldable pub commas : List (List ℕ) → List ℕ
commas [] = []
commas (part ∷ []) = part
commas (part ∷ next ∷ more) = part ++ (code "," ∷ commas (next ∷ more))

-- a number of two digits, as `V` has it
unfoldable pub two : ℕ → List ℕ
two n = (code "0" + n / 10) ∷ (code "0" + n % 10) ∷ []

-- `Cn` with one digit, `Vnn` with two
unfoldable pub value_text : Value → List ℕ
value_text (counter n) = bytes "C" ++ decimal n
value_text (variable n) = bytes "V" ++ two n

-- a string, a value, or one behind the other
unfoldable pub content_text : Content → List ℕ
content_text (text s) = quoted s
content_text (shown value) = value_text value
content_text (joined s value) = quoted s ++ value_text value

-- the letters of the three lines
unfoldable pub pen_text : Pen → List ℕ
pen_text black = bytes "LO"
pen_text flip = bytes "LE"
pen_text white = bytes "LW"

-- a sign and a number
unfoldable pub step_text : Step → List ℕ
step_text (up n) = bytes "+" ++ decimal n
step_text (down n) = bytes "-" ++ decimal n

-- parts with a comma behind each
unfoldable pub commaed : List (List ℕ) → List ℕ
commaed [] = []
commaed (part ∷ more) = part ++ (code "," ∷ commaed more)

-- the seven parameters of an `A` before its content
unfoldable pub setting_text : Setting → List ℕ
setting_text s =
    commaed
    (decimal s.x
    ∷ decimal s.y
    ∷ decimal s.r
    ∷ decimal s.f
    ∷ decimal s.h
    ∷ decimal s.v
    ∷ (s.m ∷ [])
    ∷ [])

-- the drawing lines
unfoldable pub draw_text : Draw → List ℕ
draw_text (size p₁ p₂) = bytes "Q" ++ commas (decimal p₁ ∷ decimal p₂ ∷ [])
draw_text (direction d) = bytes "Z" ++ (d ∷ [])
draw_text (put s content) = bytes "A" ++ (setting_text s ++ content_text content)
draw_text (bar pen x y w t) = pen_text pen ++ commas (decimal x ∷ decimal y ∷ decimal w ∷ decimal t ∷ [])
draw_text (frame x₁ y₁ t x₂ y₂) =
    bytes "X" ++ commas (decimal x₁ ∷ decimal y₁ ∷ decimal t ∷ decimal x₂ ∷ decimal y₂ ∷ [])

-- the defining lines
unfoldable pub define_text : Define → List ℕ
define_text (counting n len letter by prompt) =
    bytes "C" ++ commas (decimal n ∷ decimal len ∷ (letter ∷ []) ∷ step_text by ∷ quoted prompt ∷ [])
define_text (varying n len letter prompt) =
    bytes "V" ++ commas (two n ∷ decimal len ∷ (letter ∷ []) ∷ quoted prompt ∷ [])

-- the lines to the store
unfoldable pub filing_text : Filing → List ℕ
filing_text (start name) = bytes "FS" ++ quoted name
filing_text finish = bytes "FE"
filing_text inform = bytes "FI"
filing_text (recall name) = bytes "FR" ++ quoted name
filing_text (delete name) = bytes "FK" ++ quoted name

-- the normal form of a line that a form may hold
unfoldable pub line_text : FormLine → List ℕ
line_text (draw d) = draw_text d
line_text (define d) = define_text d

-- the normal form: no leading zeros, only quote and backslash escaped, `V` with two digits, `P` with both numbers, `+0`
unfoldable pub normal : Command → List ℕ
normal empty = []
normal new = bytes "N"
normal (keep line) = line_text line
normal (file filing) = filing_text filing
normal ask = bytes "?"
normal (print n c) = bytes "P" ++ commas (decimal n ∷ decimal c ∷ [])

-- writing into a buffer with so much room: 6 for a command that no line reads as, then 15 for a short buffer
unfoldable pub write : (width room : ℕ) → Command → Answer
write width room c =
    when in_range width c then
    when leb (length (normal c)) room then accepted (normal c) else refused too_short
    else refused out_of_range

-- commands as text: each in normal form, with LF
unfoldable pub lines_text : List Command → List ℕ
lines_text [] = []
lines_text (c ∷ cs) = normal c ++ (lf ∷ lines_text cs)
