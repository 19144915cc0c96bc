-- Answers that fit, counters, and the print set: the end of 'The states'.
use Rattle.std.specs.Prelude.{ℕ, zero, suc, ◌+◌, ◌-◌, ◌*◌, ◌^◌, Bool, true, false, ◌&&◌, List, [], ◌∷◌, ◌++◌, length, replicate, leb, ltb, eqb}
use Rattle.paper.specs.Byte.{code, Option, none, some, when◌then◌else◌, every, same, decimal}
use Rattle.paper.specs.Line.{is_digit, cut}
use Rattle.paper.specs.Command.{Value, Content, text, shown, joined, Draw, size, direction, put, bar, frame, Step, up, down, Define, counting, varying, FormLine, draw, define, Command, empty, new, keep, file, ask, print, is_shown}
use Rattle.paper.specs.Read.{command, unread, read}
use Rattle.paper.specs.Write.{lines_text}
use Rattle.paper.specs.Form.{asked, value_of, same_value, is_size, is_direction, drawing}

-- an answer fits: for a variable 0 to len bytes of 20H to FFH, for a counter 1 to len digits
unfoldable pub fits : Define → List ℕ → Bool
fits (counting n len letter by prompt) a = leb 1 (length a) && leb (length a) len && every is_digit a
fits (varying n len letter prompt) a = leb (length a) len && every is_shown a

-- the number that digits write, behind the value so far
unfoldable pub amount : ℕ → List ℕ → ℕ
amount n [] = n
amount n (b ∷ s) = amount (n * 10 + (b - code "0")) s

-- a counter's value in set i: start plus i times step
unfoldable pub value_at : Step → ℕ → ℕ → ℕ
value_at (up n) start i = start + i * n
value_at (down n) start i = start - i * n

-- that value is neither below 0 nor above 10^len - 1
unfoldable pub holds : ℕ → Step → ℕ → ℕ → Bool
holds len (up n) start i = ltb (start + i * n) (10 ^ len)
holds len (down n) start i = leb (i * n) start && ltb (start - i * n) (10 ^ len)

-- a definition with its answer holds in the first set and in the last
unfoldable pub holds_to : ℕ → Define → List ℕ → Bool
holds_to last (counting n len letter by prompt) a = holds len by (amount 0 a) 0 && holds len by (amount 0 a) last
holds_to last (varying n len letter prompt) a = true

-- no counter of a form leaves its bounds in the first or the last set, which by `holds_everywhere` is in every set
unfoldable pub all_hold : ℕ → List Define → List (List ℕ) → Bool
all_hold last [] given = true
all_hold last (d ∷ ds) [] = true
all_hold last (d ∷ ds) (a ∷ more) = holds_to last d a && all_hold last ds more

-- digits with zeros in front, up to a count
unfoldable pub padded : ℕ → List ℕ → List ℕ
padded count digits = replicate (count - length digits) (code "0") ++ digits

-- what a definition with its answer shows in set i: a counter's value with as many digits as the answer had, or more
unfoldable pub shows : Define → List ℕ → ℕ → List ℕ
shows (counting n len letter by prompt) a i = padded (length a) (decimal (value_at by (amount 0 a) i))
shows (varying n len letter prompt) a i = a

-- what a value shows in set i, from the definitions and their answers in the form's order
unfoldable pub value_in : List Define → List (List ℕ) → ℕ → Value → List ℕ
value_in [] given i v = []
value_in (d ∷ ds) [] i v = []
value_in (d ∷ ds) (a ∷ more) i v = when same_value v (value_of d) then shows d a i else value_in ds more i v

-- the text shown for a content: string and value are joined
unfoldable pub filled : (Value → List ℕ) → Content → List ℕ
filled values (text s) = s
filled values (shown v) = values v
filled values (joined s v) = s ++ values v

-- a drawing line with its value in place
unfoldable pub placed : (Value → List ℕ) → Draw → Draw
placed values (size p₁ p₂) = size p₁ p₂
placed values (direction d) = direction d
placed values (put s c) = put s (text (filled values c))
placed values (bar pen x y w t) = bar pen x y w t
placed values (frame x₁ y₁ t x₂ y₂) = frame x₁ y₁ t x₂ y₂

-- a form's lines in order without C and V, each value in place
unfoldable pub drawn : (Value → List ℕ) → List FormLine → List Command
drawn values [] = []
drawn values (draw d ∷ ls) = keep (draw (placed values d)) ∷ drawn values ls
drawn values (define d ∷ ls) = drawn values ls

-- a set as commands: `N`, the form's lines, `P1,c`
unfoldable pub set_lines : (Value → List ℕ) → List FormLine → ℕ → List Command
set_lines values ls copies = new ∷ (drawn values ls ++ (print 1 copies ∷ []))

-- set i of a form with these answers, each line with LF
unfoldable pub set_of : List FormLine → List (List ℕ) → (copies i : ℕ) → List ℕ
set_of ls given copies i = lines_text (set_lines (value_in (asked ls) given i) ls copies)

-- the commands of some lines, if each of them reads
unfoldable pub commands_of : ℕ → List (List ℕ) → Option (List Command)
commands_of width [] = some []
commands_of width (s ∷ ss) =
    elim (read width s) [ command c ↦ elim (commands_of width ss) [ some cs ↦ some (c ∷ cs) | none ↦ none ] | unread r ↦ none ]

-- an `N`
unfoldable pub is_new : Command → Bool
is_new empty = false
is_new new = true
is_new (keep line) = false
is_new (file filing) = false
is_new ask = false
is_new (print n c) = false

-- a line of a set that draws and passes a test
unfoldable pub draws : (Draw → Bool) → Command → Bool
draws test empty = false
draws test new = false
draws test (keep line) = drawing test line
draws test (file filing) = false
draws test ask = false
draws test (print n c) = false

-- `P1,c`
unfoldable pub is_last : Command → Bool
is_last empty = false
is_last new = false
is_last (keep line) = false
is_last (file filing) = false
is_last ask = false
is_last (print n c) = eqb n 1

-- a string only
unfoldable pub is_text : Content → Bool
is_text (text s) = true
is_text (shown v) = false
is_text (joined s v) = false

-- `A` with a string only, `LO`, `Le`, `LW` or `X`
unfoldable pub is_plain : Draw → Bool
is_plain (size p₁ p₂) = false
is_plain (direction d) = false
is_plain (put s c) = is_text c
is_plain (bar pen x y w t) = true
is_plain (frame x₁ y₁ t x₂ y₂) = true

-- at most so many such lines, and then `P1,c`
unfoldable pub ends_set : ℕ → List Command → Bool
ends_set most [] = false
ends_set most (c ∷ []) = is_last c
ends_set zero (c ∷ e ∷ cs) = false
ends_set (suc most) (c ∷ e ∷ cs) = draws is_plain c && ends_set most (e ∷ cs)

-- the commands of a set: `N`, a `Q`, a `Z`, at most 38 plain lines, `P1,c`
unfoldable pub is_set : List Command → Bool
is_set [] = false
is_set (a ∷ []) = false
is_set (a ∷ b ∷ []) = false
is_set (a ∷ b ∷ c ∷ cs) = is_new a && draws is_size b && draws is_direction c && ends_set 38 cs

-- bytes that read as such commands and are their normal form
unfoldable pub is_set_text : List ℕ → Option (List Command) → Bool
is_set_text bs none = false
is_set_text bs (some cs) = is_set cs && same bs (lines_text cs)

-- a well-formed set
unfoldable pub well_formed : ℕ → List ℕ → Bool
well_formed width bs = is_set_text bs (commands_of width (cut bs))
