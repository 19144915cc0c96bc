-- 'Lines and strings': how input falls into lines, how the parts of a line are read, and how a string is written.
-- A line is what remains of it after dropping CR and 1AH, without its LF.
use Rattle.std.specs.Prelude.{ℕ, zero, suc, ◌+◌, ◌-◌, ◌*◌, Bool, true, false, ◌||◌, List, [], ◌∷◌, ◌++◌, length, ltb, eqb}
use Rattle.paper.specs.Byte.{code, when◌then◌else◌, between, any}

-- the byte that ends a line
abbrev pub lf : ℕ
lf = 0x0a

-- CR and 1AH are the bytes that are dropped
unfoldable pub is_dropped : ℕ → Bool
is_dropped b = eqb b 0x0d || eqb b 0x1a

-- dropping CR and 1AH wherever they stand
unfoldable pub kept : List ℕ → List ℕ
kept [] = []
kept (b ∷ s) = when is_dropped b then kept s else (b ∷ kept s)

-- a byte in front of the first of some lines; where there is none the byte belongs to no line
unfoldable pub infront : ℕ → List (List ℕ) → List (List ℕ)
infront b [] = []
infront b (s ∷ ss) = (b ∷ s) ∷ ss

-- the lines of a text, each ended by LF; bytes after the last LF are not a line
unfoldable pub cut : List ℕ → List (List ℕ)
cut [] = []
cut (b ∷ s) = when eqb b lf then ([] ∷ cut s) else infront b (cut s)

-- what remains is over 256 bytes
unfoldable pub long : List ℕ → Bool
long s = ltb 256 (length s)

-- a byte below 20H is among them
unfoldable pub control : List ℕ → Bool
control s = any (λ b. ltb b 0x20) s

-- what reading a part of a line gives: its value and the bytes behind it, or that no such part stands there
pub data Got (A : Type 0) : Type 0 where
  got : A → List ℕ → Got A
  bad : Got A

-- a reader of parts of one kind
abbrev pub Reader : Type 0 → Type 0
Reader A = List ℕ → Got A

-- one part and then another, chosen by the first
unfoldable pub followed : {A B : Type 0} → Got A → (A → Reader B) → Got B
followed (got a s) next = next a s
followed bad next = bad

infixr 10 ◌>>=◌
infixr 10 ◌>>◌
-- the signs of `do`: the parts of a line one after the other
abbrev pub ◌>>=◌ : {A B : Type 0} → Reader A → (A → Reader B) → Reader B
◌>>=◌ part next s = followed (part s) next

-- the same where the first part has no value of use
abbrev pub ◌>>◌ : {A B : Type 0} → Reader A → Reader B → Reader B
◌>>◌ part next s = followed (part s) (λ _. next)

-- a value, with nothing read for it
unfoldable pub give : {A : Type 0} → A → Reader A
give a s = got a s

-- a value at the end of the line: nothing more may follow
unfoldable pub ended : {A : Type 0} → A → Reader A
ended a [] = got a []
ended a (b ∷ s) = bad

-- a byte that passes a test
unfoldable pub one : (ℕ → Bool) → Reader ℕ
one test [] = bad
one test (b ∷ s) = when test b then got b s else bad

-- this very byte
unfoldable pub byte : ℕ → Reader ℕ
byte c = one (λ b. eqb b c)

-- the comma between two parts
unfoldable pub comma : Reader ℕ
comma = byte (code ",")

-- a part and the comma behind it
unfoldable pub part : {A : Type 0} → Reader A → Reader A
part p = do
  a ← p
  comma
  give a

-- a decimal digit
unfoldable pub is_digit : ℕ → Bool
is_digit = between (code "0") (code "9")

-- one digit, as its value
unfoldable pub digit : Reader ℕ
digit = do
  b ← one is_digit
  give (b - code "0")

-- two digits, as their value
unfoldable pub two_digits : Reader ℕ
two_digits = do
  a ← digit
  b ← digit
  give (a * 10 + b)

-- at most so many digits more behind the value so far
unfoldable pub more_digits : ℕ → ℕ → Reader ℕ
more_digits zero n s = got n s
more_digits (suc k) n [] = got n []
more_digits (suc k) n (b ∷ s) =
    elim (is_digit b) [ true ↦ more_digits k (n * 10 + (b - code "0")) s | false ↦ got n (b ∷ s) ]

-- a number: 1 to 5 digits; a sixth is left standing, and fits nothing that may follow a number
unfoldable pub number : Reader ℕ
number = do
  n ← digit
  more_digits 4 n

-- a letter parameter: one byte A to Z
unfoldable pub letter : Reader ℕ
letter = one (between (code "A") (code "Z"))

-- the byte that opens and closes a string
abbrev pub quote : ℕ
quote = code "\""

-- the byte behind which the next is taken literally
abbrev pub backslash : ℕ
backslash = code "\\"

-- a byte in front of a string's content
unfoldable pub within : ℕ → Got (List ℕ) → Got (List ℕ)
within b g = followed g (λ t. give (b ∷ t))

-- the content of a string behind its opening quote, in the two moods: plain, and just after a backslash
unfoldable mutual
  pub plain : Reader (List ℕ)
  plain [] = bad
  plain (b ∷ s) = elim (eqb b quote) [ true ↦ got [] s | false ↦ elim (eqb b backslash) [ true ↦ escaped s | false ↦ within b (plain s) ] ]

  pub escaped : Reader (List ℕ)
  escaped [] = bad
  escaped (b ∷ s) = within b (plain s)

-- a string between quotes, unescaped
unfoldable pub string : Reader (List ℕ)
string = do
  byte quote
  plain

-- the escaping of the normal form: only quote and backslash
unfoldable pub escape : List ℕ → List ℕ
escape [] = []
escape (b ∷ s) = when eqb b quote || eqb b backslash then (backslash ∷ b ∷ escape s) else (b ∷ escape s)

-- a string in normal form
unfoldable pub quoted : List ℕ → List ℕ
quoted s = quote ∷ (escape s ++ (quote ∷ []))
