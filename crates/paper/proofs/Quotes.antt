-- A line that reads as a command has at most one string, behind its first quote: no other of its quotes has the same content behind it.
use Prim.Native.Nat.{ℕ, zero, suc, ◌+◌, ◌-◌, ◌*◌, ◌<◌}
use Prim.Native.Char.{code}
use mathlib.Core.Path.{◌≡◌, refl, sym, ◌∙◌}
use mathlib.Core.Bool.{Bool, true, false, ◌||◌, true≢false}
use mathlib.Core.List.{List, [], ◌∷◌}
use native.Mathlib.Omega.{arith}
use lib.ListN.{length}
use lib.Dec.{eqb}
use borrow.Author.Tests.{eqb-true}
use Rattle.paper.specs.Byte.{bytes, when◌then◌else◌, between, any, among}
use Rattle.paper.specs.Line.{Got, got, bad, Reader, followed, give, ended, one, byte, comma, part, is_digit, digit, two_digits, more_digits, number, letter, quote, backslash, within, plain, escaped, string, long, control}
use Rattle.paper.specs.Command.{Content, text, shown, joined, Pen, size, direction, put, bar, frame, counting, varying, draw, define, start, finish, inform, recall, delete, Command, empty, new, keep, file, ask, print, in_range}
use Rattle.paper.specs.Refusal.{too_long, control_byte, out_of_range}
use Rattle.paper.specs.Read.{or_else, font, step, value, behind, content, setting, size_line, direction_line, text_line, bar_line, frame_line, counter_line, variable_line, name_line, copies_of, print_line, Row, row, table, these, Shape, shaped, strange, broken, body_shape, by_row, shape, Reading, command, unread, judged, read}
use Rattle.paper.proofs.Law.{by_test}
use Rattle.paper.proofs.Test.{clash, either}
use Rattle.paper.proofs.String.{plain_cons}
use Rattle.paper.proofs.Part.{or_else_got, or_else_bad}

-- what stands behind each quote of a text
unfoldable pub quotes : List ℕ → List (List ℕ)
quotes [] = []
quotes (b ∷ s) = when eqb b quote then s ∷ quotes s else quotes s

-- each of some texts has a property
abbrev pub All : (List ℕ → Type 0) → List (List ℕ) → Type 0
All K [] = Unit
All K (v ∷ vs) = K v × All K vs

-- and another that follows from it
all_map : {K L : List ℕ → Type 0} (vs : List (List ℕ)) → ((v : List ℕ) → K v → L v) → All K vs → All L vs
all_map [] f h = tt
all_map (v ∷ vs) f h = (f v h.0, all_map vs f h.1)

-- a quote has what stands behind it
pub quotes_open : (b : ℕ) (s : List ℕ) → eqb b quote ≡ true → quotes (b ∷ s) ≡ s ∷ quotes s
unfolding quotes when◌then◌else◌
quotes_open b s e = rw e

-- another byte adds nothing
pub quotes_pass : (b : ℕ) (s : List ℕ) → eqb b quote ≡ false → quotes (b ∷ s) ≡ quotes s
unfolding quotes when◌then◌else◌
quotes_pass b s e = rw e

-- at a quote the string ends
plain_quote : (b : ℕ) (s : List ℕ) → eqb b quote ≡ true → plain (b ∷ s) ≡ got [] s
plain_quote b s e = rw (plain_cons b s, e)

-- a backslash leads to the other mood
plain_slash : (b : ℕ) (s : List ℕ) → eqb b quote ≡ false → eqb b backslash ≡ true → plain (b ∷ s) ≡ escaped s
plain_slash b s e f = rw (plain_cons b s, e, f)

-- another byte is read as itself
plain_other : (b : ℕ) (s : List ℕ) → eqb b quote ≡ false → eqb b backslash ≡ false → plain (b ∷ s) ≡ within b (plain s)
plain_other b s e f = rw (plain_cons b s, e, f)

-- no string closes where there is no quote
no_string : (s : List ℕ) → quotes s ≡ [] → (plain s ≡ bad) × (escaped s ≡ bad)
unfolding plain escaped within followed
no_string [] e = (refl, refl)
no_string (b ∷ s) e =
    either (eqb b quote)
    (λ y. let z : s ∷ quotes s ≡ [] = sym (quotes_open b s y) ∙ e in let z' : ◌≡◌ {A = ℕ} 0 1 = cc in absurd (omega arith))
    (λ n.
    let ih = no_string s (sym (quotes_pass b s n) ∙ e) in (
      either (eqb b backslash) (λ y. plain_slash b s n y ∙ ih.1) (λ m. plain_other b s n m ∙ rw ih.0),
      rw ih.0,
    ))

-- what was read, if anything, has a property
abbrev Sure : {A : Type 0} → (A → List ℕ → Type 0) → Got A → Type 0
Sure K (got a r) = K a r
Sure K bad = Unit

-- and another that follows from it
sure_map : {A : Type 0} {K L : A → List ℕ → Type 0} (g : Got A) → ((a : A) (r : List ℕ) → g ≡ got a r → K a r → L a r) → Sure K g → Sure L g
sure_map (got a r) f h = f a r refl h
sure_map bad f h = tt

-- a byte in front of what was read
within_sure : (K : List ℕ → List ℕ → Type 0) (b : ℕ) (g : Got (List ℕ)) → Sure (λ c r. K (b ∷ c) r) g → Sure K (within b g)
unfolding within followed give
within_sure K b (got c r) h = h
within_sure K b bad h = tt

-- a string that starts here is shorter than another
abbrev Shorter : List ℕ → List ℕ → Type 0
Shorter c v = (t r : List ℕ) → plain v ≡ got t r → length t < length c

-- so it is where none closes
bad_shorter : (c v : List ℕ) → plain v ≡ bad → Shorter c v
bad_shorter c v e t r p = let z : ◌≡◌ {A = ℕ} 0 1 = cc in absurd (omega arith)

-- the strings that start behind a quote in or behind the last string of a line are shorter than it, in both moods
inner : (s : List ℕ)
    → Sure (λ c r. quotes r ≡ [] → All (Shorter c) (quotes s)) (plain s)
    × Sure (λ c r. quotes r ≡ [] → All (Shorter c) (quotes s)) (escaped s)
unfolding plain escaped
inner [] = (tt, tt)
inner (b ∷ s) = (
  either (eqb b quote)
      (λ y. rw (plain_quote b s y, quotes_open b s y) (λ e. (bad_shorter [] s (no_string s e).0, rw e tt)))
      (λ n.
      either (eqb b backslash)
      (λ y. rw (plain_slash b s n y, quotes_pass b s n) (inner s).1)
      (λ m.
      rw (plain_other b s n m, quotes_pass b s n)
      (within_sure _ b (plain s) (sure_map (plain s) (λ c r _ h e. longer c (h e)) (inner s).0)))),
  within_sure _ b (plain s)
      (sure_map (plain s)
      (λ c r p h e.
      either (eqb b quote)
      (λ y. rw (quotes_open b s y) ((λ t r' q. let same : t ≡ c = cc in rw same (omega arith)), longer c (h e)))
      (λ n. rw (quotes_pass b s n) (longer c (h e))))
      (inner s).0),
)
  where
    longer : (c : List ℕ) → All (Shorter c) (quotes s) → All (Shorter (b ∷ c)) (quotes s)
    longer c h = all_map (quotes s) (λ v k t r p. omega (arith, k t r p)) h

-- what stands behind the first of some quotes
unfoldable pub first : List (List ℕ) → List ℕ
first [] = []
first (v ∷ vs) = v

-- a string of this content stands at most behind the first of some quotes
pub record Single (qs : List (List ℕ)) (t : List ℕ) : Type 0 where
  pub only : All (λ v. (r : List ℕ) → plain v ≡ got t r → v ≡ first qs) qs

-- what a reader reads has a property, which may speak of the quotes of the text
record Finds {A : Type 0} (K : List (List ℕ) → A → List ℕ → Type 0) (p : Reader A) : Type 0 where
  sure : (s : List ℕ) → Sure (K (quotes s)) (p s)

-- a reader that reads no quote
abbrev Passes : {A : Type 0} → Reader A → Type 0
Passes p = Finds (λ qs a r. qs ≡ quotes r) p

-- one part and then another: the first reads no quote
after : {A B : Type 0} {K : List (List ℕ) → B → List ℕ → Type 0} {p : Reader A} {next : A → Reader B} → Passes p → ((a : A) → Finds K (next a)) → Finds K (λ s. followed (p s) next)
unfolding followed
after {A = A} {K = K} {p = p} {next = next} x y = record { sure = λ s. go s (p s) (x.sure s) }
  where
    go : (s : List ℕ) (g : Got A) → Sure (λ a r. quotes s ≡ quotes r) g → Sure (K (quotes s)) (followed g next)
    go s (got a r) e = rw e ((y a).sure r)
    go s bad e = tt

-- a value, with nothing read for it
given : {A : Type 0} {K : List (List ℕ) → A → List ℕ → Type 0} (a : A) → ((s : List ℕ) → K (quotes s) a s) → Finds K (give a)
unfolding give
given a h = record { sure = h }

-- a value at the end of the line
at_end : {A : Type 0} {K : List (List ℕ) → A → List ℕ → Type 0} (a : A) → K [] a [] → Finds K (ended a)
unfolding ended quotes
at_end {K = K} a h = record { sure = go }
  where
    go : (s : List ℕ) → Sure (K (quotes s)) (ended a s)
    go [] = h
    go (b ∷ s) = tt

-- a part at the end of the line
closes : {A B : Type 0} {K : List (List ℕ) → B → List ℕ → Type 0} {p : Reader A} (f : A → B) → Finds (λ qs a r. quotes r ≡ [] → K qs (f a) []) p → Finds K (λ s. followed (p s) (λ a. ended (f a)))
unfolding followed ended quotes
closes {A = A} {K = K} {p = p} f x = record { sure = λ s. go s (p s) (x.sure s) }
  where
    go : (s : List ℕ) (g : Got A) → Sure (λ a r. quotes r ≡ [] → K (quotes s) (f a) []) g → Sure (K (quotes s)) (followed g (λ a. ended (f a)))
    go s (got a []) h = h refl
    go s (got a (b ∷ r)) h = tt
    go s bad h = tt

-- the first of two readers, or the second
either_reads : {A : Type 0} {K : List (List ℕ) → A → List ℕ → Type 0} {p q : Reader A} → Finds K p → Finds K q → Finds K (or_else p q)
either_reads {A = A} {K = K} {p = p} {q = q} x y = record { sure = λ s. go s (p s) refl (x.sure s) }
  where
    go : (s : List ℕ) (g : Got A) → p s ≡ g → Sure (K (quotes s)) g → Sure (K (quotes s)) (or_else p q s)
    go s (got a r) e h = rw (or_else_got p q s a r e) h
    go s bad e h = rw (or_else_bad p q s e) (y.sure s)

-- a byte that passes a test which a quote fails is no quote
no_quote : (test : ℕ → Bool) (b : ℕ) → test quote ≡ false → test b ≡ true → eqb b quote ≡ false
no_quote test b none y = either (eqb b quote) (λ q. clash (rw (eqb-true b quote q) at y) none) (λ n. n)

-- one such byte
one_passes : (test : ℕ → Bool) → test quote ≡ false → Passes (one test)
unfolding one
one_passes test none = record { sure = go }
  where
    go : (s : List ℕ) → Sure (λ a r. quotes s ≡ quotes r) (one test s)
    go [] = tt
    go (b ∷ s) =
        by_test (Sure (λ a r. quotes (b ∷ s) ≡ quotes r)) (test b) (got b s) bad
        (λ y. quotes_pass b s (no_quote test b none y)) (λ _. tt)

-- a part with its comma
part_passes : {A : Type 0} {p : Reader A} → Passes p → Passes (part p)
unfolding part comma byte
part_passes x = after x λ a. after (one_passes _ refl) λ _. given a λ s. refl

-- a digit
digit_passes : Passes digit
unfolding digit is_digit between
digit_passes = after (one_passes _ refl) λ b. given _ λ s. refl

-- two digits
two_passes : Passes two_digits
unfolding two_digits
two_passes = after digit_passes λ a. after digit_passes λ b. given _ λ s. refl

-- the digits of a number behind its first
more_digits_quotes : (k n : ℕ) (s : List ℕ) → Sure (λ a r. quotes s ≡ quotes r) (more_digits k n s)
unfolding more_digits is_digit between
more_digits_quotes zero n s = refl
more_digits_quotes (suc k) n [] = refl
more_digits_quotes (suc k) n (b ∷ s) = go (is_digit b) refl (more_digits_quotes k (n * 10 + (b - code "0")) s)
  where
    go : (t : Bool) → is_digit b ≡ t → Sure (λ a r. quotes s ≡ quotes r) (more_digits k (n * 10 + (b - code "0")) s)
        → Sure {A = ℕ} (λ a r. quotes (b ∷ s) ≡ quotes r) (elim t as (λ _. Got ℕ) [ true ↦ more_digits k (n * 10 + (b - code "0")) s | false ↦ got n (b ∷ s) ])
    go true y h = rw (quotes_pass b s (no_quote is_digit b refl y)) h
    go false y h = refl

-- a number
number_passes : Passes number
unfolding number
number_passes = after digit_passes λ n. record { sure = more_digits_quotes 4 n }

-- a letter
letter_passes : Passes letter
unfolding letter between
letter_passes = one_passes _ refl

-- a font
font_passes : Passes font
unfolding font
font_passes = either_reads number_passes (after letter_passes λ _. given 0 λ s. refl)

-- a step
step_passes : Passes step
unfolding step among any bytes
step_passes = after (one_passes _ refl) λ sign. after number_passes λ n. given _ λ s. refl

-- a value by its number
value_passes : Passes value
unfolding value byte
value_passes =
    either_reads (after (one_passes _ refl) λ _. after digit_passes λ n. given _ λ s. refl)
    (after (one_passes _ refl) λ _. after two_passes λ n. given _ λ s. refl)

-- the seven parameters of an `A`
setting_passes : Passes setting
unfolding setting
setting_passes =
    after (part_passes number_passes) λ x.
    after (part_passes number_passes) λ y.
    after (part_passes number_passes) λ r.
    after (part_passes font_passes) λ f.
    after (part_passes number_passes) λ h.
    after (part_passes number_passes) λ v.
    after (part_passes letter_passes) λ m. given _ λ s. refl

-- the leading letters
these_pass : (u : List ℕ) → among u quote ≡ false → Passes (these u)
unfolding these among any byte
these_pass [] e = given 0 λ s. refl
these_pass (b ∷ u) e = go (eqb quote b) refl (these_pass u) e
  where
    go : (t : Bool) → eqb quote b ≡ t → (among u quote ≡ false → Passes (these u)) → (t || among u quote) ≡ false → Passes (these (b ∷ u))
    go true q more e = absurd (true≢false e)
    go false q more e = after (one_passes _ q) λ _. more e

-- a string that no quote follows is the only one of its content
string_finds : Finds (λ qs t r. quotes r ≡ [] → Single qs t) string
unfolding string byte one followed when◌then◌else◌ first
string_finds = record { sure = go }
  where
    go : (s : List ℕ) → Sure (λ t r. quotes r ≡ [] → Single (quotes s) t) (string s)
    go [] = tt
    go (b ∷ s) =
        either (eqb b quote)
        (λ y.
        rw (y, when◌then◌else◌, quotes_open b s y)
        (sure_map (plain s)
        (λ t r p h e. record { only = ((λ r' q. refl), all_map (quotes s) (λ v k r' q. absurd (let less = k t r' q in omega arith)) (h e)) })
        (inner s).0))
        (λ n. rw (n, when◌then◌else◌) tt)

-- such a string with more behind it, in which there is no quote either
string_then : {B : Type 0} {K : List (List ℕ) → B → Type 0} {next : List ℕ → Reader B}
    → ((t : List ℕ) → Finds (λ qs c r. (qs ≡ quotes r) × ((qs' : List (List ℕ)) → Single qs' t → K qs' c)) (next t))
    → Finds (λ qs c r. quotes r ≡ [] → K qs c) (λ s. followed (string s) next)
unfolding followed
string_then {K = K} {next = next} y = record { sure = λ s. go s (string s) (string_finds.sure s) }
  where
    go : (s : List ℕ) (g : Got (List ℕ)) → Sure (λ t r. quotes r ≡ [] → Single (quotes s) t) g → Sure (λ c r. quotes r ≡ [] → K (quotes s) c) (followed g next)
    go s (got t r) h = sure_map (next t r) (λ c r' _ k e. k.1 (quotes s) (h (k.0 ∙ e))) ((y t).sure r)
    go s bad h = tt

-- the string of a content is the only one of its content
abbrev pub LoneText : List (List ℕ) → Content → Type 0
LoneText qs (text t) = Single qs t
LoneText qs (shown v) = Unit
LoneText qs (joined t v) = Single qs t

-- and that of a command
abbrev pub Lone : List (List ℕ) → Command → Type 0
Lone qs empty = Unit
Lone qs new = Unit
Lone qs (keep (draw (size p₁ p₂))) = Unit
Lone qs (keep (draw (direction d))) = Unit
Lone qs (keep (draw (put s c))) = LoneText qs c
Lone qs (keep (draw (bar pen x y w t))) = Unit
Lone qs (keep (draw (frame x₁ y₁ t x₂ y₂))) = Unit
Lone qs (keep (define (counting n len l by prompt))) = Single qs prompt
Lone qs (keep (define (varying n len l prompt))) = Single qs prompt
Lone qs (file (start name)) = Single qs name
Lone qs (file finish) = Unit
Lone qs (file inform) = Unit
Lone qs (file (recall name)) = Single qs name
Lone qs (file (delete name)) = Single qs name
Lone qs ask = Unit
Lone qs (print n c) = Unit

-- a reader of commands of which that holds
abbrev Line : Reader Command → Type 0
Line p = Finds (λ qs c r. Lone qs c) p

-- the content of an `A`
content_finds : Finds (λ qs c r. quotes r ≡ [] → LoneText qs c) content
unfolding content behind quotes
content_finds =
    either_reads
    (string_then λ t. either_reads (at_end (text t) (refl, λ qs h. h)) (after value_passes λ v. given (joined t v) λ s. (refl, λ qs h. h)))
    (after value_passes λ v. given (shown v) λ s e. tt)

-- `Q`
size_lone : Line size_line
unfolding size_line
size_lone = after (part_passes number_passes) λ p₁. after number_passes λ p₂. at_end _ tt

-- `Z`
direction_lone : Line direction_line
unfolding direction_line
direction_lone = after letter_passes λ d. at_end _ tt

-- `A`
text_lone : Line text_line
unfolding text_line
text_lone = after setting_passes λ s. closes _ content_finds

-- `LO`, `Le` and `LW`
bar_lone : (pen : Pen) → Line (bar_line pen)
unfolding bar_line
bar_lone pen =
    after (part_passes number_passes) λ x.
    after (part_passes number_passes) λ y.
    after (part_passes number_passes) λ w. after number_passes λ t. at_end _ tt

-- `X`
frame_lone : Line frame_line
unfolding frame_line
frame_lone =
    after (part_passes number_passes) λ x₁.
    after (part_passes number_passes) λ y₁.
    after (part_passes number_passes) λ t.
    after (part_passes number_passes) λ x₂. after number_passes λ y₂. at_end _ tt

-- `C`
counter_lone : Line counter_line
unfolding counter_line
counter_lone =
    after (part_passes digit_passes) λ n.
    after (part_passes number_passes) λ len.
    after (part_passes letter_passes) λ l.
    after (part_passes step_passes) λ by. closes _ string_finds

-- `V`
variable_lone : Line variable_line
unfolding variable_line
variable_lone =
    after (part_passes two_passes) λ n.
    after (part_passes number_passes) λ len.
    after (part_passes letter_passes) λ l. closes _ string_finds

-- `P`
print_lone : Line print_line
unfolding print_line copies_of comma byte
print_lone =
    after number_passes λ n.
    either_reads (at_end _ tt) (after (one_passes _ refl) λ _. after number_passes λ c. at_end _ tt)

-- rows whose letters are no quotes, each with such a reader
data Rows : List Row → Type 0 where
  none : Rows []
  led : {r : Row} {rs : List Row} → among (bytes r.letters) quote ≡ false → Line r.body → Rows rs → Rows (r ∷ rs)

-- the table has such rows
table_rows : Rows table
unfolding table row bytes among any name_line
table_rows =
    led refl (at_end _ tt)
    (led refl (at_end _ tt)
    (led refl (at_end _ tt)
    (led refl (at_end _ tt)
    (led refl size_lone
    (led refl direction_lone
    (led refl text_lone
    (led refl (bar_lone _)
    (led refl (bar_lone _)
    (led refl (bar_lone _)
    (led refl frame_lone
    (led refl counter_lone
    (led refl variable_lone
    (led refl (closes _ string_finds)
    (led refl (closes _ string_finds)
    (led refl (closes _ string_finds)
    (led refl print_lone none))))))))))))))))

-- a shape's command has a property
abbrev Shapes : (Command → Type 0) → Shape → Type 0
Shapes K (shaped c) = K c
Shapes K strange = Unit
Shapes K broken = Unit

-- the shape of what follows the letters has it with what was read
body_shapes : (K : Command → Type 0) (g : Got Command) → Sure (λ c r. K c) g → Shapes K (body_shape g)
unfolding body_shape
body_shapes K (got c r) h = h
body_shapes K bad h = tt

-- the string of the command by such rows is the only one of its content in the line
rows_lone : (rs : List Row) → Rows rs → (s : List ℕ) → Shapes (Lone (quotes s)) (by_row rs s)
unfolding by_row
rows_lone [] none s = tt
rows_lone (r ∷ rs) (led e line more) s = go (these (bytes r.letters) s) ((these_pass (bytes r.letters) e).sure s) (rows_lone rs more s)
  where
    go : (g : Got ℕ) → Sure (λ a u. quotes s ≡ quotes u) g → Shapes (Lone (quotes s)) (by_row rs s)
        → Shapes (Lone (quotes s)) (elim g as (λ _. Shape) [ got _ rest ↦ body_shape (r.body rest) | bad ↦ by_row rs s ])
    go (got a rest) e ih = rw e (body_shapes (Lone (quotes rest)) (r.body rest) (line.sure rest))
    go bad e ih = ih

-- by the table too
shape_lone : (s : List ℕ) → Shapes (Lone (quotes s)) (shape s)
unfolding shape
shape_lone [] = tt
shape_lone (b ∷ s) = rows_lone table table_rows (b ∷ s)

-- the string of what a line reads as, if it is a command
abbrev pub LoneReading : List (List ℕ) → Reading → Type 0
LoneReading qs (command c) = Lone qs c
LoneReading qs (unread r) = Unit

-- a shape that is judged a command has that command's string
judged_lone : (width : ℕ) (qs : List (List ℕ)) (sh : Shape) → Shapes (Lone qs) sh → LoneReading qs (judged width sh)
unfolding judged
judged_lone width qs (shaped c) h = by_test (LoneReading qs) (in_range width c) (command c) (unread out_of_range) (λ _. h) (λ _. tt)
judged_lone width qs strange h = tt
judged_lone width qs broken h = tt

-- the string of the command that a line reads as stands in the line behind its first quote, and no other has its content
pub read_lone : (width : ℕ) (s : List ℕ) → LoneReading (quotes s) (read width s)
unfolding read
read_lone width s =
    by_test (LoneReading (quotes s)) (long s) (unread too_long) _ (λ _. tt)
    λ _. by_test (LoneReading (quotes s)) (control s) (unread control_byte) (judged width (shape s)) (λ _. tt)
    λ _. judged_lone width (quotes s) (shape s) (shape_lone s)
