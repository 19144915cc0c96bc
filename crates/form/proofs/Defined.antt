-- A definition told by its line alone: its parts up to what a form asks for are read back, and its prompt is passed over.
use Prim.Native.Nat.{ℕ}
use mathlib.Core.Path.{◌≡◌, refl, sym, ◌∙◌, ap}
use mathlib.Core.Bool.{true}
use mathlib.Core.List.{List, [], ◌∷◌, ◌++◌}
use native.Mathlib.Omega.{arith}
use Rattle.std.specs.Prelude.{Option, Some, None}
use Rattle.paper.specs.Byte.{code, bytes, when◌then◌else◌, between, every}
use Rattle.paper.specs.Line.{Got, got, bad, Reader, ◌>>=◌, followed, give, one, byte, comma, part, digit, two_digits, number, letter, quoted}
use Rattle.paper.specs.Command as P
use Rattle.paper.specs.Command.{ranges, define_ranges, in_range}
use Rattle.paper.specs.Read.{step}
use Rattle.paper.specs.Write.{commas, pen_text, draw_text, define_text, line_text}
use Rattle.paper.proofs.Law.{followed_got, followed_bad}
use Rattle.paper.proofs.Test.{held, tests}
use Rattle.paper.proofs.Part.{Back, number_back, digit_back, two_back, letter_back, step_back}
use Rattle.text.specs.Place.{byte_at, from, said_by, said, Says}
use Rattle.text.specs.declared.read.Parsed.{Parsed}
use Rattle.command.specs.View.{width, step_of}
use Rattle.command.specs.declared.Step.{Step}
use Rattle.command.specs.declared.Step.TheVariants.{Up, Down}
use Rattle.form.specs.Asked.{step_in, define_of, line_of}
use Rattle.form.specs.declared.asked.Define.{Define}
use Rattle.form.specs.declared.asked.Define.TheVariants.{Counter, Variable}

-- a step of the code as the paper's is that step again
step_again : (step : Step) → step_in (step_of step) ≡ step
unfolding step_in step_of
step_again (Up n) = refl
step_again (Down n) = refl

-- a variable's definition behind its letter, as far as it is read: two digits and a len
unfoldable pub variable_parts : Reader Define
variable_parts = do
  n ← part two_digits
  len ← part number
  give (Variable n len)

-- a counter's: one digit, a len, a letter and a step
unfoldable pub counter_parts : Reader Define
counter_parts = do
  n ← part digit
  len ← part number
  l ← part letter
  by ← part step
  give (Counter n len (step_in by))

-- an answer is the definition that a reader gives, if it gives one
pub record Tells (g : Got Define) (r : Option Define) : Type 0 where
  pub tells : (d : Define) (x : List ℕ) → g ≡ got d x → r ≡ Some d

-- where a reader gives none, any answer is it
tells_bad : (g : Got Define) (r : Option Define) → g ≡ bad → Tells g r
tells_bad g r e = record { tells = λ l x q. let z : ◌≡◌ {A = ℕ} 0 1 = cc in absurd (omega arith) }

-- a part was read, and what follows it tells
pub tells_part : {A B : Type 0} (stands : A → B) (s : List ℕ) (g : Got B) (f : B → Reader Define) (a : Option (Parsed A)) (p : Parsed A) (r : Option Define) → said_by stands s a ≡ g → a ≡ Some p → Tells (f (stands p.value) (from s p.next)) r → Tells (followed g f) r
unfolding said_by
tells_part stands s g f a p r e q k =
    record { tells = λ d x h. k.tells d x (sym (followed_got g (stands p.value) (from s p.next) f (sym e ∙ rw q)) ∙ h) }

-- none was read
pub tells_no_part : {A B : Type 0} (stands : A → B) (s : List ℕ) (g : Got B) (f : B → Reader Define) (a : Option (Parsed A)) (r : Option Define) → said_by stands s a ≡ g → a ≡ None → Tells (followed g f) r
unfolding said_by
tells_no_part stands s g f a r e q = tells_bad (followed g f) r (followed_bad g f (sym e ∙ rw q))

-- a number, which stands for itself
pub tells_number : (s : List ℕ) (g : Got ℕ) (f : ℕ → Reader Define) (a : Option (Parsed ℕ)) (p : Parsed ℕ) (r : Option Define) → Says s g a → a ≡ Some p → Tells (f p.value (from s p.next)) r → Tells (followed g f) r
unfolding said
tells_number s g f a p r h q k = tells_part (λ n. n) s g f a p r h.says q k

pub tells_no_number : (s : List ℕ) (g : Got ℕ) (f : ℕ → Reader Define) (a : Option (Parsed ℕ)) (r : Option Define) → Says s g a → a ≡ None → Tells (followed g f) r
unfolding said
tells_no_number s g f a r h q = tells_no_part (λ n. n) s g f a r h.says q

-- a step
pub tells_step : (s : List ℕ) (g : Got P.Step) (f : P.Step → Reader Define) (a : Option (Parsed Step)) (p : Parsed Step) (r : Option Define) → said_by step_of s a ≡ g → a ≡ Some p → Tells (f (step_of p.value) (from s p.next)) r → Tells (followed g f) r
tells_step = tells_part step_of

pub tells_no_step : (s : List ℕ) (g : Got P.Step) (f : P.Step → Reader Define) (a : Option (Parsed Step)) (r : Option Define) → said_by step_of s a ≡ g → a ≡ None → Tells (followed g f) r
tells_no_step = tells_no_part step_of

-- the definition that was read is the answer
tells_give : (d : Define) (r : Option Define) (x : List ℕ) → r ≡ Some d → Tells (give d x) r
unfolding give
tells_give l r x e = record { tells = λ m y q. cc }

-- a variable's
pub tells_variable : (n len : ℕ) (x : List ℕ) → Tells (give (Variable n len) x) (Some (Variable n len))
tells_variable n len x = tells_give _ _ x refl

-- a counter's
pub tells_counter : (n len : ℕ) (step : Step) (x : List ℕ) → Tells (give (Counter n len (step_in (step_of step))) x) (Some (Counter n len step))
tells_counter n len step x = tells_give _ _ x (rw step_again)

-- a part with its comma is read back, and what stands behind it is left
part_back : {A : Type 0} {p : Reader A} {a : A} {u : List ℕ} {k : ℕ} → Back p a u k → (v : List ℕ) → part p (u ++ (code "," ∷ v)) ≡ got a v
unfolding part followed comma byte one when◌then◌else◌ give
part_back b v = rw (b.reads (code "," ∷ v) refl)

-- the text of a variable's definition in range gives it back
variable_back : (n len l : ℕ) (prompt : List ℕ) → in_range width (P.keep (P.define (P.varying n len l prompt))) ≡ true → variable_parts (from (line_text (P.define (P.varying n len l prompt))) 1) ≡ got (Variable n len) (commas ((l ∷ []) ∷ quoted prompt ∷ []))
unfolding from line_text define_text bytes in_range ranges define_ranges commas variable_parts followed give
variable_back n len l prompt i =
    let h = held (define_ranges (P.varying n len l prompt)) i in
    rw (part_back (two_back n (omega tests)), part_back (number_back 5 len (omega tests)))

-- and that of a counter's
counter_back : (n len l : ℕ) (by : P.Step) (prompt : List ℕ) → in_range width (P.keep (P.define (P.counting n len l by prompt))) ≡ true → counter_parts (from (line_text (P.define (P.counting n len l by prompt))) 1) ≡ got (Counter n len (step_in by)) (quoted prompt)
unfolding from line_text define_text bytes in_range ranges define_ranges commas counter_parts followed give every between
counter_back n len l by prompt i =
    let h = held (define_ranges (P.counting n len l by prompt)) i in
    rw (
      part_back (digit_back n (omega tests)),
      part_back (number_back 5 len (omega tests)),
      part_back (letter_back (bytes "N") l refl h.1.1.0.0),
      part_back (step_back by h.1.1.1.0),
    )

-- an answer is that of a variable's definition
abbrev pub ForVariable : List ℕ → Option Define → Type 0
ForVariable s r = (n len l : ℕ) (prompt : List ℕ) → s ≡ line_text (P.define (P.varying n len l prompt)) → in_range width (P.keep (P.define (P.varying n len l prompt))) ≡ true → r ≡ line_of (P.define (P.varying n len l prompt))

-- and of a counter's
abbrev pub ForCounter : List ℕ → Option Define → Type 0
ForCounter s r = (n len l : ℕ) (by : P.Step) (prompt : List ℕ) → s ≡ line_text (P.define (P.counting n len l by prompt)) → in_range width (P.keep (P.define (P.counting n len l by prompt))) ≡ true → r ≡ line_of (P.define (P.counting n len l by prompt))

-- the parts behind the letter tell a variable
pub variable_told : (s : List ℕ) (r : Option Define) → Tells (variable_parts (from s 1)) r → ForVariable s r
unfolding line_of define_of
variable_told s r t n len l prompt e i = t.tells _ _ (ap (λ x. variable_parts (from x 1)) e ∙ variable_back n len l prompt i)

-- and a counter
pub counter_told : (s : List ℕ) (r : Option Define) → Tells (counter_parts (from s 1)) r → ForCounter s r
unfolding line_of define_of
counter_told s r t n len l by prompt e i = t.tells _ _ (ap (λ x. counter_parts (from x 1)) e ∙ counter_back n len l by prompt i)

-- the parts of a definition one after the other
pub ruleset defining = (variable_told, counter_told, tells_number, tells_no_number, tells_step, tells_no_step, tells_variable, tells_counter)

-- the letter of a line of a form
unfoldable pub letter_of : P.FormLine → ℕ
letter_of (P.draw (P.size p₁ p₂)) = code "Q"
letter_of (P.draw (P.direction d)) = code "Z"
letter_of (P.draw (P.put s content)) = code "A"
letter_of (P.draw (P.bar pen x y w t)) = code "L"
letter_of (P.draw (P.frame x₁ y₁ t x₂ y₂)) = code "X"
letter_of (P.define (P.counting n len l by prompt)) = code "C"
letter_of (P.define (P.varying n len l prompt)) = code "V"

-- a line begins with its letter
letter_first : (l : P.FormLine) → byte_at (line_text l) 0 ≡ letter_of l
unfolding byte_at line_text draw_text define_text pen_text bytes letter_of
letter_first (P.draw (P.size p₁ p₂)) = refl
letter_first (P.draw (P.direction d)) = refl
letter_first (P.draw (P.put s content)) = refl
letter_first (P.draw (P.bar P.black x y w t)) = refl
letter_first (P.draw (P.bar P.flip x y w t)) = refl
letter_first (P.draw (P.bar P.white x y w t)) = refl
letter_first (P.draw (P.frame x₁ y₁ t x₂ y₂)) = refl
letter_first (P.define (P.counting n len l by prompt)) = refl
letter_first (P.define (P.varying n len l prompt)) = refl

-- so the byte that was read there is the letter
pub first_byte : (s : List ℕ) (b : ℕ) (l : P.FormLine) → b ≡ byte_at s 0 → s ≡ line_text l → b ≡ letter_of l
first_byte s b l e q = e ∙ ap (λ x. byte_at x 0) q ∙ letter_first l

-- a line that draws begins with neither letter of a definition
draws_letter : (d : P.Draw) → (letter_of (P.draw d) ≡ 67 → ⊥) × (letter_of (P.draw d) ≡ 86 → ⊥)
unfolding letter_of
draws_letter (P.size p₁ p₂) = (λ e. omega arith, λ e. omega arith)
draws_letter (P.direction d) = (λ e. omega arith, λ e. omega arith)
draws_letter (P.put s content) = (λ e. omega arith, λ e. omega arith)
draws_letter (P.bar pen x y w t) = (λ e. omega arith, λ e. omega arith)
draws_letter (P.frame x₁ y₁ t x₂ y₂) = (λ e. omega arith, λ e. omega arith)

-- a line of a form that begins with C is a counter's
pub line_counter : (s : List ℕ) (b : ℕ) (r : Option Define) → b ≡ byte_at s 0 → b ≡ 67 → ForCounter s r → (l : P.FormLine) → s ≡ line_text l → in_range width (P.keep l) ≡ true → r ≡ line_of l
unfolding letter_of
line_counter s b r e c t (P.draw d) q i = absurd ((draws_letter d).0 (sym (first_byte s b (P.draw d) e q) ∙ c))
line_counter s b r e c t (P.define (P.counting n len l by prompt)) q i = t n len l by prompt q i
line_counter s b r e c t (P.define (P.varying n len l prompt)) q i =
    let f : b ≡ 86 = first_byte s b (P.define (P.varying n len l prompt)) e q in absurd (omega arith)

-- one that begins with V is a variable's
pub line_variable : (s : List ℕ) (b : ℕ) (r : Option Define) → b ≡ byte_at s 0 → b ≡ 86 → ForVariable s r → (l : P.FormLine) → s ≡ line_text l → in_range width (P.keep l) ≡ true → r ≡ line_of l
unfolding letter_of
line_variable s b r e c t (P.draw d) q i = absurd ((draws_letter d).1 (sym (first_byte s b (P.draw d) e q) ∙ c))
line_variable s b r e c t (P.define (P.counting n len l by prompt)) q i =
    let f : b ≡ 67 = first_byte s b (P.define (P.counting n len l by prompt)) e q in absurd (omega arith)
line_variable s b r e c t (P.define (P.varying n len l prompt)) q i = t n len l prompt q i

-- any other only draws
pub line_other : (s : List ℕ) (b : ℕ) → b ≡ byte_at s 0 → (b ≡ 67 → ⊥) → (b ≡ 86 → ⊥) → (l : P.FormLine) → s ≡ line_text l → in_range width (P.keep l) ≡ true → None ≡ line_of l
unfolding letter_of line_of
line_other s b e c v (P.draw d) q i = refl
line_other s b e c v (P.define (P.counting n len l by prompt)) q i =
    absurd (c (first_byte s b (P.define (P.counting n len l by prompt)) e q))
line_other s b e c v (P.define (P.varying n len l prompt)) q i =
    absurd (v (first_byte s b (P.define (P.varying n len l prompt)) e q))
