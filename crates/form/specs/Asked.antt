-- A line of a form as a definition, in the code's words.
use Rattle.std.specs.Prelude.{Option, Some, None}
use Rattle.paper.specs.Command as P
use Rattle.command.specs.declared.Step.{Step}
use Rattle.command.specs.declared.Step.TheVariants.{Up, Down}
use Rattle.form.specs.declared.asked.Define.{Define}
use Rattle.form.specs.declared.asked.Define.TheVariants.{Counter, Variable}

-- a step as the code holds it
unfoldable pub step_in : P.Step → Step
step_in (P.up n) = Up n
step_in (P.down n) = Down n

-- a definition as the code holds it: its number, its len and a counter's step
unfoldable pub define_of : P.Define → Define
define_of (P.counting n len letter by prompt) = Counter n len (step_in by)
define_of (P.varying n len letter prompt) = Variable n len

-- the definition that a line of a form is, if it is one
unfoldable pub line_of : P.FormLine → Option Define
line_of (P.draw d) = None
line_of (P.define d) = Some (define_of d)
