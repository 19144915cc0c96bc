-- A form with its answers, as memory holds them, and a set that is taken of it.
use Rattle.std.specs.Prelude.{ℕ, ◌+◌, ◌≡◌, Bool, true, List, [], ◌∷◌, ◌++◌, length, take, drop}
use Rattle.paper.specs.Command as P
use Rattle.paper.specs.Command.{FormLine}
use Rattle.paper.specs.Form.{text_of, asked}
use Rattle.paper.specs.Set.{all_hold, set_of}
use Rattle.paper.specs.State.{Storable, fitting, Printing}
use Rattle.text.specs.Write.{Writes}
use Rattle.command.specs.View.{width}
use Rattle.form.specs.Plan.{plan_of}
use Rattle.set.specs.Answers.{answers_text, values_in, first_of, second_of}

-- a form's plan and the values of its answers
pub record Filled (plan values : List ℕ) : Type 0 where
  pub lines : List FormLine
  pub given : List (List ℕ)
  pub planned : plan ≡ plan_of lines
  pub valued : values ≡ values_in (asked lines) given
  pub storable : Storable width lines
  pub fit : fitting (asked lines) given ≡ true

-- with the form's text and the answers
pub record Answered (text answers plan values : List ℕ) : Type 0 where
  pub filled : Filled plan values
  pub is : text ≡ text_of filled.lines
  pub answered : answers ≡ answers_text filled.given

-- a set that is taken: its number, and the copies
pub record Taking (text answers plan values : List ℕ) (copies i : ℕ) : Type 0 where
  pub form : Answered text answers plan values
  pub sets : ℕ
  pub printing : Printing form.filled.lines form.filled.given sets copies i

-- a definition of a form, by its place in the form's plan
pub record Asking (plan : List ℕ) (k : ℕ) : Type 0 where
  pub lines : List FormLine
  pub planned : plan ≡ plan_of lines
  pub storable : Storable width lines
  pub define : P.Define
  pub more : List P.Define
  pub is : drop k (asked lines) ≡ define ∷ more

-- the answers so far, before that definition
pub record Answering (values : List ℕ) (lines : List FormLine) (k : ℕ) (given : List (List ℕ)) : Type 0 where
  pub count : k ≡ length given
  pub valued : values ≡ values_in (take k (asked lines)) given
  pub fit : fitting (take k (asked lines)) given ≡ true

-- an answer more is noted: the values are those of one definition more
pub record Notes (old plan : List ℕ) (k first second : ℕ) (new : List ℕ) : Type 0 where
  pub notes : (t : Asking plan k) (given : List (List ℕ)) (a : List ℕ) → Answering old t.lines k given → first ≡ first_of t.define a (length (answers_text given)) → second ≡ second_of t.define a (length (answers_text given))
      → new ≡ values_in (take (k + 1) (asked t.lines)) (given ++ (a ∷ []))

-- whether every counter holds up to a last set
pub record Holds (plan values : List ℕ) (last : ℕ) (r : Bool) : Type 0 where
  pub holds : (t : Filled plan values) → r ≡ all_hold last (asked t.lines) t.given

-- a set stands in a buffer from its start on
pub record Puts (text answers plan values : List ℕ) (copies i : ℕ) (old new : List ℕ) (r : ℕ) : Type 0 where
  pub puts : (t : Taking text answers plan values copies i) → Writes old 0 (set_of t.form.filled.lines t.form.filled.given copies i) new r
