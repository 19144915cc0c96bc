-- A form that leaves a shelf, by its number and its text's place and size.
use Rattle.std.specs.Prelude.{ℕ, ◌≡◌, List, ◌++◌, ◌∷◌, length}
use Rattle.paper.specs.Form.{Form, text_of}
use Rattle.session.specs.Memory.{Shelf, Session, place_of, packed_shelf}
use Rattle.session.specs.Outcome.{At}

-- it stands there, between others
pub record Leaving (shelf : Shelf) (index start size : ℕ) : Type 0 where
  pub session : Session
  pub at : At session shelf
  pub before : List Form
  pub here : Form
  pub behind : List Form
  pub forms : at.forms ≡ before ++ (here ∷ behind)
  pub number : index ≡ length before
  pub place : start ≡ place_of at.forms index
  pub bytes : size ≡ length (text_of here.lines)

-- it has left, and the others stay
pub record Left (shelf : Shelf) (index start size : ℕ) (less : Shelf) : Type 0 where
  pub left : (l : Leaving shelf index start size) → less ≡ packed_shelf (l.before ++ l.behind)
