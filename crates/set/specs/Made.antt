-- What the pieces of a form's text make of a set.
use Rattle.std.specs.Prelude.{ℕ, Bool, true, false, List, [], ◌∷◌, ◌++◌}
use Rattle.paper.specs.Line.{quote, escape}
use Rattle.paper.specs.Command as P
use Rattle.form.specs.Walk.{part_of}
use Rattle.form.specs.Plan.{Shows, nothing, value, Piece}

-- the quote that a value opens where it stands alone
unfoldable pub opening_of : Bool → List ℕ
opening_of true = quote ∷ []
opening_of false = []

-- what a set has behind a piece: a value in its quotes, if any
unfoldable pub behind_text : (P.Value → List ℕ) → Shows → List ℕ
behind_text values nothing = []
behind_text values (value alone v) = opening_of alone ++ (escape (values v) ++ (quote ∷ []))

-- pieces, each with what goes behind it
unfoldable pub pieces_text : (P.Value → List ℕ) → List ℕ → List Piece → List ℕ
pieces_text values text [] = []
pieces_text values text (p ∷ ps) = part_of text p.start p.end ++ (behind_text values p.behind ++ pieces_text values text ps)
