-- `font_at` says what `font` reads: a number where one stands, and else a letter.
use borrow.Author.Rules.{rules}
use Rattle.paper.specs.Read.{font}
use Rattle.text.proofs.Place.{reading}
use Rattle.text.proofs.read.font_at.Goals as goal

pub returns-in-Some : goal.returns-in-Some
unfolding font
returns-in-Some c = search (reading, rules)

pub returns-in_err-letter : goal.returns-in_err-letter
unfolding font
returns-in_err-letter c = rw c.from_residual.ensures (search (reading, c.in_default.is, c.in_err-letter.was))

pub returns : goal.returns
unfolding font
returns c = search (reading, rules, c.in_default.is, c.in_ok-letter.was)
