-- `more_digits` says what `more_digits` reads: the loop keeps what is left to read, and a digit more, or the end, says the whole.
use Prim.Native.Nat.{◌-◌}
use Rattle.paper.specs.Line.{more_digits}
use Rattle.text.specs.Place.{from}
use Rattle.text.proofs.Digits.{Counting}
use Rattle.text.proofs.read.more_digits.Given as goal

abbrev pub invariant-loop : goal.invariant-loop
invariant-loop l = Counting l.s (more_digits l.more l.fn.first.value (from l.s l.fn.first.next)) (l.more - l.counter) l.number
