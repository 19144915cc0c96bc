-- `put_escaped` writes the escaping of a text: the loop has written that of its first bytes, and that of those from `b`'s index on is still to come.
use lib.ListN.{drop}
use Rattle.paper.specs.Line.{escape}
use Rattle.text.proofs.Written.{Writing}
use Rattle.text.proofs.write.put_escaped.Given as goal

abbrev pub invariant-loop-b : goal.invariant-loop-b
invariant-loop-b l = Writing l.initial.buf l.at (escape l.s) (escape (drop l.b-index l.s)) l.buf l.next
