-- `put_content` writes the escaping of a string's content: from `i` on the string still closes at `end`, and the escaping of its content from there is still to come. Each turn steps over one byte of the content.
use Prim.Native.Nat.{◌-◌}
use Rattle.paper.specs.Line.{escape}
use Rattle.text.specs.Place.{text_at, Closes}
use Rattle.text.proofs.Written.{Writing}
use Rattle.text.proofs.write.put_content.Given as goal

abbrev pub invariant-loop-i : goal.invariant-loop-i
invariant-loop-i l = Writing l.initial.buf l.at (escape (text_at l.s l.start)) (escape (text_at l.s l.i)) l.buf l.next × Closes l.s l.i l.end

abbrev pub decreases-loop-i : goal.decreases-loop-i
decreases-loop-i l = l.end - l.i
