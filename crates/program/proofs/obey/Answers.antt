-- By what the read came to.
use mathlib.Core.Path.{◌≡◌, ◌∙◌, ap}
use Rattle.std.proofs.Common.{Some, None, Ok}
use native.Mathlib.Omega.{arith}
use Rattle.streams.specs.Streams.{bytes_of}
use Rattle.streams.proofs.Telling.{of_bytes}
use Rattle.program.proofs.Passing.{bytes_counted, obeys_bytes, obeys_nothing}
use Rattle.program.proofs.obey.Goals as goal

pub pass-requires : goal.pass-requires
pass-requires g c = record { stands_at = bytes_counted _ c.args.input.now c.in-Ok-Some.n c.requires.stands_at; in_bounds = c.requires.in_bounds }

pub returns-in-Ok-None : goal.returns-in-Ok-None
returns-in-Ok-None g c =
    let none : c.in-Ok-None.field-0 ≡ None = rw c.in-Ok-None.is at c.in-Ok-None.field-0-is in
    obeys_nothing _ _ _ _ _ _ (ap bytes_of (c.in-Ok-None.is ∙ ap Ok none)) c.requires.stands_at.stands c.ended.ensures

pub returns-in-Ok-Some : goal.returns-in-Ok-Some
returns-in-Ok-Some g c =
    let some : c.in-Ok-Some.field-0 ≡ Some c.in-Ok-Some.n = rw c.in-Ok-Some.is at c.in-Ok-Some.field-0-is in
    let is = c.in-Ok-Some.is ∙ ap Ok some in
    obeys_bytes _ _ _ _ _ _ _ is (λ z. omega (arith, (of_bytes _ c.requires.reads is).0, z)) c.pass.ensures

pub returns-in-Err : goal.returns-in-Err
returns-in-Err g c = obeys_nothing _ _ _ _ _ _ (ap bytes_of c.in-Err.is) c.requires.stands_at.stands c.ended-in-Err.ensures
