-- What holds from line to line of the script: a bench that is reached, in memory of the sizes that it had.
use mathlib.Core.Path.{◌≡◌}
use mathlib.Core.List.{List}
use Prim.Native.Nat.{ℕ, ◌+◌, ◌*◌, ◌^◌, ◌≤◌, ◌<◌}
use native.Mathlib.Omega.{arith}
use lib.ListN.{length}
use lib.Dec.{ltb}
use mir.Syntax.{w64}
use mir.Val.{Fits}
use borrow.Author.Tests.{ltb-true, ltb-false}
use Rattle.paper.proofs.Test.{either}
use Rattle.text.specs.Place.{from}
use Rattle.form.specs.Walk.{first_line}
use Rattle.call.specs.Call.{Memory}
use Rattle.tablets.specs.Calls.{Reached}
use Rattle.flow.proofs.Cutting.{ends_before}
use Rattle.program.proofs.Passing.{Sized, sized_same, sized_then}

pub record Playing (old new : Memory) : Type 0 where
  pub reached : Reached new
  pub sized : Sized old new

pub playing_begins : (m : Memory) → Reached m → Playing m m
playing_begins m r = record { reached = r; sized = sized_same m }

pub playing_turns : {old m : Memory} → Playing old m → (n : Memory) → Reached n → Sized m n → Playing old n
playing_turns p n r t = record { reached = r; sized = sized_then p.sized t }

-- a line ends no later than the script
pub ends_inside : (script : List ℕ) (at end : ℕ) → at ≤ length script → end ≡ at + length (first_line (from script at)) → end ≤ length script
ends_inside script at end h e =
    either (ltb (length script) end)
    (λ y. let more = ltb-true (length script) end y in let less = ends_before script at end h e (λ q. omega (arith, more, q)) in omega (arith, more, less))
    (λ n. omega (arith, ltb-false (length script) end n))

-- and the place behind it is a number that fits
pub behind_fits : (size end : ℕ) → size * 1 < 2 ^ 63 → end ≤ size → Fits w64 (end + 1)
behind_fits size end h k = record { fits = omega arith }
