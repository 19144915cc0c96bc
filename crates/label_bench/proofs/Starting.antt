-- A bench that has just begun, and the program's buffers.
use Prim.Native.Nat.{ℕ}
use mathlib.Core.List.{List}
use Rattle.tablets.specs.Calls.{Begins}
use Rattle.program.specs.Pass.{Starting}
use Rattle.bench.specs.Whole.{memory}
use Rattle.bench.specs.declared.Bench.{Bench}
use Rattle.label_bench.specs.Serves.{Buffers}

pub starts : (h : Bench) {input out err : List ℕ} → Buffers input out err → Begins (memory h) → Starting (memory h) input out err
starts h b n = record { begins = n; some = b.some; few = b.few; out_room = b.out_room; err_room = b.err_room }
