-- The arrays that `main` makes are the memory of a class that has just begun, and its buffers have room.
use Prim.Native.Nat.{ℕ}
use native.Mathlib.Omega.{arith}
use lib.ListN.{replicate, length-replicate}
use Rattle.tablets.proofs.Beginning.{zeros, zeros_begin}
use Rattle.class_program.specs.Pass.{Starting}

pub zeros_start : Starting (zeros 29) (replicate 65536 0) (replicate 99999 0) (replicate 65536 0)
zeros_start =
    record {
      begins = zeros_begin;
      some = omega (arith, length-replicate {A = ℕ} 65536 0);
      roomy = record { reply_room = omega (arith, length-replicate {A = ℕ} 99999 0); out_room = omega (arith, length-replicate {A = ℕ} 65536 0) };
    }
