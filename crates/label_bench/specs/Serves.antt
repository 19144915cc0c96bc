-- The program's buffers: one of some bytes that a read fills, and two with room for what a step can say.
use Rattle.std.specs.Prelude.{ℕ, ◌≤◌, List, length}

pub record Buffers (input out err : List ℕ) : Type 0 where
  pub some : 1 ≤ length input
  pub few : length input ≤ 65536
  pub out_room : 10291 ≤ length out
  pub err_room : 64 ≤ length err
