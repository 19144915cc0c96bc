-- What a caller needs of a store that is lent: its sizes.
use Prim.Native.Nat.{◌≤◌}
use native.Mathlib.Omega.{arith}
use lib.ListN.{length, length-map}
use Rattle.text.proofs.Padded.{padded_length}
use Rattle.store.specs.Packed.{Store, names_of, packed, Kept}
use Rattle.store.specs.Lent.{Stocked}
use Rattle.store.proofs.Packing.{names_length}
use Rattle.store.proofs.Look.{counts, uses}

-- a store that holds some forms has its sizes
pub stocks : (store : Store) → Kept store → Stocked store
unfolding packed
stocks store k =
    let names : length (names_of k.forms) ≤ 128 = rw names_length (omega (arith, k.few)) in
    record {
      kept = k;
      few = rw (counts store k) k.few;
      room = rw (uses store k) k.room;
      text = rw k.is (padded_length 4096 _ k.room);
      names = rw k.is (padded_length 128 _ names);
      texts = rw k.is (padded_length 8 _ (rw length-map k.few));
      lens = rw k.is (padded_length 8 _ (rw length-map k.few));
    }
