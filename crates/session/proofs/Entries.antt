-- The forms as the store holds them: as many, with as many bytes of text, under names of at most sixteen bytes.
use Prim.Native.Nat.{suc}
use mathlib.Core.Path.{◌≡◌, refl, ap}
use mathlib.Core.List.{List, [], ◌∷◌}
use lib.ListN.{length, length-append}
use Rattle.paper.specs.Form.{Form, used}
use Rattle.paper.specs.State.{AllStored, Stored}
use Rattle.command.specs.View.{width}
use Rattle.store.specs.Packed.{Store, entry, texts_of, packed, Short, Kept}
use Rattle.session.specs.Memory.{entries_of}
use Rattle.session.proofs.Used.{name_short}

-- as many entries as forms
pub entries_count : (fs : List Form) → length (entries_of fs) ≡ length fs
unfolding entries_of
entries_count [] = refl
entries_count (f ∷ fs) = ap suc (entries_count fs)

-- with as many bytes
pub entries_used : (fs : List Form) → length (texts_of (entries_of fs)) ≡ used fs
unfolding entries_of texts_of entry used
entries_used [] = refl
entries_used (f ∷ fs) = rw (length-append, entries_used fs)

-- the names of the entries are short
pub entries_short : (fs : List Form) → AllStored width fs → Short (entries_of fs)
unfolding entries_of entry
entries_short [] h = tt
entries_short (f ∷ fs) h = (name_short f.name h.0, entries_short fs h.3)

-- a store that holds what the paper's may hold
unfoldable pub store_kept : (store : Store) (fs : List Form) → store ≡ packed (entries_of fs) → Stored width fs → Kept store
store_kept store fs e h =
    record {
      forms = entries_of fs;
      is = e;
      few = rw (entries_count fs) h.few;
      room = rw (entries_used fs) h.room;
      short = entries_short fs h.each;
    }
