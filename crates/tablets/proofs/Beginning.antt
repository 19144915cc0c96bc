-- Arrays of zeros, but for the tablet last served, are the memory of a class where nothing was sent yet.
use Prim.Native.Nat.{ℕ, zero, suc, ◌+◌, ◌*◌}
use mathlib.Core.Path.{◌≡◌, refl, sym, ◌∙◌, ap}
use mathlib.Core.List.{[], ◌∷◌, ◌++◌}
use native.Mathlib.Omega.{arith}
use native.Mathlib.Nat.{suc-mul, zero-mul}
use lib.ListN.{set, replicate, length-replicate, replicate-append-replicate}
use lib.Seq.{set-append_seam}
use Rattle.paper.specs.Byte.{when◌then◌else◌}
use Rattle.paper.specs.Class.{thirty, begin_class, prints, count_below, printers}
use Rattle.text.specs.Write.{padded}
use Rattle.store.specs.Packed.{texts_of, names_of, packed}
use Rattle.session.specs.Memory.{Session, drafts, drafting, packed_session, entries_of, plans_of, packed_shelf}
use Rattle.seats.specs.Numbers.{code_of, held_in, filed_in}
use Rattle.seats.specs.Seats.{flat, numbers_of}
use Rattle.call.specs.Call.{Memory, memory_of}
use Rattle.lend.specs.Laid.{numbered, laid_out}
use Rattle.tablets.specs.Calls.{packed_tablet, packed_with, packed_class, Begins}
use Rattle.session.specs.declared.state.Mode.TheVariants as M

-- so many parts of zeros are zeros
zeros_flat : (w from count : ℕ) → flat {A = ℕ} (λ k. replicate w 0) from count ≡ replicate (count * w) 0
unfolding flat
zeros_flat w from zero = rw (zero-mul w)
zeros_flat w from (suc count) =
    let more : w + count * w ≡ suc count * w = rw (suc-mul count w) (omega arith) in
    ap (λ xs. replicate w 0 ++ xs) (zeros_flat w (suc from) count) ∙ replicate-append-replicate w (count * w) 0 ∙ ap (λ n. replicate n 0) more

-- a number put before the last of some zeros
zeros_set : (n x : ℕ) → set (replicate (n + 2) 0) n x ≡ replicate n 0 ++ (x ∷ 0 ∷ [])
zeros_set n x =
    ap (λ xs. set xs n x) (sym (replicate-append-replicate n 2 0))
    ∙ ap (λ k. set (replicate n 0 ++ (0 ∷ 0 ∷ [])) k x) (sym (length-replicate n 0))
    ∙ set-append_seam (replicate n 0) 0 (0 ∷ []) x

-- the arrays of a bench, by the tablet last served
abbrev pub zeros : ℕ → Memory
zeros last =
    memory_of (replicate 4096 0) (replicate 128 0) (replicate 8 0) (replicate 8 0) (replicate 1856 0) (replicate 2 0)
    (replicate 480 0) (replicate 30720 0) (replicate 51000 0) (replicate 3120 0) (set (replicate 302 0) 300 last)

-- a tablet that holds nothing
resting : ℕ → Session
resting k = drafting M.Idle [] []

-- they are an empty shelf with thirty of them
zeros_laid : (last : ℕ) → zeros last ≡ laid_out (packed_shelf []) resting last 0
unfolding laid_out numbered numbers_of resting drafting drafts padded packed_shelf packed entries_of plans_of texts_of names_of code_of held_in filed_in
zeros_laid last =
    λ j. record {
      all = replicate 4096 0;
      names = replicate 128 0;
      texts = replicate 8 0;
      lens = replicate 8 0;
      plans = replicate 1856 0;
      filed = 0 ∷ 0 ∷ [];
      name = sym (zeros_flat 16 0 30) j;
      text = sym (zeros_flat 1024 0 30) j;
      answers = sym (zeros_flat 1700 0 30) j;
      values = sym (zeros_flat 104 0 30) j;
      held = (zeros_set 300 last ∙ ap (λ xs. xs ++ (last ∷ 0 ∷ [])) (sym (zeros_flat 10 0 30))) j;
    }

-- nobody prints yet
nobody_prints : printers begin_class ≡ 0
unfolding printers count_below thirty prints begin_class when◌then◌else◌
nobody_prints = refl

-- so they are a class that begins
pub zeros_class : zeros 29 ≡ packed_class begin_class
unfolding packed_class packed_with packed_tablet packed_session begin_class resting
zeros_class = zeros_laid 29 ∙ ap (laid_out (packed_shelf []) resting 29) (sym nobody_prints)

pub zeros_begin : Begins (zeros 29)
zeros_begin = record { is = zeros_class }
