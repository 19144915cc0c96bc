-- The numbers of a session in memory: what is read from them, and what is put there.
use Prim.Native.Nat.{ℕ}
use mathlib.Core.Path.{◌≡◌, refl, ◌∙◌, ap}
use mathlib.Core.List.{List}
use lib.ListN.{get_or}
use borrow.Author.Tests.{ne_eqb}
use Rattle.paper.specs.Byte.{when◌then◌else◌}
use Rattle.store.specs.Packed.{Store}
use Rattle.store.specs.declared.Filed.{Filed}
use Rattle.seats.specs.Numbers.{mode_of, code_of, held_in, filed_in}
use Rattle.session.specs.declared.state.Mode.{Mode}
use Rattle.session.specs.declared.state.Mode.TheVariants as M
use Rattle.session.specs.declared.state.Held.{Held}

-- the numbers of a session are read back
pub reads_held : (ns : List ℕ) (mode : Mode) → mode ≡ mode_of (get_or ns 0 0) (get_or ns 1 0) (get_or ns 2 0) (get_or ns 3 0) → (h : Held) → ns ≡ held_in h
    → record { mode = mode; form = get_or ns 4 0; start = get_or ns 5 0; size = get_or ns 6 0; len = get_or ns 7 0; drafted = get_or ns 8 0; given = get_or ns 9 0 } ≡ h
unfolding held_in mode_of code_of when◌then◌else◌
reads_held ns mode m h e = ap (λ x. record { mode = x; form = get_or ns 4 0; start = get_or ns 5 0; size = get_or ns 6 0; len = get_or ns 7 0; drafted = get_or ns 8 0; given = get_or ns 9 0 }) m ∙ rw e (by h h.mode refl)
  where
    by : (h : Held) (m : Mode) → h.mode ≡ m
        → record { mode = mode_of (get_or (held_in h) 0 0) (get_or (held_in h) 1 0) (get_or (held_in h) 2 0) (get_or (held_in h) 3 0); form = get_or (held_in h) 4 0; start = get_or (held_in h) 5 0; size = get_or (held_in h) 6 0; len = get_or (held_in h) 7 0; drafted = get_or (held_in h) 8 0; given = get_or (held_in h) 9 0 } ≡ h
    by h M.Idle e = rw e
    by h (M.Collecting lines) e = rw e
    by h M.Spoiled e = rw e
    by h M.Opened e = rw e
    by h (M.Answering k) e = rw e
    by h M.Ready e = rw e
    by h (M.Printing sets copies out) e = rw e

-- and so are those of the store
pub reads_filed : (ns : List ℕ) (s : Store) → ns ≡ filed_in s → ◌≡◌ {A = Filed} (record { used = get_or ns 0 0; count = get_or ns 1 0 }) (record { used = s.used; count = s.count })
unfolding filed_in
reads_filed ns s e = rw e

-- the state of each tag
module _ (tag a b c : ℕ) where
  pub tag_collecting : tag ≡ 1 → M.Collecting a ≡ mode_of tag a b c
  unfolding mode_of when◌then◌else◌
  tag_collecting e = rw e

  pub tag_spoiled : tag ≡ 2 → M.Spoiled ≡ mode_of tag a b c
  unfolding mode_of when◌then◌else◌
  tag_spoiled e = rw e

  pub tag_opened : tag ≡ 3 → M.Opened ≡ mode_of tag a b c
  unfolding mode_of when◌then◌else◌
  tag_opened e = rw e

  pub tag_answering : tag ≡ 4 → M.Answering a ≡ mode_of tag a b c
  unfolding mode_of when◌then◌else◌
  tag_answering e = rw e

  pub tag_ready : tag ≡ 5 → M.Ready ≡ mode_of tag a b c
  unfolding mode_of when◌then◌else◌
  tag_ready e = rw e

  pub tag_idle : (tag ≡ 1 → ⊥) → (tag ≡ 2 → ⊥) → (tag ≡ 3 → ⊥) → (tag ≡ 4 → ⊥) → (tag ≡ 5 → ⊥) → (tag ≡ 6 → ⊥) → M.Idle ≡ mode_of tag a b c
  unfolding mode_of when◌then◌else◌
  tag_idle p q r s t u = rw (ne_eqb tag 1 p, ne_eqb tag 2 q, ne_eqb tag 3 r, ne_eqb tag 4 s, ne_eqb tag 5 t, ne_eqb tag 6 u)

  pub tag_printing : tag ≡ 6 → M.Printing a b c ≡ mode_of tag a b c
  unfolding mode_of when◌then◌else◌
  tag_printing e = rw e

pub ruleset tags = (tag_collecting, tag_spoiled, tag_opened, tag_answering, tag_ready, tag_idle, tag_printing)
