-- A set in a buffer: `N`, the pieces, and `P1,c`.
use Prim.Native.Nat.{ℕ, ◌+◌, ◌≤◌, ◌<◌}
use mathlib.Core.Path.{refl}
use mathlib.Core.List.{List, [], ◌∷◌, ◌++◌}
use native.Mathlib.Omega.{arith}
use lib.ListN.{length, get_or}
use Rattle.paper.specs.Byte.{decimal}
use Rattle.paper.specs.Set.{set_of}
use Rattle.text.specs.Write.{Writes}
use Rattle.text.proofs.Written.{Writing, writing_begins, writing_turns, writing_room, writing_ends}
use Rattle.set.specs.Piece.{pieces_show, PiecesTold}
use Rattle.set.specs.Taking.{Taking, Puts}
use Rattle.set.proofs.Filled.{taking_told, taking_shows, taking_room}

module _ (text answers plan values : List ℕ) (copies i : ℕ) (old : List ℕ) (h : 10291 ≤ length old) where
  -- the whole set has room
  begins : (t : Taking text answers plan values copies i) → Writing old 0 (set_of t.form.filled.lines t.form.filled.given copies i) (set_of t.form.filled.lines t.form.filled.given copies i) old 0
  begins t = writing_begins old 0 _ (omega (arith, taking_room text answers plan values copies i t))

  module _ (first : List ℕ) (a : ℕ) (w : Writes old 0 (78 ∷ 10 ∷ []) first a) where
    news : (t : Taking text answers plan values copies i) → Writing old 0 (set_of t.form.filled.lines t.form.filled.given copies i) (pieces_show text answers plan values i 0 (get_or plan 1 0) ++ ((80 ∷ 49 ∷ 44 ∷ []) ++ (decimal copies ++ (10 ∷ [])))) first a
    news t = writing_turns old 0 _ _ old 0 (78 ∷ 10 ∷ []) _ first a (begins t) (taking_shows text answers plan values copies i t) w

    pub pieces_ready : Taking text answers plan values copies i → PiecesTold text answers plan values i × (a + length (pieces_show text answers plan values i 0 (get_or plan 1 0)) ≤ length first)
    pieces_ready t = (taking_told text answers plan values copies i t, writing_room old 0 _ _ first a (pieces_show text answers plan values i 0 (get_or plan 1 0)) _ (news t) refl)

    module _ (drawn : List ℕ) (b : ℕ) (x : Writes first a (pieces_show text answers plan values i 0 (get_or plan 1 0)) drawn b) where
      lined : (t : Taking text answers plan values copies i) → Writing old 0 (set_of t.form.filled.lines t.form.filled.given copies i) ((80 ∷ 49 ∷ 44 ∷ []) ++ (decimal copies ++ (10 ∷ []))) drawn b
      lined t = writing_turns old 0 _ _ first a (pieces_show text answers plan values i 0 (get_or plan 1 0)) _ drawn b (news t) refl x

      pub print_room : Taking text answers plan values copies i → b + 3 ≤ length drawn
      print_room t = writing_room old 0 _ _ drawn b (80 ∷ 49 ∷ 44 ∷ []) _ (lined t) refl

      module _ (one : List ℕ) (d : ℕ) (y : Writes drawn b (80 ∷ 49 ∷ 44 ∷ []) one d) where
        printed : (t : Taking text answers plan values copies i) → Writing old 0 (set_of t.form.filled.lines t.form.filled.given copies i) (decimal copies ++ (10 ∷ [])) one d
        printed t = writing_turns old 0 _ _ drawn b (80 ∷ 49 ∷ 44 ∷ []) _ one d (lined t) refl y

        pub copies_room : Taking text answers plan values copies i → d + length (decimal copies) ≤ length one
        copies_room t = writing_room old 0 _ _ one d (decimal copies) _ (printed t) refl

        module _ (other : List ℕ) (e : ℕ) (z : Writes one d (decimal copies) other e) where
          copied : (t : Taking text answers plan values copies i) → Writing old 0 (set_of t.form.filled.lines t.form.filled.given copies i) (10 ∷ []) other e
          copied t = writing_turns old 0 _ _ one d (decimal copies) _ other e (printed t) refl z

          pub end_room : Taking text answers plan values copies i → e < length other
          end_room t = omega (arith, writing_room old 0 _ _ other e (10 ∷ []) [] (copied t) refl)

          pub set_puts : (new : List ℕ) (r : ℕ) → Writes other e (10 ∷ []) new r → Puts text answers plan values copies i old new r
          set_puts new r v =
              record { puts = λ t. writing_ends old 0 _ [] new r (writing_turns old 0 _ _ other e (10 ∷ []) [] new r (copied t) refl v) refl }
