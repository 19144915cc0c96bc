-- The names are written one line after the other: what stands there are the lines of the forms so far.
use mathlib.Core.Path.{◌≡◌, refl, sym, ◌∙◌, ap}
use mathlib.Core.List.{List, [], ◌∷◌, ◌++◌, append_assoc}
use Prim.Native.Nat.{ℕ, zero, suc, ◌+◌, ◌-◌, ◌*◌, ◌≤◌, ◌<◌}
use native.Mathlib.Omega.{arith}
use native.Mathlib.Numerals.{add-one}
use lib.ListN.{length, take, drop, get_or, length-append}
use lib.Seq.{take-suc, take_all}
use Rattle.text.specs.Write.{Writes}
use Rattle.text.proofs.Written.{writes_none, writes_then, writes_length}
use Rattle.paper.specs.Byte.{bytes}
use Rattle.store.specs.Packed.{Store, Entry, entry, Short, Kept, name_in, lines_of, listing_of}
use Rattle.store.specs.Lent.{Stocked}
use Rattle.store.proofs.Look.{form_at, counts, len_at, name_at, name_part, len_short}

-- a name and then LF
pub name_line_written : (old mid new names : List ℕ) (at next end i len : ℕ)
    → Writes old at (take (i * 16 + len - i * 16) (drop (i * 16) names)) mid next → Writes mid next (10 ∷ []) new end
    → Writes old at (name_in names i len ++ (10 ∷ [])) new end
name_line_written old mid new names at next end i len a b =
    writes_then old at (name_in names i len) mid next (10 ∷ []) new end (rw name_part at a) b

-- one line more
lines_more : (es : List Entry) (e : Entry) → lines_of (es ++ (e ∷ [])) ≡ lines_of es ++ (e.name ++ (10 ∷ []))
unfolding lines_of
lines_more [] e = refl
lines_more (x ∷ es) e = rw (lines_more es e, append_assoc)

-- a line has at most seventeen bytes
lines_short : (es : List Entry) (i : ℕ) → Short es → length (lines_of (take i es)) ≤ 17 * i
unfolding lines_of
lines_short [] zero s = omega arith
lines_short [] (suc i) s = omega arith
lines_short (e ∷ es) zero s = omega arith
lines_short (e ∷ es) (suc i) s = rw length-append (omega (arith, lines_short es i s.1, s.0))

-- the lines of the forms before a number stand from a place up to the next
pub record Naming (self : Store) (old : List ℕ) (at : ℕ) (new : List ℕ) (next i : ℕ) : Type 0 where
  pub inside : i ≤ self.count
  pub writes : (k : Kept self) → Writes old at (lines_of (take i k.forms)) new next

pub naming_begins : (self : Store) (old : List ℕ) (at : ℕ) → at + 136 ≤ length old → Naming self old at old at 0
unfolding lines_of
naming_begins self old at h =
    record { inside = omega arith; writes = λ k. writes_none old at (omega arith) }

-- the next name is short, and there is room for its line
pub naming_short : (self : Store) (old : List ℕ) (at : ℕ) (new : List ℕ) (next i len : ℕ) → Stocked self → Naming self old at new next i
    → i < self.count → len ≡ get_or self.lens i 0 → len ≤ 16
naming_short self old at new next i len k n h e = rw e (len_short self k.kept i h)

pub naming_room : (self : Store) (old : List ℕ) (at : ℕ) (new : List ℕ) (next i len : ℕ) → Stocked self → Naming self old at new next i
    → at + 136 ≤ length old → i < self.count → len ≡ get_or self.lens i 0 → next + len < length new
naming_room self old at new next i len k n room h e =
    let forms = k.kept.forms in
    omega (
      arith,
      writes_length old at (lines_of (take i forms)) new next (n.writes k.kept),
      (n.writes k.kept).ends,
      lines_short forms i k.kept.short,
      len_short self k.kept i h,
      counts self k.kept,
    )

pub naming_turns : (self : Store) (old : List ℕ) (at : ℕ) (new newer : List ℕ) (next end i len : ℕ) → Naming self old at new next i
    → i < self.count → len ≡ get_or self.lens i 0 → Writes new next (name_in self.names i len ++ (10 ∷ [])) newer end
    → Naming self old at newer end (i + 1)
unfolding name_in
naming_turns self old at new newer next end i len n h l w =
    record {
      inside = omega arith;
      writes = λ k.
          let is : take len (drop (i * 16) self.names) ≡ (form_at k.forms i).name = rw (l, len_at self k i h) (name_at self k i h) in
          let more : take (i + 1) k.forms ≡ take i k.forms ++ (form_at k.forms i ∷ []) =
          rw add-one (unfold form_at in take-suc k.forms i (entry [] []) (omega (arith, counts self k))) in
          rw (more, lines_more (take i k.forms) (form_at k.forms i), ← is)
          (writes_then old at (lines_of (take i k.forms)) new next (take len (drop (i * 16) self.names) ++ (10 ∷ [])) newer end (n.writes k) w);
    }

pub naming_ends : (self : Store) (old : List ℕ) (at : ℕ) (new : List ℕ) (next i : ℕ) → Naming self old at new next i → self.count ≤ i
    → (k : Kept self) → Writes old at (lines_of k.forms) new next
naming_ends self old at new next i n h k =
    rw (← take_all i k.forms (omega (arith, counts self k))) (n.writes k)

-- the heading, and then the names or that there is none
pub listing_none : (self : Store) (old mid new : List ℕ) (at end : ℕ) → self.count ≡ 0
    → Writes old 0 (bytes "Form Information:\n") mid at → Writes mid at (bytes "No Form Stored\n") new end
    → (k : Kept self) → Writes old 0 (listing_of k.forms) new end
unfolding listing_of bytes
listing_none self old mid new at end e a b k = go k.forms (sym (counts self k) ∙ e)
  where
    go : (es : List Entry) → length es ≡ 0 → Writes old 0 (listing_of es) new end
    go [] z = writes_then old 0 (bytes "Form Information:\n") mid at (bytes "No Form Stored\n") new end a b
    go (x ∷ es) z = absurd (omega arith)

pub listing_names : (self : Store) (old mid new : List ℕ) (at end : ℕ) → (self.count ≡ 0 → ⊥)
    → Writes old 0 (bytes "Form Information:\n") mid at → ((k : Kept self) → Writes mid at (lines_of k.forms) new end)
    → (k : Kept self) → Writes old 0 (listing_of k.forms) new end
unfolding listing_of
listing_names self old mid new at end n a b k = go k.forms refl (b k)
  where
    go : (es : List Entry) → k.forms ≡ es → Writes mid at (lines_of es) new end → Writes old 0 (listing_of es) new end
    go [] e w = absurd (n (counts self k ∙ ap length e))
    go (x ∷ es) e w = writes_then old 0 (bytes "Form Information:\n") mid at (lines_of (x ∷ es)) new end a w
