-- Memory in which a gap is closed, and memory that is wiped.
use mathlib.Core.Path.{◌≡◌, sym, ◌∙◌, ap}
use mathlib.Core.List.{List, ◌∷◌, ◌++◌, append_assoc, append-nil}
use Prim.Native.Nat.{ℕ, ◌+◌, ◌-◌, ◌≤◌, ◌<◌}
use native.Mathlib.Omega.{arith}
use lib.ListN.{length, take, drop, set, replicate, length-take, length-drop, length-append, length-replicate}
use lib.Seq.{paste}
use borrow.Rule.Slice.PartMut.{put_mid}
use Rattle.std.proofs.lemmas.List.{set-append_right, drop_more, replicate_more, drop_all, take_all}
use Rattle.std.proofs.lemmas.List.Edits.{length-paste, paste_all, paste-paste}
use Rattle.std.proofs.lemmas.Slice.{put_mid-paste}
use Rattle.store.specs.Gap.{closed}

-- one element more is filled
pub filled_more : {A : Type 0} → (old : List A) (i : ℕ) (zero : A) → i < length old → set (replicate i zero ++ drop i old) i zero ≡ replicate (i + 1) zero ++ drop (i + 1) old
filled_more old i zero h =
    let next : set (drop i old) (i - i) zero ≡ zero ∷ drop (i + 1) old = rw (drop_more old i zero h) (let z : i - i ≡ 0 = omega arith in rw z) in
    set-append_right (replicate i zero) (drop i old) i i zero (length-replicate i zero) (omega arith)
    ∙ rw (next, ← replicate_more) (simp append_assoc)

-- a part is moved down over the gap, and what it leaves is filled
pub closes : {A : Type 0} → (old mid ys : List A) (at gap n k i : ℕ) (zero : A) → at + gap + n ≤ length old
    → mid ≡ paste old at (drop (at + gap) old) (at + gap + n - (at + gap)) → k ≡ at + gap + n - (at + n)
    → ys ≡ replicate i zero ++ drop i (take k (drop (at + n) mid)) → i ≡ length (take k (drop (at + n) mid))
    → put_mid (at + n) k mid ys ≡ closed old at gap n zero
unfolding closed
closes old mid ys at gap n k i zero h e q f p =
    let part = take n (drop (at + gap) old) in
    let size : length part ≡ n = rw (length-take, length-drop) (omega arith) in
    let moved : at + gap + n - (at + gap) ≡ n = omega arith in
    let once : take n part ≡ part = take_all n part (omega arith) in
    let is : mid ≡ paste old at part n = e ∙ rw (moved, once) in
    let whole : length mid ≡ length old = ap length is ∙ length-paste old at part n (omega arith) (omega arith) in
    let all : i ≡ gap = p ∙ rw (length-take, length-drop) (omega arith) in
    let ends : ys ≡ replicate gap zero = f ∙ rw (drop_all i (take k (drop (at + n) mid)) (omega arith), all) (append-nil _) in
    let there : at + (n + gap) ≡ at + gap + n = omega arith in
    put_mid-paste (at + n) k mid ys (replicate gap zero) gap ends (omega arith) (sym (length-replicate gap zero))
    ∙ ap (λ xs. paste xs (at + n) (replicate gap zero) gap) is
    ∙ paste-paste old at part (replicate gap zero) n gap (sym size) (sym (length-replicate gap zero)) (omega arith)
    ∙ paste_all old at (part ++ replicate gap zero) (n + gap) (rw (length-append, length-replicate) (omega arith))
    ∙ rw there (simp append_assoc)

-- the front of a list is wiped
pub wipes : (old part : List ℕ) (n : ℕ) → n ≤ length old → (((y : ℕ) → y ≡ 0 → y ≡ 0) → part ≡ replicate (length (take n old)) 0)
    → part ++ drop n old ≡ replicate n 0 ++ drop n old
wipes old part n h f = let size : length (take n old) ≡ n = rw length-take (omega arith) in rw (f (λ y e. e), size)
