-- The plans of the stored forms: 232 numbers each, one behind the other, and 0 behind the last.
use Prim.Native.Nat.{ℕ, ◌+◌, ◌-◌, ◌*◌, ◌≤◌, ◌<◌}
use mathlib.Core.Path.{◌≡◌, refl, sym, ◌∙◌, ap}
use mathlib.Core.List.{List, [], ◌∷◌, ◌++◌, append_assoc, append-nil}
use native.Mathlib.Omega.{arith}
use lib.ListN.{length, take, drop, replicate, length-replicate, replicate-append-replicate}
use lib.Seq.{take_at, drop_at, drop-drop}
use Rattle.paper.specs.Form.{Form}
use Rattle.paper.specs.State.{Storable, AllStored}
use Rattle.text.specs.Write.{written, padded}
use Rattle.text.proofs.Padded.{padded_write}
use Rattle.command.specs.View.{width}
use Rattle.form.specs.Plan.{plan_of}
use Rattle.session.specs.Memory.{plans_of}
use Rattle.session.proofs.Parted.{plan_whole, plans_length, plans_both}

-- the plan of one form
pub plans_one : (f : Form) → plans_of (f ∷ []) ≡ plan_of f.lines
unfolding plans_of
plans_one f = append-nil (plan_of f.lines)

-- behind a padded list there are zeros
zeros_behind : (n k : ℕ) (xs : List ℕ) → length xs + k ≤ n → take k (drop (length xs) (padded n xs)) ≡ replicate k 0
unfolding padded
zeros_behind n k xs h =
    let parts : n - length xs ≡ k + (n - length xs - k) = omega arith in
    let zeros : replicate {A = ℕ} (n - length xs) 0 ≡ replicate k 0 ++ replicate (n - length xs - k) 0 = ap (λ m. replicate m 0) parts ∙ sym (replicate-append-replicate k (n - length xs - k) 0) in
    ap (take k) (drop_at xs (replicate (n - length xs) 0) (length xs) refl ∙ zeros) ∙ take_at (replicate k 0) (replicate (n - length xs - k) 0) k (length-replicate k 0)

-- a part that is put over them
part_behind : (n k : ℕ) (xs ys : List ℕ) → length xs + k ≤ n → length ys ≡ k
    → take (length xs) (padded n xs) ++ (ys ++ drop k (drop (length xs) (padded n xs))) ≡ padded n (xs ++ ys)
unfolding written
part_behind n k xs ys h l =
    let rest : drop k (drop (length xs) (padded n xs)) ≡ drop (length xs + length ys) (padded n xs) = drop-drop k (length xs) (padded n xs) ∙ ap (λ m. drop (length xs + m) (padded n xs)) (sym l) in
    ap (λ r. take (length xs) (padded n xs) ++ (ys ++ r)) rest ∙ sym (append_assoc (take (length xs) (padded n xs)) ys _) ∙ padded_write n xs ys (omega arith)

-- where the next plan goes there are zeros
pub plan_clear : (plans : List ℕ) (fs : List Form) (at k : ℕ) → plans ≡ padded 1856 (plans_of fs) → AllStored width fs → length fs < 8 → at ≡ length fs * 232 → k ≡ 232
    → take k (drop at plans) ≡ replicate 232 0
plan_clear plans fs at k p h few e f =
    let place : at ≡ length (plans_of fs) = e ∙ sym (plans_length fs h) in
    rw (p, place, f) (zeros_behind 1856 232 (plans_of fs) (omega (arith, plans_length fs h)))

-- and once it is there it is that of the last form
pub plan_joins : (plans : List ℕ) (fs : List Form) (at k : ℕ) (g : Form) → plans ≡ padded 1856 (plans_of fs) → AllStored width fs → length fs < 8 → at ≡ length fs * 232 → k ≡ 232 → Storable width g.lines
    → take at plans ++ (plan_of g.lines ++ drop k (drop at plans)) ≡ padded 1856 (plans_of (fs ++ (g ∷ [])))
plan_joins plans fs at k g p h few e f s =
    let place : at ≡ length (plans_of fs) = e ∙ sym (plans_length fs h) in
    rw (p, place, f, plans_both fs (g ∷ []), plans_one g) (part_behind 1856 232 (plans_of fs) (plan_of g.lines) (omega (arith, plans_length fs h)) (plan_whole g.lines s))
