-- A form leaves the store: a gap is closed in each list that memory holds of the forms. And the whole is wiped.
use mathlib.Core.Path.{◌≡◌, refl, sym, ◌∙◌, ap}
use mathlib.Core.List.{List, [], ◌∷◌, ◌++◌, append_assoc, append-nil, map, map-append}
use Prim.Native.Nat.{ℕ, suc, ◌+◌, ◌-◌, ◌*◌, ◌≤◌}
use native.Mathlib.Omega.{arith}
use lib.ListN.{length, take, drop, replicate, length-append, length-map, replicate-append-replicate}
use lib.Seq.{take-append_seam, drop_at}
use Rattle.text.specs.Write.{padded}
use Rattle.store.specs.Gap.{closed}
use Rattle.store.specs.Packed.{Store, Entry, texts_of, names_of, packed}
use Rattle.store.specs.Lent.{Stocked, Leaves, Clears}
use Rattle.store.proofs.Packing.{names_length, texts_both, names_both}
use Rattle.store.proofs.Look.{counts, uses}

-- three parts, and zeros behind them
split_padded : (m : ℕ) (a b c : List ℕ) → padded m (a ++ (b ++ c)) ≡ a ++ (b ++ (c ++ replicate (m - length (a ++ (b ++ c))) 0))
unfolding padded
split_padded m a b c = simp append_assoc

-- the part behind a gap
behind_gap : (a b c d : List ℕ) → take (length c) (drop (length a + length b) (a ++ (b ++ (c ++ d)))) ≡ c
behind_gap a b c d =
    let past : drop (length a + length b) (a ++ (b ++ (c ++ d))) ≡ c ++ d =
    rw (← append_assoc a b (c ++ d)) (drop_at (a ++ b) (c ++ d) (length a + length b) (length-append a b)) in
    rw past (take-append_seam c d)

-- what stands behind all three
behind_parts : (a b c d : List ℕ) → drop (length a + length b + length c) (a ++ (b ++ (c ++ d))) ≡ d
behind_parts a b c d =
    let whole : a ++ (b ++ (c ++ d)) ≡ (a ++ (b ++ c)) ++ d = simp append_assoc in
    rw whole (drop_at (a ++ (b ++ c)) d (length a + length b + length c) (rw (length-append, length-append) (omega arith)))

-- as many zeros as the gap had, in front of the others
zeros_join : (m : ℕ) (a b c : List ℕ) → length a + length b + length c ≤ m
    → a ++ (c ++ replicate (length b) 0 ++ replicate (m - length (a ++ (b ++ c))) 0) ≡ padded m (a ++ c)
unfolding padded
zeros_join m a b c h =
    let left : length b + (m - length (a ++ (b ++ c))) ≡ m - length (a ++ c) = rw (length-append, length-append, length-append) (omega arith) in
    simp append_assoc (rw (replicate-append-replicate, left))

-- a gap is closed in a list that is padded
pub gap_closed : (m : ℕ) (a b c old new : List ℕ) (at gap n : ℕ) → old ≡ padded m (a ++ (b ++ c))
    → at ≡ length a → gap ≡ length b → n ≡ length c → length a + length b + length c ≤ m
    → new ≡ closed old at gap n 0 → new ≡ padded m (a ++ c)
unfolding closed
gap_closed m a b c old new at gap n e p q r h w =
    let d = replicate {A = ℕ} (m - length (a ++ (b ++ c))) 0 in
    let whole : old ≡ a ++ (b ++ (c ++ d)) = e ∙ split_padded m a b c in
    w ∙ rw (p, q, r, whole, behind_gap a b c d, take-append_seam, behind_parts a b c d) (zeros_join m a b c h)

-- a form's part of a list that memory holds of the forms: the list of some forms and of those behind them are one behind the other
part_leaves : (list : List Entry → List ℕ) → ((es fs : List Entry) → list (es ++ fs) ≡ list es ++ list fs)
    → (m : ℕ) (before : List Entry) (here : Entry) (behind : List Entry) (old new : List ℕ) (at gap n : ℕ)
    → old ≡ padded m (list (before ++ (here ∷ behind))) → length (list (before ++ (here ∷ behind))) ≤ m
    → at ≡ length (list before) → gap ≡ length (list (here ∷ [])) → n ≡ length (list behind)
    → new ≡ closed old at gap n 0 → new ≡ padded m (list (before ++ behind))
part_leaves list both m before here behind old new at gap n e room p q r w =
    let split : list (before ++ (here ∷ behind)) ≡ list before ++ (list (here ∷ []) ++ list behind) =
    both before (here ∷ behind) ∙ ap (λ xs. list before ++ xs) (both (here ∷ []) behind) in
    let fits : length (list before) + length (list (here ∷ [])) + length (list behind) ≤ m =
    omega (arith, simp length-append at (ap length split)) in
    rw (both before behind) (gap_closed m (list before) (list (here ∷ [])) (list behind) old new at gap n (e ∙ ap (padded m) split) p q r fits w)

-- and a number that is kept for each form
numbers_leave : (f : Entry → ℕ) (before : List Entry) (here : Entry) (behind : List Entry) (old new : List ℕ) (index n : ℕ)
    → old ≡ padded 8 (map f (before ++ (here ∷ behind))) → length (before ++ (here ∷ behind)) ≤ 8 → index ≡ length before → n ≡ length behind
    → new ≡ closed old index 1 n 0 → new ≡ padded 8 (map f (before ++ behind))
numbers_leave f before here behind old new index n e few p q w =
    part_leaves (map f) (map-append f) 8 before here behind old new index 1 n
    e (rw length-map few) (p ∙ rw length-map) refl (q ∙ rw length-map) w

-- the store's fields after a form has left
abbrev left : Store → ℕ → (all names texts lens : List ℕ) → Store
left self size all names texts lens =
    record { text = all; names = names; texts = texts; lens = lens; used = self.used - size; count = self.count - 1 }

-- a form leaves, and the others stay
pub form_leaves : (self : Store) (all names texts lens : List ℕ) (index start size : ℕ)
    → all ≡ closed self.text start size (self.used - size - start) 0
    → names ≡ closed self.names (index * 16) 16 ((self.count - 1 - index) * 16) 0
    → texts ≡ closed self.texts index 1 (self.count - 1 - index) 0
    → lens ≡ closed self.lens index 1 (self.count - 1 - index) 0
    → Leaves self index start size (left self size all names texts lens)
unfolding packed texts_of
form_leaves self all names texts lens index start size wa wb wc wd =
    record {
      leaves = λ s.
          let k = s.stocked.kept in
          let e : self ≡ packed (s.before ++ (s.here ∷ s.behind)) = k.is ∙ ap packed s.forms in
          let count : length k.forms ≡ length s.before + suc (length s.behind) = ap length s.forms ∙ rw length-append in
          let bytes : length (texts_of k.forms) ≡ length (texts_of s.before) + (length s.here.text + length (texts_of s.behind)) =
          ap (λ es. length (texts_of es)) s.forms ∙ rw (texts_both, length-append, length-append) in
          let alone : length (texts_of (s.here ∷ [])) ≡ length s.here.text = rw append-nil in
          let few : length (s.before ++ (s.here ∷ s.behind)) ≤ 8 = rw s.forms at k.few in
          let behind : self.count - 1 - index ≡ length s.behind = omega (arith, counts self k) in
          let used : self.used - size ≡ length (texts_of (s.before ++ s.behind)) = rw (texts_both, length-append) (omega (arith, uses self k)) in
          let counted : self.count - 1 ≡ length (s.before ++ s.behind) = rw length-append (omega (arith, counts self k)) in
          let text = part_leaves texts_of texts_both 4096 s.before s.here s.behind self.text all start size (self.used - size - start)
          (ap (λ x. x.text) e) (rw s.forms at k.room) s.place (s.bytes ∙ sym alone) (omega (arith, uses self k)) wa in
          let slots = part_leaves names_of names_both 128 s.before s.here s.behind self.names names (index * 16) 16 ((self.count - 1 - index) * 16)
          (ap (λ x. x.names) e) (rw names_length (omega arith))
          (rw names_length (ap (λ n. n * 16) s.number)) (sym (names_length (s.here ∷ []))) (rw names_length (ap (λ n. n * 16) behind)) wb in
          λ i. record {
            text = text i;
            names = slots i;
            texts = numbers_leave (λ x. length x.text) s.before s.here s.behind self.texts texts index _ (ap (λ x. x.texts) e) few s.number behind wc i;
            lens = numbers_leave (λ x. length x.name) s.before s.here s.behind self.lens lens index _ (ap (λ x. x.lens) e) few s.number behind wd i;
            used = used i;
            count = counted i;
          };
    }

-- used memory that is wiped is that of no form
wiped : (m : ℕ) (xs old new : List ℕ) (n : ℕ) → old ≡ padded m xs → n ≡ length xs → length xs ≤ m → new ≡ replicate n 0 ++ drop n old → new ≡ padded m []
unfolding padded
wiped m xs old new n e p h w =
    let sum : length xs + (m - length xs) ≡ m - 0 = omega arith in
    w ∙ rw (e, p, drop_at xs (replicate (m - length xs) 0) (length xs) refl, replicate-append-replicate, sum)

-- and so are the numbers
numbers_wiped : (f : Entry → ℕ) (es : List Entry) (old new : List ℕ) (n : ℕ) → old ≡ padded 8 (map f es) → n ≡ length es → length es ≤ 8
    → new ≡ replicate n 0 ++ drop n old → new ≡ padded 8 []
numbers_wiped f es old new n e p few w = wiped 8 (map f es) old new n e (p ∙ rw length-map) (rw length-map few) w

-- every form leaves
pub clears : (self : Store) (all names texts lens : List ℕ) → Stocked self
    → all ≡ replicate self.used 0 ++ drop self.used self.text → names ≡ replicate (self.count * 16) 0 ++ drop (self.count * 16) self.names
    → texts ≡ replicate self.count 0 ++ drop self.count self.texts → lens ≡ replicate self.count 0 ++ drop self.count self.lens
    → Clears (record { text = all; names = names; texts = texts; lens = lens; used = 0; count = 0 })
unfolding packed texts_of names_of
clears self all names texts lens s wa wb wc wd =
    let k = s.kept in
    λ i. record {
      text = wiped 4096 (texts_of k.forms) self.text all self.used (ap (λ x. x.text) k.is) (uses self k) k.room wa i;
      names = wiped 128 (names_of k.forms) self.names names (self.count * 16) (ap (λ x. x.names) k.is) (rw (names_length, counts self k)) (rw names_length (omega (arith, k.few))) wb i;
      texts = numbers_wiped (λ x. length x.text) k.forms self.texts texts _ (ap (λ x. x.texts) k.is) (counts self k) k.few wc i;
      lens = numbers_wiped (λ x. length x.name) k.forms self.lens lens _ (ap (λ x. x.lens) k.is) (counts self k) k.few wd i;
      used = 0;
      count = 0;
    }
