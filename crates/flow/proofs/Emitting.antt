-- What is said piece by piece is what the paper's program says of the whole input.
use Prim.Native.Nat.{ℕ, zero, suc, ◌+◌, ◌-◌, ◌<◌}
use mathlib.Core.Path.{◌≡◌, refl, sym, ◌∙◌, ap}
use mathlib.Core.Bool.{true}
use mathlib.Core.List.{List, [], ◌∷◌, ◌++◌, append_assoc, append-nil}
use lib.Dec.{eqb}
use native.Mathlib.Omega.{arith}
use native.Mathlib.Numerals.{add-one}
use borrow.Author.Tests.{eqb-true}
use Rattle.paper.specs.Byte.{when◌then◌else◌, every}
use Rattle.paper.specs.Line.{lf, is_dropped, kept, cut}
use Rattle.paper.specs.Bench.{Bench, begin, take_set}
use Rattle.paper.specs.Program.{Output, enough, out_of, takes, after_takes, runs, program}
use Rattle.paper.proofs.Test.{either}
use Rattle.command.specs.View.{width}
use Rattle.flow.specs.Feed.{Piece, line, waits, feed}
use Rattle.flow.proofs.Cutting.{inside, cut_at, cut_none, kept_none, kept_other, kept_dropped, lf_stays, inside_more}
use Rattle.flow.specs.Emit.{Standing, start, silence, joined, heard, heard_says, taken, taken_says, settled, sets_say, waiting, step, step_says, after, emit}

-- outputs put together
pub joined_assoc : (a b d : Output) → joined (joined a b) d ≡ joined a (joined b d)
unfolding joined
joined_assoc a b d = rw (append_assoc, append_assoc)

pub joined_none : (a : Output) → joined silence a ≡ a
unfolding joined
joined_none a = refl

-- a standing with no set left
abbrev resting : Bench → List ℕ → ℕ → Standing
resting b w n = record { bench = b; wait = w; lines = n; left = 0 }

-- the sets that are left come first
pub emit_settles : (s : Standing) (input : List ℕ) → emit s input ≡ joined (sets_say s) (emit (settled s) input)
unfolding emit sets_say settled takes after_takes joined
emit_settles s [] = rw append-nil
emit_settles s (b ∷ input) = refl

-- and all of them are taken
after_settles : (s : Standing) (input : List ℕ) → after s input ≡ after (settled s) input
unfolding after settled after_takes
after_settles s [] = refl
after_settles s (b ∷ input) = refl

-- a piece of input behind another adds what it adds behind what that one adds
pub emit_append : (s : Standing) (x y : List ℕ) → emit s (x ++ y) ≡ joined (emit s x) (emit (after s x) y)
unfolding after emit
emit_append s [] y = emit_settles s y
emit_append s (b ∷ x) y = rw (emit_append (step (settled s) b) x y, joined_assoc, joined_assoc)

-- and leads on from where that one led
pub after_append : (s : Standing) (x y : List ℕ) → after s (x ++ y) ≡ after (after s x) y
unfolding after
after_append s [] y = after_settles s y
after_append s (b ∷ x) y = after_append (step (settled s) b) x y

-- the paper's run of no line
runs_none : (b : Bench) (k : ℕ) → runs width k b [] ≡ silence
unfolding runs
runs_none b k = refl

-- and of one line more
runs_line : (b : Bench) (n : ℕ) (w : List ℕ) (ss : List (List ℕ))
    → runs width (n + 1) b (w ∷ ss)
    ≡ joined (heard_says (resting b w n) w) (joined (sets_say (heard (resting b w n) w)) (runs width (n + 1 + 1) (settled (heard (resting b w n) w)).bench ss))
unfolding runs joined heard_says sets_say heard settled
runs_line b n w ss = rw (add-one (n + 1), append_assoc)

-- reading on in the middle of a line: what is written is the paper's run of the lines that this input completes
emit_runs : (b : Bench) (n : ℕ) (s w : List ℕ) → every inside w ≡ true → emit (resting b w n) s ≡ runs width (n + 1) b (cut (w ++ kept s))
unfolding emit settled sets_say takes after_takes heard step step_says waiting when◌then◌else◌ every
emit_runs b n [] w e = rw (kept_none, append-nil w, cut_none w e, runs_none b (n + 1))
emit_runs b n (c ∷ s) w e =
    either (eqb c lf)
    (λ y.
    let lines : cut (w ++ kept (c ∷ s)) ≡ w ∷ cut (kept s) = rw (eqb-true c lf y, kept_other lf s lf_stays) (cut_at w (kept s) e) in
    rw (y, lines, runs_line b n w (cut (kept s)), joined_none, emit_settles (heard (resting b w n) w) s, emit_runs (settled (heard (resting b w n) w)).bench (n + 1) s [] refl))
    (λ m. either (is_dropped c)
    (λ d. rw (m, d, kept_dropped c s d, joined_none, joined_none) (emit_runs b n s w e))
    (λ k. rw (m, k, kept_other c s k, joined_none, joined_none) (emit_runs b n s (w ++ (c ∷ [])) (inside_more w c e m) ∙ rw (append_assoc w (c ∷ []) (kept s)))))

-- all pieces together: the whole input from the start says the paper's program
pub emit_program : (input : List ℕ) → emit start input ≡ program width input
unfolding program every
emit_program input = emit_runs begin 0 input [] refl

-- the first of some sets, and the others
sets_take : (n : ℕ) (b : Bench) → 0 < n
    → (takes n b ≡ out_of (take_set enough b).answer ++ takes (n - 1) (take_set enough b).next) × (after_takes n b ≡ after_takes (n - 1) (take_set enough b).next)
unfolding takes after_takes
sets_take zero b h = absurd (omega arith)
sets_take (suc k) b h = let same : suc k - 1 ≡ k = omega arith in rw same (refl, refl)

-- a set is taken
pub emit_takes : (s : Standing) (input : List ℕ) → 0 < s.left → emit s input ≡ joined (taken_says s) (emit (taken s) input)
unfolding sets_say settled taken_says taken joined
emit_takes s input h =
    let (said, left) = sets_take s.left s.bench h in
    emit_settles s input ∙ rw (emit_settles (taken s) input, said, left, append_assoc)

pub after_takes_it : (s : Standing) (input : List ℕ) → 0 < s.left → after s input ≡ after (taken s) input
unfolding settled taken
after_takes_it s input h =
    let left = (sets_take s.left s.bench h).1 in
    after_settles s input ∙ rw (after_settles (taken s) input, left)

-- what is to be said by what was taken in: a line and the input behind it, or bytes that wait
abbrev Fed : Bench → ℕ → Piece → Output
Fed b n (line w rest) = joined (heard_says (resting b w n) w) (emit (heard (resting b w n) w) rest)
Fed b n (waits w) = silence

-- going byte by byte says what the line and the rest of the input say
emit_feed : (b : Bench) (n : ℕ) (s w : List ℕ) → emit (resting b w n) s ≡ Fed b n (feed w s)
unfolding emit settled sets_say takes after_takes step step_says waiting feed when◌then◌else◌
emit_feed b n [] w = refl
emit_feed b n (c ∷ s) w = go (emit_feed b n s w) (emit_feed b n s (w ++ (c ∷ [])))
  where
    go : emit (resting b w n) s ≡ Fed b n (feed w s) → emit (resting b (w ++ (c ∷ [])) n) s ≡ Fed b n (feed (w ++ (c ∷ [])) s)
        → emit (resting b w n) (c ∷ s) ≡ Fed b n (feed w (c ∷ s))
    go dropped added = either (eqb c lf)
        (λ y. rw (y, joined_none))
        (λ m. either (is_dropped c) (λ d. rw (m, d, joined_none, joined_none) dropped) (λ k. rw (m, k, joined_none, joined_none) added))

-- where the run stands then
abbrev Then : Bench → ℕ → Piece → Standing
Then b n (line w rest) = after (heard (resting b w n) w) rest
Then b n (waits w) = resting b w n

after_feed : (b : Bench) (n : ℕ) (s w : List ℕ) → after (resting b w n) s ≡ Then b n (feed w s)
unfolding after settled after_takes step waiting feed when◌then◌else◌
after_feed b n [] w = refl
after_feed b n (c ∷ s) w = go (after_feed b n s w) (after_feed b n s (w ++ (c ∷ [])))
  where
    go : after (resting b w n) s ≡ Then b n (feed w s) → after (resting b (w ++ (c ∷ [])) n) s ≡ Then b n (feed (w ++ (c ∷ [])) s)
        → after (resting b w n) (c ∷ s) ≡ Then b n (feed w (c ∷ s))
    go dropped added = either (eqb c lf) (λ y. rw y) (λ m. either (is_dropped c) (λ d. rw (m, d) dropped) (λ k. rw (m, k) added))

-- a standing with no set left, by its parts
rests : (s : Standing) → s.left ≡ 0 → s ≡ resting s.bench s.wait s.lines
rests s e = λ i. record { bench = s.bench; wait = s.wait; lines = s.lines; left = e i }

-- what is to be said where no set is left
emit_fed : (s : Standing) (input : List ℕ) → s.left ≡ 0 → emit s input ≡ Fed s.bench s.lines (feed s.wait input)
emit_fed s input e = ap (λ t. emit t input) (rests s e) ∙ emit_feed s.bench s.lines input s.wait

after_fed : (s : Standing) (input : List ℕ) → s.left ≡ 0 → after s input ≡ Then s.bench s.lines (feed s.wait input)
after_fed s input e = ap (λ t. after t input) (rests s e) ∙ after_feed s.bench s.lines input s.wait

-- a line is heard
pub emit_hears : (s : Standing) (input w rest : List ℕ) → s.left ≡ 0 → feed s.wait input ≡ line w rest
    → emit s input ≡ joined (heard_says s w) (emit (heard s w) rest)
unfolding heard_says heard
emit_hears s input w rest e f = emit_fed s input e ∙ rw f

pub after_hears : (s : Standing) (input w rest : List ℕ) → s.left ≡ 0 → feed s.wait input ≡ line w rest → after s input ≡ after (heard s w) rest
unfolding heard
after_hears s input w rest e f = after_fed s input e ∙ rw f

-- no line ends in the input: it waits for more
pub emit_waits : (s : Standing) (w x y : List ℕ) → s.left ≡ 0 → feed s.wait x ≡ feed w y → emit s x ≡ emit (waiting s w) y
unfolding waiting
emit_waits s w x y e f = emit_fed s x e ∙ rw f (sym (emit_fed (waiting s w) y e))

pub after_waits : (s : Standing) (w x y : List ℕ) → s.left ≡ 0 → feed s.wait x ≡ feed w y → after s x ≡ after (waiting s w) y
unfolding waiting
after_waits s w x y e f = after_fed s x e ∙ rw f (sym (after_fed (waiting s w) y e))
