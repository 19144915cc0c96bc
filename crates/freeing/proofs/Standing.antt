-- A tablet is freed where a run of the program stands: the three lines behind any input, in any pieces, lead to one standing, which only the store and the number of the lines tell.
use Prim.Native.Nat.{ℕ, zero, suc, ◌+◌}
use mathlib.Core.Path.{◌≡◌, refl, sym, ◌∙◌, ap}
use mathlib.Core.List.{List, [], ◌∷◌, ◌++◌, append_assoc}
use native.Mathlib.Omega.{arith}
use lib.ListN.{length, drop_of_length-le}
use lib.Dec.{eqb}
use Rattle.paper.specs.Byte.{bytes, when◌then◌else◌}
use Rattle.paper.specs.Line.{lf, is_dropped}
use Rattle.paper.specs.Refusal.{Answer, accepted, refused}
use Rattle.paper.specs.Bench.{Session, idle, collecting, spoiled, opened, answering, ready, printing, Bench, begin, outcome, done, refuse, after_refusal, hear, take_set}
use Rattle.paper.specs.State.{Led, begun, hearing, taking}
use Rattle.paper.specs.Program.{Output, enough, out_of, err_of, to_take, after_takes, program}
use Rattle.paper.specs.Freeing.{broken, freeing, why_broken, why_finish}
use Rattle.paper.proofs.Law.{by_test}
use Rattle.paper.proofs.Freeing.{behind_finish, broken_hears, finish_hears, new_hears}
use Rattle.command.specs.View.{width}
use Rattle.text.specs.Place.{from}
use Rattle.flow.specs.Emit.{Standing, start, joined, heard, heard_says, settled, waiting, step, after, emit}
use Rattle.flow.specs.Feed.{line, feed}
use Rattle.flow.specs.Fill.{Desk, At}
use Rattle.flow.proofs.Emitting.{emit_append, after_append, emit_program, emit_hears, after_hears}
use Rattle.flow.proofs.Filling.{due_less}
use Rattle.program.specs.Chain.{Chain}
use Rattle.program.proofs.Chain.{chain_program}
use Rattle.freeing.specs.Standing.{freed_at, freeing_says, Due, Pieces, none, piece}

-- a bench of some forms, with no set left and no byte waiting
abbrev resting : Standing → Session → ℕ → Standing
resting s st n = record { bench = record { forms = s.bench.forms; session = st }; wait = []; lines = n; left = 0 }

-- a line came, and its answer is what there is to say of it
record Goes (s : Standing) (input : List ℕ) (a : Answer) (next : Standing) (rest : List ℕ) : Type 0 where
  stands : after s input ≡ after next rest
  says : emit s input ≡ joined (record { out = out_of a; err = err_of (s.lines + 1) a }) (emit next rest)

-- a line behind which the store is as it was and no set is left
line_goes : (s : Standing) (input v rest : List ℕ) (a : Answer) (st : Session) → s.left ≡ 0 → feed s.wait input ≡ line v rest
    → hear width enough s.bench v ≡ outcome a s.bench.forms st → to_take st ≡ 0 → Goes s input a (resting s st (s.lines + 1)) rest
unfolding heard heard_says outcome
line_goes s input v rest a st none_left fed e none_due =
    let stands : heard s v ≡ resting s st (s.lines + 1) = rw (e, none_due) in
    let says : heard_says s v ≡ record { out = out_of a; err = err_of (s.lines + 1) a } = rw e in
    record {
      stands = after_hears s input v rest none_left fed ∙ ap (λ q. after q rest) stands;
      says = emit_hears s input v rest none_left fed ∙ rw (stands, says);
    }

-- each of the three ends a line
feed_first : (w x : List ℕ) → feed w (1 ∷ lf ∷ x) ≡ line (broken w) x
unfolding feed broken is_dropped when◌then◌else◌
feed_first w x = refl

feed_second : (x : List ℕ) → feed [] (bytes "FE" ++ (lf ∷ x)) ≡ line (bytes "FE") x
unfolding feed bytes is_dropped when◌then◌else◌
feed_second x = refl

feed_third : (x : List ℕ) → feed [] (bytes "N" ++ (lf ∷ x)) ≡ line (bytes "N") x
unfolding feed bytes is_dropped when◌then◌else◌
feed_third x = refl

-- no set is left behind the first two where none was left before
first_due : (st : Session) → to_take st ≡ 0 → to_take (after_refusal st) ≡ 0
unfolding to_take after_refusal
first_due idle e = refl
first_due (collecting name ls) e = refl
first_due spoiled e = refl
first_due (opened ls) e = refl
first_due (answering ls given) e = refl
first_due (ready ls given) e = refl
first_due (printing ls given n c i) e = e

second_due : (st : Session) → to_take st ≡ 0 → to_take (behind_finish st) ≡ 0
unfolding to_take behind_finish
second_due idle e = refl
second_due (collecting name ls) e = refl
second_due spoiled e = refl
second_due (opened ls) e = refl
second_due (answering ls given) e = refl
second_due (ready ls given) e = refl
second_due (printing ls given n c i) e = e

-- two refusals, and then nothing
refusals_said : (a b : List ℕ) (later : Output) → joined (record { out = []; err = a }) (joined (record { out = []; err = b }) (joined (record { out = []; err = [] }) later)) ≡ joined (record { out = []; err = a ++ b }) later
unfolding joined
refusals_said a b later = λ j. record { out = later.out; err = sym (append_assoc a b later.err) j }

-- a run that has no set left to be taken, as each has behind a piece of input
module _ (s : Standing) (none_left : s.left ≡ 0) (none_due : to_take s.bench.session ≡ 0) (x : List ℕ) where
  abbrev st : Session
  st = s.bench.session

  -- what is still to come behind each of the lines
  abbrev third_on : List ℕ
  third_on = bytes "N" ++ (lf ∷ x)

  abbrev second_on : List ℕ
  second_on = bytes "FE" ++ (lf ∷ third_on)

  first : Goes s (1 ∷ lf ∷ second_on) (refused (why_broken s.wait)) (resting s (after_refusal st) (s.lines + 1)) second_on
  unfolding refuse
  first =
      line_goes s _ (broken s.wait) second_on _ (after_refusal st) none_left (feed_first s.wait second_on) (broken_hears width enough s.bench.forms st s.wait) (first_due st none_due)

  second : Goes (resting s (after_refusal st) (s.lines + 1)) second_on (refused (why_finish st)) (resting s (behind_finish st) (s.lines + 1 + 1)) third_on
  second =
      line_goes (resting s (after_refusal st) (s.lines + 1)) _ (bytes "FE") third_on _ (behind_finish st) refl (feed_second third_on) (finish_hears width enough s.bench.forms st) (second_due st none_due)

  third : Goes (resting s (behind_finish st) (s.lines + 1 + 1)) third_on (accepted []) (resting s idle (s.lines + 1 + 1 + 1)) x
  unfolding done to_take
  third = line_goes (resting s (behind_finish st) (s.lines + 1 + 1)) _ (bytes "N") x _ idle refl (feed_third x) (new_hears width enough s.bench.forms st) refl

  freed_is : resting s idle (s.lines + 1 + 1 + 1) ≡ freed_at s
  unfolding freed_at
  freed_is = ap (resting s idle) (omega arith)

  -- the three lines, one after the other
  freeing_on : freeing ++ x ≡ 1 ∷ lf ∷ second_on
  unfolding freeing bytes
  freeing_on = refl

  -- FREED: where the run stands behind the three lines
  after_frees : after s (freeing ++ x) ≡ after (freed_at s) x
  after_frees = ap (after s) freeing_on ∙ first.stands ∙ second.stands ∙ third.stands ∙ ap (λ q. after q x) freed_is

  -- and what it has said
  emit_frees : emit s (freeing ++ x) ≡ joined (freeing_says s) (emit (freed_at s) x)
  unfolding freeing_says out_of err_of
  emit_frees =
      let later : emit (resting s idle (s.lines + 1 + 1 + 1)) x ≡ emit (freed_at s) x = ap (λ q. emit q x) freed_is in
      let two : s.lines + 1 + 1 ≡ s.lines + 2 = omega arith in
      ap (emit s) freeing_on ∙ first.says ∙ rw (second.says, third.says, later, two) (refusals_said _ _ _)

-- ONE STANDING: the store and the number of the lines tell it, whatever the tablet was doing and whatever waited
pub freed_alike : (s s' : Standing) → s.bench.forms ≡ s'.bench.forms → s.lines ≡ s'.lines → freed_at s ≡ freed_at s'
unfolding freed_at
freed_alike s s' forms lines = rw (forms, lines)

-- when all are taken none is left
takes_due : (n : ℕ) (b : Bench) → Led width b → n ≡ to_take b.session → (Led width (after_takes n b)) × (to_take (after_takes n b).session ≡ 0)
unfolding after_takes
takes_due zero b led e = (led, sym e)
takes_due (suc n) b led e = takes_due n (take_set enough b).next (taking led enough) (omega (arith, due_less b b.session led refl, e))

settled_due : (s : Standing) → Due s → Due (settled s)
unfolding settled
settled_due s d = let t = takes_due s.left s.bench d.led d.due in record { led = t.0; due = sym t.1 }

step_due : (s : Standing) (b : ℕ) → Due s → Due (step s b)
unfolding step heard waiting
step_due s b d =
    by_test Due (eqb b lf) _ _ (λ y. record { led = hearing d.led enough s.wait; due = refl })
    (λ n. by_test Due (is_dropped b) _ _ (λ y. d) (λ m. record { led = d.led; due = d.due }))

after_due : (s : Standing) (x : List ℕ) → Due s → Due (after s x)
unfolding after
after_due s [] d = settled_due s d
after_due s (b ∷ x) d = after_due (step (settled s) b) x (step_due (settled s) b (settled_due s d))

after_left : (s : Standing) (x : List ℕ) → (after s x).left ≡ 0
unfolding after settled
after_left s [] = refl
after_left s (b ∷ x) = after_left (step (settled s) b) x

start_due : Due start
unfolding to_take begin
start_due = record { led = begun; due = refl }

-- BEHIND ANY INPUT, and before any: the run goes on from the standing that was freed
module _ (s : Standing) (d : Due s) (x y : List ℕ) where
  abbrev none_due : to_take (after s x).bench.session ≡ 0
  none_due = sym (after_due s x d).due ∙ after_left s x

  pub behind_frees : after s (x ++ (freeing ++ y)) ≡ after (freed_at (after s x)) y
  behind_frees = after_append s x (freeing ++ y) ∙ after_frees (after s x) (after_left s x) none_due y

  -- with two refusals said in between, and nothing else
  pub behind_says : emit s (x ++ (freeing ++ y)) ≡ joined (emit s x) (joined (freeing_says (after s x)) (emit (freed_at (after s x)) y))
  behind_says = emit_append s x (freeing ++ y) ∙ ap (joined (emit s x)) (emit_frees (after s x) (after_left s x) none_due y)

-- so goes the program
pub program_frees : (x y : List ℕ) → program width (x ++ (freeing ++ y)) ≡ joined (program width x) (joined (freeing_says (after start x)) (emit (freed_at (after start x)) y))
program_frees x y = sym (emit_program (x ++ (freeing ++ y))) ∙ behind_says start start_due x y ∙ rw (emit_program x)

-- and so do all steps that keep the promises of `fill` and `pass`, whatever pieces the input comes in
pub run_frees : (x y : List ℕ) {said : Output} → Chain start (x ++ (freeing ++ y)) said → said ≡ joined (program width x) (joined (freeing_says (after start x)) (emit (freed_at (after start x)) y))
run_frees x y c = chain_program c ∙ program_frees x y

-- with no set left none is taken
settled_rests : (s : Standing) → s.left ≡ 0 → settled s ≡ s
unfolding settled after_takes
settled_rests s e = λ j. record { bench = after_takes (e j) s.bench; wait = s.wait; lines = s.lines; left = sym e j }

-- where a run in memory stands behind pieces of input that were passed on
pieces_stand : {d e : Desk} {input : List ℕ} (s : Standing) → s.left ≡ 0 → At d s → Pieces d input e → At e (after s input)
unfolding after from
pieces_stand s none_left a none = rw (settled_rests s none_left) a
pieces_stand {e = e} s none_left a (piece {input = input} {rest = rest} {next = next} p more) =
    let l = p.leads s a in
    let used = p.ends refl in
    let empty : from input next ≡ [] = rw used.whole (drop_of_length-le input {i = length input} (omega arith)) in
    let stands : after s (input ++ rest) ≡ after l.here rest = l.stays rest ∙ ap (λ y. after l.here (y ++ rest)) empty in
    rw stands (pieces_stand l.here (sym l.at.leaves ∙ used.none) l.at more)

-- IN MEMORY: a run that is fed the three lines behind some input and before some, in any pieces, stands where one stands that was freed
pub pieces_free : {d e : Desk} {input : List ℕ} (s : Standing) → s.left ≡ 0 → At d s → (x y : List ℕ) → input ≡ x ++ (freeing ++ y) → Pieces d input e → At e (after (freed_at (after s x)) y)
pieces_free s none_left a x y came p =
    rw (came, behind_frees s (record { led = a.led; due = a.due }) x y) at (pieces_stand s none_left a p)
