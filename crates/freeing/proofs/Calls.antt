-- A tablet is freed, over the promise of `hear`: calls with the three lines, whatever waited before the first and whatever buffers were lent to them, leave it Idle and all else as
-- it was. And a bench in which a tablet was freed is any other in which it was, or in which it is Idle (`idle_freed`), if they agree in all else: they have one memory, so that they answer
-- alike for ever.
use Prim.Native.Nat.{ℕ, ◌<◌}
use mathlib.Core.Path.{◌≡◌, refl, sym, ◌∙◌, ap}
use mathlib.Core.Bool.{Bool, true, false, ◌&&◌, true≢false}
use mathlib.Core.List.{List, [], ◌∷◌, map}
use lib.ListN.{get_or}
use Rattle.paper.specs.Byte.{bytes}
use Rattle.paper.specs.Refusal as R
use Rattle.paper.specs.Class.{Class, Request, class_after, silent}
use Rattle.paper.specs.Freeing.{broken, three_lines, three_among, freeing_answers, at_idle, Freed, AgreeBut}
use Rattle.paper.proofs.Law.{and_left, and_right}
use Rattle.paper.proofs.Freeing.{frees, frees_says, freed_same}
use Rattle.paper.proofs.FreeingAmong.{frees_among}
use Rattle.command.specs.View.{width}
use Rattle.call.specs.Call.{Memory}
use Rattle.tablets.specs.Calls.{packed_class, Reached}
use Rattle.tablets.specs.Runs.{hears, Made, Chain, after, request_for, room_of, on_paper, Report}
use Rattle.tablets.proofs.Chain.{chain_follows}
use Rattle.tablets.proofs.Outcomes.{chain_unique}
use Rattle.freeing.specs.Calls.{freeing_calls, FreedByCalls}

-- the room that was lent to one of some calls
abbrev room_at : List Made → ℕ → ℕ
room_at ms n = get_or (map room_of ms) n 0

-- calls with the three lines are the paper's
three_paper : (t : ℕ) (w : List ℕ) (ms : List Made) → map (λ m. m.what) ms ≡ freeing_calls t w → map on_paper ms ≡ three_lines t w (room_at ms 0) (room_at ms 1) (room_at ms 2)
unfolding on_paper request_for three_lines
three_paper t w [] e = cc
three_paper t w (a ∷ []) e = cc
three_paper t w (a ∷ b ∷ []) e = cc
three_paper t w (a ∷ b ∷ c ∷ []) e =
    let first : a.what ≡ hears t (broken w) = cc in
    let second : b.what ≡ hears t (bytes "FE") = cc in
    let third : c.what ≡ hears t (bytes "N") = cc in
    λ j. request_for (room_of a) (first j) ∷ request_for (room_of b) (second j) ∷ request_for (room_of c) (third j) ∷ []
three_paper t w (a ∷ b ∷ c ∷ d ∷ ms) e = cc

-- an answer that writes nothing
unfoldable writes_nothing : R.Answer → Bool
writes_nothing (R.accepted []) = true
writes_nothing (R.accepted (b ∷ more)) = false
writes_nothing (R.refused r) = true

unfoldable none_writes : List R.Answer → Bool
none_writes [] = true
none_writes (a ∷ answers) = writes_nothing a && none_writes answers

nothing_lent : (old : List ℕ) (a : R.Answer) → writes_nothing a ≡ true → R.lent old a ≡ old
unfolding writes_nothing R.lent
nothing_lent old (R.accepted []) e = refl
nothing_lent old (R.accepted (b ∷ more)) e = absurd (true≢false (sym e))
nothing_lent old (R.refused r) e = refl

none_written : (answers : List R.Answer) (ms : List Made) → none_writes answers ≡ true → Report answers ms → map (λ m. m.new) ms ≡ map (λ m. m.old) ms
unfolding none_writes
none_written [] [] e h = refl
none_written [] (m ∷ ms) e h = absurd h
none_written (a ∷ answers) [] e h = absurd h
none_written (a ∷ answers) (m ∷ ms) e h =
    let here : m.new ≡ m.old = h.0.buffer ∙ nothing_lent m.old a (and_left _ _ e) in
    let rest = none_written answers ms (and_right (writes_nothing a) _ e) h.1 in
    λ j. here j ∷ rest j

freeing_writes : (c : Class) (t : ℕ) (w : List ℕ) → none_writes (freeing_answers (c.tablet t).session w) ≡ true
unfolding freeing_answers none_writes writes_nothing
freeing_writes c t w = refl

-- FREED
pub chain_frees : (self : Memory) (k : Reached self) (t : ℕ) → t < 30 → (w : List ℕ) (ms : List Made) → map (λ m. m.what) ms ≡ freeing_calls t w → Chain self ms
    → FreedByCalls k.class t w ms (after self ms)
chain_frees self k t l w ms e h =
    let f = chain_follows self k ms h in
    let paper = three_paper t w ms e in
    let says = frees_says width k.class t l w (room_at ms 0) (room_at ms 1) (room_at ms 2) in
    let reports : Report (freeing_answers (k.class.tablet t).session w) ms = rw (paper, says) at f.reports in
    record {
      reached = f.reached;
      freed = rw (f.class, paper) (frees width k.class t l w (room_at ms 0) (room_at ms 1) (room_at ms 2));
      reports = reports;
      unwritten = none_written _ ms (freeing_writes k.class t w) reports;
    }

-- FREED AMONG OTHERS: whatever others send between the three lines and behind them, and whenever the takes come, the tablet is Idle
pub chain_frees_among : (self : Memory) (k : Reached self) (t : ℕ) → t < 30 → (w : List ℕ) (a b d : ℕ) (xs ys zs : List Request) → silent t xs ≡ true → silent t ys ≡ true → silent t zs ≡ true
    → (ms : List Made) → map on_paper ms ≡ three_among t w a b d xs ys zs → (h : Chain self ms) → (chain_follows self k ms h).reached.class.tablet t ≡ at_idle
chain_frees_among self k t l w a b d xs ys zs p q r ms e h =
    ap (λ (c : Class). c.tablet t) ((chain_follows self k ms h).class ∙ ap (class_after width k.class) e) ∙ frees_among width k.class t l w a b d xs ys zs p q r

-- two benches in which a tablet is Idle, and which agree in all else
module _ (t : ℕ) (c c' : Class) (agree : AgreeBut t c c') (self self' : Memory) (k : Reached self) (k' : Reached self') (freed : Freed c t k.class) (freed' : Freed c' t k'.class) where
  -- ONE MEMORY
  pub freed_memory : self ≡ self'
  freed_memory = k.is ∙ ap packed_class (freed_same width t c c' k.class k'.class k.calls k'.calls k.led k'.led agree freed freed') ∙ sym k'.is

  -- FOR EVER: the same calls, with the same buffers, give the same answers, bytes, tablets and memory, one by one
  pub freed_for_ever : (ms ms' : List Made) → map (λ m. m.what) ms ≡ map (λ m. m.what) ms' → map (λ m. m.old) ms ≡ map (λ m. m.old) ms' → Chain self ms → Chain self' ms' → ms ≡ ms'
  freed_for_ever ms ms' what old h h' = chain_unique self k ms ms' what old h (rw freed_memory h')
