-- A tablet is freed over its way in: its three lines come behind whatever waits of a line, in any pieces.
use Prim.Native.Nat.{ℕ, ◌<◌}
use mathlib.Core.Path.{◌≡◌, refl, sym, ◌∙◌, ap}
use mathlib.Core.Bool.{true, not}
use mathlib.Core.List.{List, [], ◌∷◌, ◌++◌, map, append_assoc, append-nil}
use lib.Dec.{eqb}
use borrow.Author.Tests.{not-true}
use Rattle.paper.specs.Byte.{every, bytes, when◌then◌else◌}
use Rattle.paper.specs.Line.{lf, is_dropped, kept}
use Rattle.paper.specs.Refusal as R
use Rattle.paper.specs.Class.{Class}
use Rattle.paper.specs.Freeing.{broken, freeing, freeing_answers, AgreeBut}
use Rattle.paper.proofs.Law.{if_true, if_false, and_left, and_right}
use Rattle.paper.proofs.Test.{either}
use Rattle.wait.specs.Waiting.{Waits, Comes}
use Rattle.call.specs.Call.{Memory}
use Rattle.tablets.specs.Calls.{Reached}
use Rattle.tablets.specs.Runs.{hears, Made, Chain, after, Report}
use Rattle.tablets.proofs.Leaving.{hears_waiting}
use Rattle.flow.proofs.Gathering.{clean_more}
use Rattle.freeing.specs.Calls.{freeing_calls, FreedByCalls}
use Rattle.freeing.specs.Intake.{Intake, Arrival, more, ending, Arrive, behind, behind_all, bytes_in, came_in, calls, Answered, Unwritten, Unfinished, FreedIn}
use Rattle.freeing.proofs.Calls.{chain_frees, freed_for_ever}

-- what has come of lines: those that have ended, and the bytes behind them
record Poured : Type 0 where
  lines : List (List ℕ)
  wait : List ℕ

unfoldable ahead : List ℕ → Poured → Poured
ahead w p = record { lines = w ∷ p.lines; wait = p.wait }

-- bytes behind those that wait
unfoldable pour : List ℕ → List ℕ → Poured
pour w [] = record { lines = []; wait = w }
pour w (b ∷ s) = when eqb b lf then ahead w (pour [] s) else when is_dropped b then pour w s else pour (w ++ (b ∷ [])) s

-- bytes of one line
pour_inside : (s w x : List ℕ) → every (λ b. not (eqb b lf)) s ≡ true → pour w (s ++ x) ≡ pour (w ++ kept s) x
unfolding pour kept every
pour_inside [] w x e = rw append-nil
pour_inside (b ∷ s) w x e =
    let on = not-true (eqb b lf) (and_left (not (eqb b lf)) _ e) in
    let rest = and_right (not (eqb b lf)) _ e in
    if_false _ _ _ on
    ∙ either (is_dropped b)
    (λ y. if_true _ _ _ y ∙ pour_inside s w x rest ∙ ap (λ k. pour (w ++ k) x) (sym (if_true _ _ _ y)))
    (λ n. if_false _ _ _ n ∙ pour_inside s (w ++ (b ∷ [])) x rest ∙ rw (append_assoc w (b ∷ []) (kept s)) (ap (λ k. pour (w ++ k) x) (sym (if_false _ _ _ n))))

-- an LF ends it
pour_end : (w x : List ℕ) → pour w (lf ∷ x) ≡ ahead w (pour [] x)
unfolding pour when◌then◌else◌
pour_end w x = refl

-- the three lines, whatever waits before the first
pour_freeing : (w : List ℕ) → pour w freeing ≡ record { lines = broken w ∷ bytes "FE" ∷ bytes "N" ∷ []; wait = [] }
unfolding pour ahead freeing broken bytes is_dropped when◌then◌else◌
pour_freeing w = refl

-- more of a line waits
more_waits : (w : List ℕ) (i : Intake) (s new : List ℕ) (len : ℕ) → Unfinished w i → Comes i.waiting i.len s new len → Unfinished (w ++ kept s) (behind i (more s new len))
unfolding behind
more_waits w i s new len u c = record { waits = c.comes w u.waits; clean = clean_more w s u.clean }

-- nothing waits behind an LF
none_waits : (w : List ℕ) (i : Intake) (next : Memory) → Unfinished w i → Unfinished [] (record { memory = next; waiting = i.waiting; len = 0 })
unfolding kept
none_waits w i next u = record { waits = record { front = refl; counts = refl; room = u.waits.room }; clean = refl }

-- these calls are as promised: what waits of a line is heard as the line
arrive_chain : (t : ℕ) (w : List ℕ) (i : Intake) (came : List Arrival) → Unfinished w i → Arrive t i came → Chain i.memory (calls t w came)
unfolding calls behind
arrive_chain t w i [] u h = tt
arrive_chain t w i (more s new len ∷ later) u h = arrive_chain t (w ++ kept s) _ later (more_waits w i s new len u h.0.1) h.1
arrive_chain t w i (ending old new next answer ∷ later) u h =
    let waits : Waits (kept w) i.waiting i.len = rw u.clean u.waits in
    ((refl, hears_waiting i.memory t w i.waiting i.len old next new answer waits h.0), arrive_chain t [] _ later (none_waits w i next u) h.1)

-- they are calls with the lines that came
arrive_lines : (t : ℕ) (w : List ℕ) (i : Intake) (came : List Arrival) → Arrive t i came → map (λ m. m.what) (calls t w came) ≡ map (hears t) (pour w (came_in came)).lines
unfolding calls behind came_in bytes_in pour ahead
arrive_lines t w i [] h = refl
arrive_lines t w i (more s new len ∷ later) h =
    arrive_lines t (w ++ kept s) _ later h.1 ∙ ap (λ (p : Poured). map (hears t) p.lines) (sym (pour_inside s w (came_in later) h.0.0))
arrive_lines t w i (ending old new next answer ∷ later) h =
    ap (λ ks. hears t w ∷ ks) (arrive_lines t [] _ later h.1) ∙ ap (λ (p : Poured). map (hears t) p.lines) (sym (pour_end w (came_in later)))

-- what came behind the last LF waits
arrive_waits : (t : ℕ) (w : List ℕ) (i : Intake) (came : List Arrival) → Unfinished w i → Arrive t i came → Unfinished (pour w (came_in came)).wait (behind_all i came)
unfolding behind_all behind came_in bytes_in pour ahead
arrive_waits t w i [] u h = u
arrive_waits t w i (more s new len ∷ later) u h =
    rw (pour_inside s w (came_in later) h.0.0) (arrive_waits t (w ++ kept s) _ later (more_waits w i s new len u h.0.1) h.1)
arrive_waits t w i (ending old new next answer ∷ later) u h =
    rw (pour_end w (came_in later)) (arrive_waits t [] _ later (none_waits w i next u) h.1)

-- and the memory, the answers and the buffers are those of the calls
arrive_memory : (t : ℕ) (w : List ℕ) (i : Intake) (came : List Arrival) → after i.memory (calls t w came) ≡ (behind_all i came).memory
unfolding calls after behind_all behind
arrive_memory t w i [] = refl
arrive_memory t w i (more s new len ∷ later) = arrive_memory t (w ++ kept s) _ later
arrive_memory t w i (ending old new next answer ∷ later) = arrive_memory t [] _ later

arrive_answered : (t : ℕ) (w : List ℕ) (answers : List R.Answer) (came : List Arrival) → Report answers (calls t w came) → Answered answers came
unfolding calls
arrive_answered t w [] [] h = tt
arrive_answered t w (a ∷ answers) [] h = absurd h
arrive_answered t w [] (more s new len ∷ later) h = arrive_answered t (w ++ kept s) [] later h
arrive_answered t w (a ∷ answers) (more s new len ∷ later) h = arrive_answered t (w ++ kept s) (a ∷ answers) later h
arrive_answered t w [] (ending old new next answer ∷ later) h = absurd h
arrive_answered t w (a ∷ answers) (ending old new next answer ∷ later) h = (h.0, arrive_answered t [] answers later h.1)

arrive_unwritten : (t : ℕ) (w : List ℕ) (came : List Arrival) → map (λ m. m.new) (calls t w came) ≡ map (λ m. m.old) (calls t w came) → Unwritten came
unfolding calls
arrive_unwritten t w [] e = tt
arrive_unwritten t w (more s new len ∷ later) e = arrive_unwritten t (w ++ kept s) later e
arrive_unwritten t w (ending old new next answer ∷ later) e =
    let here : new ≡ old = cc in
    let rest : map (λ m. m.new) (calls t [] later) ≡ map (λ m. m.old) (calls t [] later) = cc in
    (here, arrive_unwritten t [] later rest)

-- FREED: the three lines, behind a line that waits and in any pieces, leave the tablet Idle, nothing waiting, and all else as it was
pub arrive_frees : (t : ℕ) → t < 30 → (w : List ℕ) (i : Intake) (k : Reached i.memory) (came : List Arrival) → Unfinished w i → came_in came ≡ freeing → Arrive t i came
    → FreedIn k.class t w came (behind_all i came)
arrive_frees t l w i k came u e h =
    let lines : map (λ m. m.what) (calls t w came) ≡ freeing_calls t w =
    arrive_lines t w i came h ∙ ap (λ s. map (hears t) (pour w s).lines) e ∙ ap (λ (p : Poured). map (hears t) p.lines) (pour_freeing w) in
    let f : FreedByCalls k.class t w (calls t w came) (behind_all i came).memory =
    rw (arrive_memory t w i came) at (chain_frees i.memory k t l w (calls t w came) lines (arrive_chain t w i came u h)) in
    let nothing : Unfinished [] (behind_all i came) = rw (e, pour_freeing w) at (arrive_waits t w i came u h) in
    record {
      reached = f.reached;
      freed = f.freed;
      nothing = nothing;
      answered = arrive_answered t w (freeing_answers (k.class.tablet t).session w) came f.reports;
      unwritten = arrive_unwritten t w came f.unwritten;
    }

-- FOR EVER: where benches agreed but for the tablet, what it sends later, in whatever pieces, is the same calls with the same answers, bytes and memory, if the same buffers are lent. Of other calls
-- too this holds (`freed_for_ever`)
pub arrive_for_ever : (t : ℕ) (c c' : Class) → AgreeBut t c c' → (w w' : List ℕ) (came came' : List Arrival) (i i' : Intake) → FreedIn c t w came i → FreedIn c' t w' came' i'
    → (later later' : List Arrival) → came_in later ≡ came_in later' → map (λ m. m.old) (calls t [] later) ≡ map (λ m. m.old) (calls t [] later')
    → Arrive t i later → Arrive t i' later' → calls t [] later ≡ calls t [] later'
arrive_for_ever t c c' agree w w' came came' i i' f f' later later' e old h h' =
    freed_for_ever t c c' agree i.memory i'.memory f.reached f'.reached f.freed f'.freed (calls t [] later) (calls t [] later')
    (arrive_lines t [] i later h ∙ ap (λ s. map (hears t) (pour [] s).lines) e ∙ sym (arrive_lines t [] i' later' h')) old
    (arrive_chain t [] i later f.nothing h) (arrive_chain t [] i' later' f'.nothing h')
