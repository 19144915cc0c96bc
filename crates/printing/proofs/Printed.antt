-- Printing: `P`, and each set that is taken.
use Prim.Native.Nat.{ℕ, suc, ◌+◌, ◌-◌, ◌≤◌, ◌<◌}
use mathlib.Core.Path.{◌≡◌, refl, sym, ◌∙◌, ap}
use mathlib.Core.Bool.{Bool, true, false}
use mathlib.Core.List.{List, [], ◌∷◌}
use native.Mathlib.Omega.{arith}
use denote.Enum.Declared.{tag_of}
use lib.ListN.{length, take}
use lib.Dec.{leb, eqb}
use borrow.Author.Tests.{eq-eqb, ne_eqb}
use Rattle.std.specs.Prelude.{Result, Ok, Err}
use Rattle.paper.specs.Command.{Command, FormLine, print}
use Rattle.paper.specs.Form.{Form, asked}
use Rattle.paper.specs.Set.{all_hold, set_of}
use Rattle.paper.specs.Refusal as R
use Rattle.paper.specs.Bench as P
use Rattle.paper.proofs.Law.{if_true, if_false}
use Rattle.command.specs.View.{refusal_of}
use Rattle.command.specs.Answer.{Meets, Reports}
use Rattle.command.specs.declared.Refusal.{Refusal}
use Rattle.command.specs.declared.Refusal.TheVariants as W
use Rattle.normal.proofs.Lent.{front_length}
use Rattle.set.specs.Taking.{Filled, Taking, Holds, Puts}
use Rattle.session.specs.Memory.{Session, Shelf, drafts, drafting, holds, holding, packed_session, packed_shelf, after_command, Lies}
use Rattle.session.specs.Outcome.{At, Planned, Showing, Does, Minds, Follows, Refuses, Takes, Gives, Onward, Advances, obey, handed}
use Rattle.session.specs.declared.state.Mode.TheVariants as M
use Rattle.session.specs.contracts.state.Mode as Mode
use Rattle.session.proofs.Held.{Tagged, wrong, seen, IsReady, does_done, does_refused, does_refuse}
use Rattle.session.proofs.Lending.{hands_bytes, front_within, hands_made}
use Rattle.printing.proofs.Standing.{in_state, moves_open, part_of, plan_at, open_answers, open_values, open_plan, open_text, sound_at, opens_at}

-- a command that is obeyed beside every shelf is obeyed beside these plans
pub minds_follows : (session : Session) (plans : List ℕ) (c : Command) (answer : Result ℕ Refusal) (next : Session) → Minds session c answer next → Follows session plans c answer next
minds_follows session plans c answer next m = record { follows = λ store. m.minds (record { store = store; plans = plans }) }

module _ (session : Session) (h : Tagged (5 ∷ []) session) where
  module _ (shelf : Shelf) (a : At session shelf) where
    -- a form that is ready
    readied : IsReady a.state
    readied = seen 5 session a.forms a.number a.state a.here h

    -- its memory
    ready_here : session ≡ holding M.Ready a.forms a.number readied.lines readied.given
    unfolding packed_session
    ready_here = a.here ∙ ap (packed_session a.forms a.number) readied.is

    -- is a plan with its values
    ready_at : Filled (plan_at shelf.plans session.held.form) session.values
    ready_at =
        let s = sound_at session shelf a _ readied.is in
        record {
          lines = readied.lines;
          given = readied.given;
          planned = open_plan session M.Ready _ _ _ _ ready_here shelf a.there a.sane.forms (opens_at session shelf a _ readied.is);
          valued = open_values session M.Ready _ _ _ _ ready_here;
          storable = s.0;
          fit = s.1;
        }

  pub ready_filled : (plans : List ℕ) → Planned session plans → Filled (plan_at plans session.held.form) session.values
  ready_filled plans p = ready_at (record { store = p.store; plans = plans }) p.at

  module _ (plans : List ℕ) (sets copies : ℕ) (u : Bool) (k : Holds (plan_at plans session.held.form) session.values (sets - 1) u) where
    -- some counter does not hold
    pub print_overruns : (answer : Result ℕ Refusal) (next : Session) → u ≡ false → Refuses W.Overrun session answer next → Follows session plans (print sets copies) answer next
    unfolding obey after_command P.in_ready refusal_of ready_at
    print_overruns answer next n r =
        record {
          follows = λ store. record {
            heeds = λ b. record {
              obeys = λ a. let shelf : Shelf = record { store = store; plans = plans } in
                  let y = readied shelf a in
                  let same : all_hold (sets - 1) (asked y.lines) y.given ≡ false = sym (k.holds (ready_at shelf a)) ∙ n in
                  rw (y.is, same, if_false)
                  (does_refuse W.Overrun session answer next r shelf a.forms a.number (P.ready y.lines y.given) b
                  (a.here ∙ ap (packed_session a.forms a.number) y.is) a.there);
            };
          };
        }

    -- all do
    pub print_goes : u ≡ true → Follows session plans (print sets copies) (Ok 0) (in_state session (M.Printing sets copies 0))
    unfolding obey after_command P.in_ready packed_session ready_at
    print_goes yes' =
        record {
          follows = λ store. record {
            heeds = λ b. record {
              obeys = λ a. let shelf : Shelf = record { store = store; plans = plans } in
                  let y = readied shelf a in
                  let same : all_hold (sets - 1) (asked y.lines) y.given ≡ true = sym (k.holds (ready_at shelf a)) ∙ yes' in
                  rw (y.is, same, if_true)
                  (does_done (in_state session (M.Printing sets copies 0)) shelf a.forms a.number (P.printing y.lines y.given sets copies 0) b
                  (moves_open session _ _ _ _ _ _ (ready_here shelf a)) a.there);
            };
          };
        }

module _ (text answers plan values : List ℕ) (copies i : ℕ) (out mid : List ℕ) (next : ℕ) (w : Puts text answers plan values copies i out mid next) where
  -- a set that was made lies in its buffer
  pub set_within : Taking text answers plan values copies i → next ≤ length mid
  set_within t = front_within out _ mid next (w.puts t)

  -- with its length
  pub set_size : Taking text answers plan values copies i → next ≡ length (take next mid)
  set_size t = front_length out _ mid next (w.puts t)

  -- and is handed on
  pub set_handed : (old new : List ℕ) (r : Result ℕ Refusal) → Meets (handed (length old) (take next mid)) old new r → Gives text answers plan values copies i old new r
  set_handed old new r m = record { gives = λ t. hands_made out mid old new _ next r (w.puts t) m }

  -- or was made where it belongs
  pub set_given : Gives text answers plan values copies i out mid (Ok next)
  set_given = record { gives = λ t. hands_bytes out _ mid next (w.puts t) }

-- bytes that had room: the state goes on
pub replies_on : (bytes old new : List ℕ) (answer : Result ℕ Refusal) (len : ℕ) (next : Session) (shelf : Shelf) (fs : List Form) (n : ℕ) (stay go : P.Session)
    → Meets (handed (length old) bytes) old new answer → answer ≡ Ok len → next ≡ packed_session fs n go → shelf ≡ packed_shelf fs
    → Does (P.replied (length old) bytes fs stay go) n old new answer next shelf
unfolding handed P.replied P.outcome Reports
replies_on bytes old new answer len next shelf fs n stay go m e f g = by (leb (length bytes) (length old)) refl
  where
    by : (t : Bool) → leb (length bytes) (length old) ≡ t → Does (P.replied (length old) bytes fs stay go) n old new answer next shelf
    by true q = rw (q, if_true) (record { meets = rw (q, if_true) at m; session = f; shelf = g })
    by false q = absurd (rw (q, if_false, e) at m.reports)

-- bytes that had not: it stays
pub replies_not : (bytes old new : List ℕ) (answer : Result ℕ Refusal) (why : Refusal) (next : Session) (shelf : Shelf) (fs : List Form) (n : ℕ) (stay go : P.Session)
    → Meets (handed (length old) bytes) old new answer → answer ≡ Err why → next ≡ packed_session fs n stay → shelf ≡ packed_shelf fs
    → Does (P.replied (length old) bytes fs stay go) n old new answer next shelf
unfolding handed P.replied P.outcome Reports
replies_not bytes old new answer why next shelf fs n stay go m e f g = by (leb (length bytes) (length old)) refl
  where
    by : (t : Bool) → leb (length bytes) (length old) ≡ t → Does (P.replied (length old) bytes fs stay go) n old new answer next shelf
    by true q = absurd (rw (q, if_true, e) at m.reports)
    by false q = rw (q, if_false) (record { meets = rw (q, if_false) at m; session = f; shelf = g })

-- a session that prints so many sets
pub record Prints (st : P.Session) (sets copies out : ℕ) : Type 0 where
  pub lines : List FormLine
  pub given : List (List ℕ)
  pub is : st ≡ P.printing lines given sets copies out

-- the same numbers in memory are the same on paper
same_numbers : (ls : List FormLine) (given : List (List ℕ)) (k c i sets copies out : ℕ) → M.Printing k c i ≡ M.Printing sets copies out
    → P.printing ls given k c i ≡ P.printing ls given sets copies out
same_numbers ls given k c i sets copies out e =
    let a : k ≡ sets = cc in
    let b : c ≡ copies = cc in
    let d : i ≡ out = cc in
    rw (a, b, d)

-- what is printed, by its memory
pub prints : (session : Session) (fs : List Form) (n : ℕ) (st : P.Session) (sets copies out : ℕ) → session ≡ packed_session fs n st → session.held.mode ≡ M.Printing sets copies out
    → Prints st sets copies out
unfolding packed_session holding holds
prints session fs n st sets copies out e h =
    let p = seen 6 session fs n st e (ap (tag_of Mode.the_type) h) in
    record {
      lines = p.lines;
      given = p.given;
      is = p.is
          ∙ same_numbers p.lines p.given p.sets p.copies p.out sets copies out (sym (ap (λ x. x.held.mode) (e ∙ ap (packed_session fs n) p.is)) ∙ h);
    }

module _ (session : Session) (sets copies out : ℕ) (h : session.held.mode ≡ M.Printing sets copies out) where
  module _ (shelf : Shelf) (a : At session shelf) where
    -- what is printed
    printed : Prints a.state sets copies out
    printed = prints session a.forms a.number a.state sets copies out a.here h

    -- its state
    printed_here : session ≡ packed_session a.forms a.number (P.printing printed.lines printed.given sets copies out)
    printed_here = a.here ∙ ap (packed_session a.forms a.number) printed.is

    -- a set is taken of it
    printed_at : Taking (part_of shelf.store.text session.held.start (session.held.start + session.held.size)) (take session.held.given session.answers) (plan_at shelf.plans session.held.form) session.values copies out
    unfolding packed_session
    printed_at =
        let s = sound_at session shelf a _ printed.is in
        let lies : Lies a.forms a.number printed.lines = opens_at session shelf a _ printed.is in
        record {
          form = record {
            filled = record {
              lines = printed.lines;
              given = printed.given;
              planned = open_plan session (M.Printing sets copies out) _ _ _ _ printed_here shelf a.there a.sane.forms lies;
              valued = open_values session (M.Printing sets copies out) _ _ _ _ printed_here;
              storable = s.0;
              fit = s.1;
            };
            is = open_text session (M.Printing sets copies out) _ _ _ _ printed_here shelf a.there a.sane.forms lies;
            answered = open_answers session (M.Printing sets copies out) _ _ _ _ printed_here;
          };
          sets = sets;
          printing = s.2;
        }

    -- one is left, of not too many
    printed_left : out < 65535
    printed_left = let s = sound_at session shelf a _ printed.is in omega (arith, s.2.left, s.2.counted)

  -- in memory: a set is taken
  pub printed_taking : (all plans : List ℕ) → Showing session all plans
      → Taking (part_of all session.held.start (session.held.start + session.held.size)) (take session.held.given session.answers) (plan_at plans session.held.form) session.values copies out
  printed_taking all plans s = rw (s.texts, s.planned) at (printed_at s.shelf s.at)

  -- and the session goes on
  pub printed_onward : (all plans : List ℕ) → Showing session all plans → Onward session sets copies out
  printed_onward all plans s = record { kept = record { shelf = s.shelf; at = s.at }; is = h; few = printed_left s.shelf s.at }

  module _ (all plans old new : List ℕ) (answer : Result ℕ Refusal)
      (g : Gives (part_of all session.held.start (session.held.start + session.held.size)) (take session.held.given session.answers) (plan_at plans session.held.form) session.values copies out old new answer) where
    -- what is handed on is the set
    given_set : (shelf : Shelf) → shelf.store.text ≡ all → shelf.plans ≡ plans → (a : At session shelf) → Meets (handed (length old) (set_of (printed shelf a).lines (printed shelf a).given copies out)) old new answer
    unfolding printed_at
    given_set shelf p q a = (rw (← p, ← q) at g).gives (printed_at shelf a)

    -- a set that has no room
    pub takes_short : (why : Refusal) → answer ≡ Err why → Takes session all plans old new (Err why) session
    unfolding P.taken
    takes_short why e =
        let t : Takes session all plans old new answer session = record {
          takes = λ shelf p q a. let y = printed shelf a in
              rw y.is (replies_not _ old new answer why session shelf a.forms a.number _ _ (given_set shelf p q a) e (printed_here shelf a) a.there);
        } in
        rw e at t

    -- and one that has: the session goes on
    pub takes_set : (len : ℕ) (next : Session) → answer ≡ Ok len → Advances session sets copies out next → Takes session all plans old new (Ok len) next
    unfolding P.taken
    takes_set len next e f =
        let t : Takes session all plans old new answer next = record {
          takes = λ shelf p q a. let y = printed shelf a in
              rw y.is
              (replies_on _ old new answer len next shelf a.forms a.number _ _ (given_set shelf p q a) e (f.advances _ _ _ _ (printed_here shelf a)) a.there);
        } in
        rw e at t

-- after the last set Idle
pub goes_idle : (session next : Session) (sets copies out : ℕ) → out + 1 ≡ sets → next ≡ drafting M.Idle [] [] → Advances session sets copies out next
unfolding P.after_set packed_session
goes_idle session next sets copies out l f =
    let last : eqb (suc out) sets ≡ true = eq-eqb (suc out) sets (omega arith) in
    record { advances = λ fs n ls given e. rw (last, if_true) f }

-- else one set more is out
pub goes_onward : (session : Session) (sets copies out : ℕ) → (out + 1 ≡ sets → ⊥) → Advances session sets copies out (in_state session (M.Printing sets copies (out + 1)))
unfolding P.after_set packed_session
goes_onward session sets copies out l =
    let one : out + 1 ≡ suc out = omega arith in
    let more : eqb (suc out) sets ≡ false = ne_eqb (suc out) sets (λ q. l (one ∙ q)) in
    record { advances = λ fs n ls given e. rw (more, if_false) (moves_open session _ _ fs n ls given e ∙ rw one) }

-- a take where nothing is printed
pub takes_nothing : (session : Session) (all plans b : List ℕ) → Tagged (0 ∷ 1 ∷ 2 ∷ 3 ∷ 4 ∷ 5 ∷ []) session → Takes session all plans b b (Err W.NotPrinting) session
unfolding refusal_of P.taken packed_session drafting drafts holding holds
takes_nothing session all plans b h =
    record {
      takes = λ shelf p q a. rw (nothing a.forms a.number a.state a.here)
          (does_refused W.NotPrinting session shelf a.forms a.number a.state b a.here a.there);
    }
  where
    nothing : (fs : List Form) (n : ℕ) (st : P.Session) → session ≡ packed_session fs n st → P.taken (length b) fs st ≡ P.outcome (R.refused R.not_printing) fs st
    nothing fs n P.idle e = refl
    nothing fs n (P.collecting name ls) e = refl
    nothing fs n P.spoiled e = refl
    nothing fs n (P.opened ls) e = refl
    nothing fs n (P.answering ls given) e = refl
    nothing fs n (P.ready ls given) e = refl
    nothing fs n (P.printing ls given k c i) e = absurd (wrong (0 ∷ 1 ∷ 2 ∷ 3 ∷ 4 ∷ 5 ∷ []) session fs n (P.printing ls given k c i) e h tt)
