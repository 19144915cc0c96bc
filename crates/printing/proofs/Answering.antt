-- Asking and answering.
use Prim.Native.Nat.{ℕ, zero, suc, ◌+◌, ◌≤◌, ◌<◌}
use mathlib.Core.Path.{◌≡◌, refl, sym, ◌∙◌, ap}
use mathlib.Core.Bool.{true, false}
use mathlib.Core.List.{List, [], ◌∷◌, ◌++◌}
use native.Mathlib.Omega.{arith}
use lib.ListN.{length, take, drop, get_or, replicate, length-append, length-drop}
use lib.Dec.{ltb}
use borrow.Author.Tests.{eq-eqb, ne_eqb, le-ltb, lt-ltb, ltb-true, ltb-false}
use Rattle.std.specs.Prelude.{Result, Ok, Option, Some, None}
use Rattle.paper.specs.Byte.{every}
use Rattle.paper.specs.Line.{long, control}
use Rattle.paper.specs.Command as C
use Rattle.paper.specs.Command.{Define, FormLine, ask, is_shown}
use Rattle.paper.specs.Set.{fits}
use Rattle.paper.specs.Form.{Form, asked}
use Rattle.paper.specs.Read.{Reading, command, unread}
use Rattle.paper.specs.State.{Storable, fitting}
use Rattle.paper.specs.Bench as P
use Rattle.paper.proofs.Invariant.{fitting_more}
use Rattle.paper.proofs.Law.{if_true, if_false}
use Rattle.paper.proofs.Test.{either}
use Rattle.paper.proofs.Text.{clear_control, clear_between}
use Rattle.text.specs.Write.{Writes, padded}
use Rattle.text.proofs.Padded.{padded_length, padded_write}
use Rattle.command.specs.View.{width, refusal_of}
use Rattle.command.specs.declared.Refusal.{Refusal}
use Rattle.command.specs.declared.Refusal.TheVariants as W
use Rattle.form.proofs.Distinct.{asked_few}
use Rattle.store.specs.Packed.{Store}
use Rattle.set.specs.Answers.{answers_text, first_of, second_of, with_answer, values_from, values_in}
use Rattle.set.specs.Taking.{Asking, Notes}
use Rattle.set.specs.Taking as T
use Rattle.set.specs.Judge.{Judges}
use Rattle.set.specs.declared.answer.Kept.{Kept}
use Rattle.set.proofs.Answering.{answers_append, judged_kept, judged_unfit}
use Rattle.set.proofs.Judging.{ask_short}
use Rattle.set.proofs.Planned.{plan_asks}
use Rattle.session.specs.Memory.{Session, Shelf, session_of, holds, holding, packed_session, Lies, if_idle, after_filing, after_command}
use Rattle.session.specs.Outcome.{At, Planned, Does, Minds, Refuses, Hears, Answers, obey, waits_by, unfit_of, after_reading, after_line}
use Rattle.session.specs.declared.state.Mode.{Mode}
use Rattle.session.specs.declared.state.Mode.TheVariants as M
use Rattle.session.proofs.Held.{seen, Tagged, IsAnswering, does_done, does_refuse}
use Rattle.session.proofs.Room.{answers_room}
use Rattle.printing.proofs.Standing.{in_state, moves_open, plan_at, open_values, open_plan, sound_at, opens_at}

-- `?` in Open asks for the first answer
pub asks : (session : Session) → Tagged (3 ∷ []) session → Minds session ask (Ok 0) (in_state session (M.Answering 0))
unfolding obey packed_session after_command P.in_opened
asks session h =
    record {
      minds = λ shelf. record {
        heeds = λ b. record {
          obeys = λ a. let o = seen 3 session a.forms a.number a.state a.here h in
              rw o.is
              (does_done (in_state session (M.Answering 0)) shelf a.forms a.number (P.answering o.lines []) b
              (moves_open session _ M.Opened a.forms a.number o.lines [] (a.here ∙ ap (packed_session a.forms a.number) o.is)) a.there);
        };
      };
    }

-- behind the last answer all is answered
pub waits_done : (k asked : ℕ) → k ≡ asked → M.Ready ≡ waits_by k asked
unfolding waits_by
waits_done k asked e = rw (eq-eqb k asked e, if_true)

-- behind any other the next is waited for
pub waits_more : (k asked : ℕ) → (k ≡ asked → ⊥) → M.Answering k ≡ waits_by k asked
unfolding waits_by
waits_more k asked n = rw (ne_eqb k asked n, if_false)

-- the definition that is left behind k of them
record Left (ds : List Define) (k : ℕ) : Type 0 where
  define : Define
  more : List Define
  is : drop k ds ≡ define ∷ more

left : (ds : List Define) (k : ℕ) → k < length ds → Left ds k
left [] k h = absurd (omega arith)
left (d ∷ ds) zero h = record { define = d; more = ds; is = refl }
left (d ∷ ds) (suc k) h = let l = left ds k (omega arith) in record { define = l.define; more = l.more; is = l.is }

-- the values of answers are those of the first definitions
values_first : (place : ℕ) (values : List ℕ) (ds : List Define) (given : List (List ℕ)) → values_from place values (take (length given) ds) given ≡ values_from place values ds given
unfolding values_from
values_first place values [] [] = refl
values_first place values [] (a ∷ given) = refl
values_first place values (d ∷ ds) [] = refl
values_first place values (d ∷ ds) (a ∷ given) = values_first (place + length a) (with_answer values d a place) ds given

-- an answer is waited for: the form's lines, the answers that are given, and the definition that is next
record Waits (session : Session) (shelf : Shelf) (a : At session shelf) (k : ℕ) : Type 0 where
  lines : List FormLine
  given : List (List ℕ)
  define : Define
  more : List Define
  state : a.state ≡ P.answering lines given
  is : session ≡ holding (M.Answering k) a.forms a.number lines given
  lies : Lies a.forms a.number lines
  storable : Storable width lines
  fit : fitting (take (length given) (asked lines)) given ≡ true
  count : k ≡ length given
  next : drop (length given) (asked lines) ≡ define ∷ more

-- so it is in Answering
waits : (session : Session) (shelf : Shelf) (k : ℕ) (a : At session shelf) → session.held.mode ≡ M.Answering k → Waits session shelf a k
unfolding packed_session holding holds
waits session shelf k a m =
    let i : IsAnswering a.state = seen 4 session a.forms a.number a.state a.here (rw m refl) in
    let is : session ≡ packed_session a.forms a.number (P.answering i.lines i.given) = a.here ∙ ap (packed_session a.forms a.number) i.is in
    let s = sound_at session shelf a _ i.is in
    let same : M.Answering (length i.given) ≡ M.Answering k = sym (ap (λ x. x.held.mode) is) ∙ m in
    let count : k ≡ length i.given = cc in
    let l = left (asked i.lines) (length i.given) s.1 in
    record {
      lines = i.lines;
      given = i.given;
      define = l.define;
      more = l.more;
      state = i.is;
      is = rw count is;
      lies = opens_at session shelf a _ i.is;
      storable = s.0;
      fit = s.2;
      count = count;
      next = l.is;
    }

-- the definition in the form's plan
abbrev asking_at : (session : Session) (shelf : Shelf) (a : At session shelf) (k : ℕ) → Waits session shelf a k → Asking (plan_at shelf.plans session.held.form) k
asking_at session shelf a k w = record {
  lines = w.lines;
  planned = open_plan session (M.Answering k) _ _ _ w.given w.is shelf a.there a.sane.forms w.lies;
  storable = w.storable;
  define = w.define;
  more = w.more;
  is = ap (λ j. drop j (asked w.lines)) w.count ∙ w.next;
}

-- the answers in memory
answers_are_in : (session : Session) (mode : Mode) (fs : List Form) (n : ℕ) (ls : List FormLine) (given : List (List ℕ)) → session ≡ holding mode fs n ls given
    → (session.held.given ≡ length (answers_text given)) × (session.answers ≡ padded 1700 (answers_text given))
unfolding holding holds
answers_are_in session mode fs n ls given e = (ap (λ x. x.held.given) e, ap (λ x. x.answers) e)

-- the paper's state in memory
answering_here : (session : Session) (shelf : Shelf) (a : At session shelf) (k : ℕ) (w : Waits session shelf a k) → session ≡ packed_session a.forms a.number (P.answering w.lines w.given)
unfolding packed_session
answering_here session shelf a k w = w.is ∙ ap (λ j. holding (M.Answering j) a.forms a.number w.lines w.given) w.count

-- the values of all answers that are given
values_all : (ds : List Define) (given : List (List ℕ)) → values_in (take (length given) ds) given ≡ values_in ds given
unfolding values_in
values_all ds given = values_first 0 (replicate 104 0) ds given

-- the answers so far
answering_so : (session : Session) (shelf : Shelf) (a : At session shelf) (k : ℕ) (w : Waits session shelf a k) → T.Answering session.values w.lines k w.given
answering_so session shelf a k w =
    record {
      count = w.count;
      valued = open_values session (M.Answering k) _ _ _ _ w.is ∙ sym (values_all (asked w.lines) w.given) ∙ ap (λ j. values_in (take j (asked w.lines)) w.given) (sym w.count);
      fit = ap (λ j. fitting (take j (asked w.lines)) w.given) w.count ∙ w.fit;
    }

module _ (session : Session) (k : ℕ) (m : session.held.mode ≡ M.Answering k) where
  pub answer_asking : (plans : List ℕ) → Planned session plans → Asking (plan_at plans session.held.form) k
  answer_asking plans p = asking_at session _ p.at k (waits session _ k p.at m)

  -- there are few
  pub answer_count : (plans : List ℕ) → Planned session plans → k < 26
  answer_count plans p =
      let w = waits session (record { store = p.store; plans = plans }) k p.at m in
      let some : length (drop (length w.given) (asked w.lines)) ≡ suc (length w.more) = ap length w.next in
      omega (arith, asked_few w.lines w.storable, some, length-drop (length w.given) (asked w.lines), w.count)

-- no form is opened in Answering
stays_open : (n : ℕ) (fs : List Form) (ls : List FormLine) (given : List (List ℕ)) (r : Reading) → after_reading n fs (P.answering ls given) r ≡ n
unfolding after_reading after_command after_filing if_idle
stays_open n fs ls given (unread r) = refl
stays_open n fs ls given (command C.empty) = refl
stays_open n fs ls given (command C.new) = refl
stays_open n fs ls given (command (C.keep line)) = refl
stays_open n fs ls given (command (C.file (C.start name))) = refl
stays_open n fs ls given (command (C.file C.finish)) = refl
stays_open n fs ls given (command (C.file C.inform)) = refl
stays_open n fs ls given (command (C.file (C.recall name))) = refl
stays_open n fs ls given (command (C.file (C.delete name))) = refl
stays_open n fs ls given (command C.ask) = refl
stays_open n fs ls given (command (C.print sets copies)) = refl

-- a line that is short and without control bytes is the answer to the next definition
hears_answer : (session : Session) (shelf : Shelf) (k : ℕ) (s b : List ℕ) (answer : Result ℕ Refusal) (next : Session) → session.held.mode ≡ M.Answering k → every is_shown s ≡ true → length s ≤ 256
    → ((a : At session shelf) (w : Waits session shelf a k) → Does (P.answered a.forms w.lines w.given s (w.define ∷ w.more)) a.number b b answer next shelf)
    → Hears session shelf s b b answer next shelf
unfolding P.heard P.in_answering long is_shown after_line
hears_answer session shelf k s b answer next m c h d =
    let free : control s ≡ false = clear_control s (clear_between 0x20 0xff (omega arith) s c) in
    record {
      hears = λ a. let w = waits session shelf k a m in
          rw (w.state, stays_open a.number a.forms w.lines w.given, if_false (ltb 256 (length s)) _ _ (le-ltb 256 (length s) h), if_false (control s) _ _ free, w.next) (d a w);
    }

-- one that is too long is refused for that
hears_over : (session : Session) (shelf : Shelf) (k : ℕ) (s b : List ℕ) (answer : Result ℕ Refusal) (next : Session) → session.held.mode ≡ M.Answering k → 256 < length s → Refuses W.TooLong session answer next → Hears session shelf s b b answer next shelf
unfolding P.heard P.in_answering long after_line refusal_of
hears_over session shelf k s b answer next m h f =
    record {
      hears = λ a. let w = waits session shelf k a m in
          rw (w.state, stays_open a.number a.forms w.lines w.given, if_true (ltb 256 (length s)) _ _ (lt-ltb 256 (length s) h))
          (does_refuse W.TooLong session answer next f shelf a.forms a.number (P.answering w.lines w.given) b (answering_here session shelf a k w) a.there);
    }

-- 13: it does not fit
hears_unfit : (session : Session) (shelf : Shelf) (k : ℕ) (s b : List ℕ) (r : Option Kept) (answer : Result ℕ Refusal) (next : Session) → session.held.mode ≡ M.Answering k → every is_shown s ≡ true → length s ≤ 256
    → Judges (plan_at shelf.plans session.held.form) k s session.held.given r → r ≡ None → Refuses W.Unfit session answer next → Hears session shelf s b b answer next shelf
unfolding P.answered refusal_of packed_session
hears_unfit session shelf k s b r answer next m c h j e f =
    hears_answer session shelf k s b answer next m c h
    (λ a w.
    let no' : fits w.define s ≡ false = judged_unfit w.define s session.held.given (sym e ∙ j.judges (asking_at session shelf a k w)) in
    rw (if_false (fits w.define s) _ _ no')
    (does_refuse W.Unfit session answer next f shelf a.forms a.number (P.answering w.lines w.given) b (answering_here session shelf a k w) a.there))

pub answers_unfit : (session : Session) (plans s : List ℕ) (k : ℕ) (r : Option Kept) (answer : Result ℕ Refusal) (next : Session) → session.held.mode ≡ M.Answering k → every is_shown s ≡ true
    → Judges (plan_at plans session.held.form) k s session.held.given r → r ≡ None → Refuses (unfit_of (length s)) session answer next → Answers session plans s answer next
unfolding unfit_of
answers_unfit session plans s k r answer next m c j e f =
    record {
      answers = λ store b. let shelf : Shelf = record { store = store; plans = plans } in
          either (ltb 256 (length s))
          (λ y. hears_over session shelf k s b answer next m (ltb-true 256 (length s) y) (rw (if_true {A = Refusal} _ W.TooLong W.Unfit y) at f))
          (λ n. hears_unfit session shelf k s b r answer next m c (ltb-false 256 (length s) n) j e (rw (if_false {A = Refusal} _ W.TooLong W.Unfit n) at f));
    }

-- why, as the code tells it
pub unfit_long : (n : ℕ) → 256 < n → W.TooLong ≡ unfit_of n
unfolding unfit_of
unfit_long n l = sym (if_true _ _ _ (lt-ltb 256 n l))

pub unfit_short : (n : ℕ) → n ≤ 256 → W.Unfit ≡ unfit_of n
unfolding unfit_of
unfit_short n l = sym (if_false _ _ _ (le-ltb 256 n l))

-- it fits: what is kept of it
record Fitting (s : List ℕ) (given : List (List ℕ)) (define : Define) (first second : ℕ) : Type 0 where
  fit : fits define s ≡ true
  first_is : first ≡ first_of define s (length (answers_text given))
  second_is : second ≡ second_of define s (length (answers_text given))

fits_as : (session : Session) (plans s : List ℕ) (k : ℕ) (r : Option Kept) (kept : Kept) → Judges (plan_at plans session.held.form) k s session.held.given r → r ≡ Some kept
    → (store : Store) (a : At session (record { store = store; plans = plans })) (w : Waits session (record { store = store; plans = plans }) a k) → Fitting s w.given w.define kept.first kept.second
unfolding holding holds
fits_as session plans s k r kept j e store a w =
    let given : session.held.given ≡ length (answers_text w.given) = ap (λ x. x.held.given) w.is in
    let y = judged_kept w.define s session.held.given kept (sym e ∙ j.judges (asking_at session _ a k w)) in
    record { fit = y.0; first_is = y.1 ∙ rw given; second_is = y.2 ∙ rw given }

-- the answers with one more have room
room_next : (ls : List FormLine) (given : List (List ℕ)) (d : Define) (more : List Define) (s : List ℕ) → Storable width ls → drop (length given) (asked ls) ≡ d ∷ more → fitting (take (length given) (asked ls)) given ≡ true → fits d s ≡ true
    → length (answers_text given) + length s ≤ 1700
room_next ls given d more s t e f y =
    omega (arith, answers_room ls (given ++ (s ∷ [])) t (fitting_more (asked ls) given d more s e f y).0, ap length (answers_append given s), length-append (answers_text given) s)

-- in memory too
pub answer_room : (session : Session) (plans s : List ℕ) (k : ℕ) (r : Option Kept) (kept : Kept) → session.held.mode ≡ M.Answering k → Planned session plans
    → Judges (plan_at plans session.held.form) k s session.held.given r → r ≡ Some kept → session.held.given + length s ≤ length session.answers
answer_room session plans s k r kept m p j e =
    let w = waits session (record { store = p.store; plans = plans }) k p.at m in
    let y = fits_as session plans s k r kept j e p.store p.at w in
    let room = room_next w.lines w.given w.define w.more s w.storable w.next w.fit y.fit in
    let (given, answers) = answers_are_in session _ _ _ _ w.given w.is in
    let size : length session.answers ≡ 1700 = rw answers (padded_length 1700 (answers_text w.given) (omega arith)) in
    omega (arith, room, size, given)

-- the memory of the state after an answer
after_memory : (fs : List Form) (n : ℕ) (ls : List FormLine) (given : List (List ℕ)) (more : List Define) → length (asked ls) ≡ length given + length more
    → packed_session fs n (P.answered_of ls given more) ≡ holding (waits_by (length given) (length (asked ls))) fs n ls given
unfolding packed_session P.answered_of
after_memory fs n ls given [] h = ap (λ x. holding x fs n ls given) (waits_done (length given) (length (asked ls)) (omega arith))
after_memory fs n ls given (d ∷ more) h = ap (λ x. holding x fs n ls given) (waits_more (length given) (length (asked ls)) (λ e. omega arith))

-- the session with one answer more
takes_answer : (session : Session) (s answers values : List ℕ) (k given : ℕ) (fs : List Form) (n : ℕ) (ls : List FormLine) (gs : List (List ℕ))
    → session ≡ holding (M.Answering k) fs n ls gs
    → length (answers_text gs) + length s ≤ 1700
    → Writes session.answers session.held.given s answers given
    → values ≡ values_in (asked ls) (gs ++ (s ∷ []))
    → (mode : Mode) → session_of (record { mode = mode; form = session.held.form; start = session.held.start; size = session.held.size; len = session.held.len; drafted = session.held.drafted; given = given }) session.name session.text answers values
    ≡ holding mode fs n ls (gs ++ (s ∷ []))
unfolding holding holds
takes_answer session s answers values k given fs n ls gs e room w v mode =
    let (given-was, answers-was) = answers_are_in session _ _ _ _ gs e in
    let answers-is : answers ≡ padded 1700 (answers_text (gs ++ (s ∷ []))) =
    w.is ∙ rw (answers-was, given-was, answers_append gs s) (padded_write 1700 (answers_text gs) s room) in
    let given_is : given ≡ length (answers_text (gs ++ (s ∷ []))) =
    w.ends ∙ rw (given-was, answers_append gs s) (sym (length-append (answers_text gs) s)) in
    λ j. record {
      held = record { mode = mode; form = (e j).held.form; start = (e j).held.start; size = (e j).held.size; len = (e j).held.len; drafted = (e j).held.drafted; given = given_is j };
      name = (e j).name;
      text = (e j).text;
      answers = answers-is j;
      values = v j;
    }

-- and it is taken
pub answers_fit : (session : Session) (plans s : List ℕ) (k : ℕ) (r : Option Kept) (kept : Kept) (answers : List ℕ) (given : ℕ) (values : List ℕ) (mode : Mode)
    → Planned session plans → session.held.mode ≡ M.Answering k → every is_shown s ≡ true
    → Judges (plan_at plans session.held.form) k s session.held.given r → r ≡ Some kept
    → Writes session.answers session.held.given s answers given
    → Notes session.values (plan_at plans session.held.form) k kept.first kept.second values
    → mode ≡ waits_by (k + 1) (get_or (plan_at plans session.held.form) 0 0)
    → Answers session plans s (Ok 0) (session_of (record { mode = mode; form = session.held.form; start = session.held.start; size = session.held.size; len = session.held.len; drafted = session.held.drafted; given = given }) session.name session.text answers values)
unfolding P.answered
answers_fit session plans s k r kept answers given values mode p m c j e w v q =
    let t₀ = waits session (record { store = p.store; plans = plans }) k p.at m in
    let short = ask_short (plan_at plans session.held.form) k s (asking_at session _ p.at k t₀) (fits_as session plans s k r kept j e p.store p.at t₀).fit in
    record {
      answers = λ store b. let shelf : Shelf = record { store = store; plans = plans } in
          hears_answer session shelf k s b _ _ m c (omega (arith, short))
          (λ a x.
          let y = fits_as session plans s k r kept j e store a x in
          let gs = x.given in
          let one : length (gs ++ (s ∷ [])) ≡ suc (length gs) = omega (arith, length-append gs (s ∷ [])) in
          let next : k + 1 ≡ length (gs ++ (s ∷ [])) = omega (arith, one, x.count) in
          let t = asking_at session shelf a k x in
          let count = (fitting_more (asked x.lines) gs x.define x.more s x.next x.fit y.fit).1 in
          let before : T.Answering session.values x.lines k gs = answering_so session shelf a k x in
          let values-are : values ≡ values_in (asked x.lines) (gs ++ (s ∷ [])) =
          v.notes t gs s before y.first_is y.second_is ∙ rw next (values_all (asked x.lines) (gs ++ (s ∷ []))) in
          let mode-is : mode ≡ waits_by (length (gs ++ (s ∷ []))) (length (asked x.lines)) = q ∙ rw (t.planned, plan_asks x.lines, next) in
          let room = room_next x.lines gs x.define x.more s x.storable x.next x.fit y.fit in
          rw (if_true (fits x.define s) _ _ y.fit)
          (does_done _ shelf a.forms a.number (P.answered_of x.lines (gs ++ (s ∷ [])) x.more) b
          (takes_answer session s answers values k given _ _ _ gs x.is room w values-are mode
          ∙ ap (λ i. holding i a.forms a.number x.lines (gs ++ (s ∷ []))) mode-is
          ∙ sym (after_memory a.forms a.number x.lines (gs ++ (s ∷ [])) x.more count)) a.there));
    }
