-- Thirty sessions beside one store in memory, and what a call of one of them promises: what it promises of that session alone, and
-- that every other stays.
use Rattle.std.specs.Prelude.{ℕ, ◌<◌, ◌≡◌, List, [], ◌∷◌, ◌++◌, length, Result}
use Rattle.paper.specs.Line.{kept}
use Rattle.paper.specs.Form.{Form}
use Rattle.paper.specs.Bench as P
use Rattle.paper.specs.State.{Sane}
use Rattle.paper.specs.Class.{seat}
use Rattle.command.specs.View.{width}
use Rattle.command.specs.Answer.{Meets}
use Rattle.command.specs.declared.Refusal.{Refusal}
use Rattle.session.specs.Memory.{Session, Shelf, packed_session, packed_shelf, Opens}
use Rattle.session.specs.Outcome.{after_line}
use Rattle.seats.specs.Numbers.{filed_in}
use Rattle.seats.specs.Seats.{flat, numbers_of}
use Rattle.call.specs.Call.{Memory}

-- the numbers of thirty sessions, and behind them the tablet last served and how many print
unfoldable pub numbered : (ℕ → Session) → (last printing : ℕ) → List ℕ
numbered f last printing = numbers_of (λ k. (f k).held) ++ (last ∷ printing ∷ [])

-- a shelf and thirty sessions in memory: of each slice that a session has one, thirty parts of equal width
unfoldable pub laid_out : Shelf → (ℕ → Session) → (last printing : ℕ) → Memory
laid_out shelf f last printing =
    record {
      all = shelf.store.text;
      names = shelf.store.names;
      texts = shelf.store.texts;
      lens = shelf.store.lens;
      plans = shelf.plans;
      filed = filed_in shelf.store;
      name = flat (λ k. (f k).name) 0 30;
      text = flat (λ k. (f k).text) 0 30;
      answers = flat (λ k. (f k).answers) 0 30;
      values = flat (λ k. (f k).values) 0 30;
      held = numbered f last printing;
    }

-- a session's parts have their lengths
pub record Sized (s : Session) : Type 0 where
  pub name : length s.name ≡ 16
  pub text : length s.text ≡ 1024
  pub answers : length s.answers ≡ 1700
  pub values : length s.values ≡ 104

-- tablet t has the session st before a store of these forms, among thirty sessions
pub record Seated (self : Memory) (t : ℕ) (fs : List Form) (f : ℕ → Session) (n : ℕ) (st : P.Session) (last printing : ℕ) : Type 0 where
  pub below : t < 30
  pub sized : (k : ℕ) → k < 30 → Sized (f k)
  pub sane : Sane width (record { forms = fs; session = st })
  pub opens : Opens fs n st
  pub here : f t ≡ packed_session fs n st
  pub is : self ≡ laid_out (packed_shelf fs) f last printing

-- some session
pub record Sits (self : Memory) (t : ℕ) : Type 0 where
  pub forms : List Form
  pub sessions : ℕ → Session
  pub number : ℕ
  pub state : P.Session
  pub last : ℕ
  pub printing : ℕ
  pub seated : Seated self t forms sessions number state last printing

-- a line is heard at its seat as on the bench of 01, and all else stays
pub record SeatHears (self : Memory) (t : ℕ) (s old : List ℕ) (next : Memory) (new : List ℕ) (r : Result ℕ Refusal) : Type 0 where
  pub meets : (fs : List Form) (f : ℕ → Session) (n : ℕ) (st : P.Session) (last printing : ℕ) → Seated self t fs f n st last printing
      → Meets (P.hear width (length old) (record { forms = fs; session = st }) s).answer old new r
  pub leaves : (fs : List Form) (f : ℕ → Session) (n : ℕ) (st : P.Session) (last printing : ℕ) → Seated self t fs f n st last printing
      → next ≡ laid_out (packed_shelf (P.hear width (length old) (record { forms = fs; session = st }) s).next.forms)
      (seat t (packed_session (P.hear width (length old) (record { forms = fs; session = st }) s).next.forms (after_line n fs st (kept s)) (P.hear width (length old) (record { forms = fs; session = st }) s).next.session) f) last printing

-- and so is a set
pub record SeatTakes (self : Memory) (t : ℕ) (old : List ℕ) (next : Memory) (new : List ℕ) (r : Result ℕ Refusal) : Type 0 where
  pub meets : (fs : List Form) (f : ℕ → Session) (n : ℕ) (st : P.Session) (last printing : ℕ) → Seated self t fs f n st last printing
      → Meets (P.take_set (length old) (record { forms = fs; session = st })).answer old new r
  pub leaves : (fs : List Form) (f : ℕ → Session) (n : ℕ) (st : P.Session) (last printing : ℕ) → Seated self t fs f n st last printing
      → next ≡ laid_out (packed_shelf fs) (seat t (packed_session fs n (P.take_set (length old) (record { forms = fs; session = st })).next.session) f) last printing
