-- The memory of a bench, and what a call promises from memory that calls lead to.
use Rattle.std.specs.Prelude.{ℕ, ◌≡◌, List, length, Result}
use Rattle.paper.specs.Bench as P
use Rattle.paper.specs.Line.{kept}
use Rattle.paper.specs.State.{Sane}
use Rattle.command.specs.View.{width}
use Rattle.command.specs.Answer.{Meets}
use Rattle.command.specs.declared.Refusal.{Refusal}
use Rattle.session.specs.Memory.{Session, Shelf, packed_session, packed_shelf, Opens}
use Rattle.session.specs.Outcome.{after_line}
use Rattle.seats.specs.Numbers.{held_in, filed_in}

-- the memory of a bench: the forms' texts and names, the lengths of both, their plans and the store's numbers; the draft's name and text,
-- the answers, what they are worth, and the session's numbers
pub record Memory : Type 0 where
  pub all : List ℕ
  pub names : List ℕ
  pub texts : List ℕ
  pub lens : List ℕ
  pub plans : List ℕ
  pub filed : List ℕ
  pub name : List ℕ
  pub text : List ℕ
  pub answers : List ℕ
  pub values : List ℕ
  pub held : List ℕ

-- the memory that the slices are
abbrev pub memory_of : (all names texts lens plans filed name text answers values held : List ℕ) → Memory
memory_of all names texts lens plans filed name text answers values held =
    record { all = all; names = names; texts = texts; lens = lens; plans = plans; filed = filed; name = name; text = text; answers = answers; values = values; held = held }

-- a shelf and a session in memory
unfoldable pub laid : Shelf → Session → Memory
laid t s =
    record {
      all = t.store.text;
      names = t.store.names;
      texts = t.store.texts;
      lens = t.store.lens;
      plans = t.plans;
      filed = filed_in t.store;
      name = s.name;
      text = s.text;
      answers = s.answers;
      values = s.values;
      held = held_in s.held;
    }

-- the memory of the paper's bench, with form n held open
unfoldable pub packed_bench : P.Bench → ℕ → Memory
packed_bench b n = laid (packed_shelf b.forms) (packed_session b.forms n b.session)

-- memory of a bench of which all holds that holds of those that calls lead to; a session among others is led to by their calls too
pub record Reached (self : Memory) : Type 0 where
  pub paper : P.Bench
  pub number : ℕ
  pub sane : Sane width paper
  pub opens : Opens paper.forms number paper.session
  pub is : self ≡ packed_bench paper number

-- `new`: the memory of a bench that has just begun, whatever number is held
pub record Begins (self : Memory) : Type 0 where
  pub reached : Reached self
  pub is : (n : ℕ) → self ≡ packed_bench P.begin n

-- `hear`: the paper's answer with the lent buffer, and the memory of the bench that it leaves
pub record HearsLine (self : Memory) (s old : List ℕ) (next : Memory) (new : List ℕ) (r : Result ℕ Refusal) : Type 0 where
  pub reached : Reached next
  pub meets : (k : Reached self) → Meets (P.hear width (length old) k.paper s).answer old new r
  pub leaves : (k : Reached self) → next ≡ packed_bench (P.hear width (length old) k.paper s).next (after_line k.number k.paper.forms k.paper.session (kept s))

-- `take`: the same of a set
pub record TakesSet (self : Memory) (old : List ℕ) (next : Memory) (new : List ℕ) (r : Result ℕ Refusal) : Type 0 where
  pub reached : Reached next
  pub meets : (k : Reached self) → Meets (P.take_set (length old) k.paper).answer old new r
  pub leaves : (k : Reached self) → next ≡ packed_bench (P.take_set (length old) k.paper).next k.number
