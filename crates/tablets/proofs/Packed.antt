-- The memory of the paper's class seats each of its tablets: a form that is held open is stored under its name, so it lies at the number
-- of that name, and every part has its width.
use Prim.Native.Nat.{ℕ, ◌<◌}
use mathlib.Core.Path.{◌≡◌, refl, ◌∙◌, ap}
use mathlib.Core.List.{List}
use mathlib.Core.Option.{some}
use lib.ListN.{length}
use Rattle.paper.specs.Command.{FormLine}
use Rattle.paper.specs.Form.{Form, find}
use Rattle.paper.specs.Bench as P
use Rattle.paper.specs.State.{Sane}
use Rattle.paper.specs.Class.{Class, desk, open_lines, printers, SaneClass}
use Rattle.paper.proofs.ClassSane.{desk_sane}
use Rattle.command.specs.View.{width}
use Rattle.text.proofs.Padded.{padded_length}
use Rattle.session.specs.Memory.{Session, packed_session, packed_shelf, Opens, number_of}
use Rattle.session.specs.Outcome.{Fills, Used}
use Rattle.session.proofs.Used.{kept_used}
use Rattle.call.specs.Call.{Memory}
use Rattle.call.proofs.Leading.{found_lies}
use Rattle.lend.specs.Laid.{Sized, Seated, Sits}
use Rattle.tablets.specs.Calls.{packed_tablet, packed_with, packed_class, Reached}
use Rattle.tablets.proofs.Leading.{reached_sane}

-- what a session holds open lies at the number of its name
held_opens : (fs : List Form) (form : List ℕ) (st : P.Session) → ((ls : List FormLine) → open_lines st ≡ some ls → find form fs ≡ some ls) → Opens fs (number_of form fs) st
unfolding open_lines
held_opens fs form P.idle h = tt
held_opens fs form (P.collecting name ls) h = tt
held_opens fs form P.spoiled h = tt
held_opens fs form (P.opened ls) h = found_lies form fs ls (h ls refl)
held_opens fs form (P.answering ls given) h = found_lies form fs ls (h ls refl)
held_opens fs form (P.ready ls given) h = found_lies form fs ls (h ls refl)
held_opens fs form (P.printing ls given n c i) h = found_lies form fs ls (h ls refl)

-- used bytes and zeros behind them have the memory's length
fills_whole : (size : ℕ) (memory : List ℕ) (used : ℕ) → Fills size memory used → length memory ≡ size
fills_whole size memory used f = ap length f.is ∙ padded_length size f.bytes f.room

used_sized : (s : Session) → Used s → Sized s
used_sized s u =
    record {
      name = fills_whole 16 s.name _ u.name;
      text = fills_whole 1024 s.text _ u.text;
      answers = fills_whole 1700 s.answers _ u.answers;
      values = u.values;
    }

-- the parts of a sane session have their lengths
pub packed_sized : (fs : List Form) (n : ℕ) (st : P.Session) → Sane width (record { forms = fs; session = st }) → Opens fs n st → Sized (packed_session fs n st)
packed_sized fs n st sane opens =
    used_sized (packed_session fs n st)
    (kept_used (packed_session fs n st) (record { shelf = packed_shelf fs; at = record { forms = fs; state = st; number = n; sane = sane; opens = opens; here = refl; there = refl } }))

module _ (c : Class) (s : SaneClass width c) (t : ℕ) (l : t < 30) where
  class_opens : Opens c.forms (number_of (c.tablet t).form c.forms) (c.tablet t).session
  class_opens = held_opens c.forms (c.tablet t).form (c.tablet t).session (s.held t l)

  class_sane : Sane width (record { forms = c.forms; session = (c.tablet t).session })
  unfolding desk
  class_sane = desk_sane width c t s l

  class_sized : Sized (packed_tablet c.forms (c.tablet t))
  unfolding packed_tablet
  class_sized = packed_sized c.forms (number_of (c.tablet t).form c.forms) (c.tablet t).session class_sane class_opens

-- each tablet of memory that calls lead to sits at its seat
pub packed_seated : (self : Memory) (k : Reached self) (t : ℕ) → t < 30
    → Seated self t k.class.forms (λ j. packed_tablet k.class.forms (k.class.tablet j)) (number_of (k.class.tablet t).form k.class.forms) (k.class.tablet t).session k.class.last (printers k.class)
unfolding packed_tablet packed_with packed_class
packed_seated self k t l =
    let s : SaneClass width k.class = reached_sane self k in
    record {
      below = l;
      sized = class_sized k.class s;
      sane = class_sane k.class s t l;
      opens = class_opens k.class s t l;
      here = refl;
      is = k.is;
    }

-- so it may be called
pub packed_sits : (self : Memory) (t : ℕ) → Reached self → t < 30 → Sits self t
packed_sits self t k l =
    record {
      forms = k.class.forms;
      sessions = λ j. packed_tablet k.class.forms (k.class.tablet j);
      number = number_of (k.class.tablet t).form k.class.forms;
      state = (k.class.tablet t).session;
      last = k.class.last;
      printing = printers k.class;
      seated = packed_seated self k t l;
    }
