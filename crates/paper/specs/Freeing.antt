-- 'Three lines that always free the bench' (L12): a line of the single byte 01H, behind whatever waits of an unfinished line; `FE`; and `N`.
use Rattle.std.specs.Prelude.{ℕ, List, [], ◌∷◌, ◌++◌, false, eqb, ◌<◌, ◌≡◌}
use Rattle.paper.specs.Byte.{bytes, when◌then◌else◌}
use Rattle.paper.specs.Line.{lf, kept, long}
use Rattle.paper.specs.Refusal.{Refusal, too_long, control_byte, not_now, is_spoiled, Answer, accepted, refused}
use Rattle.paper.specs.Bench.{Session, idle}
use Rattle.paper.specs.Class.{Tablet, Class, collects, Request, sends}

-- the bytes of an unfinished line, and 01H behind them
unfoldable pub broken : List ℕ → List ℕ
broken waiting = waiting ++ (1 ∷ [])

-- the three lines as bytes of input, which end the line that waits
unfoldable pub freeing : List ℕ
freeing = (1 ∷ lf ∷ []) ++ bytes "FE" ++ (lf ∷ []) ++ bytes "N" ++ (lf ∷ [])

-- the three lines of a tablet, each with some room
unfoldable pub three_lines : (t : ℕ) (waiting : List ℕ) (a b c : ℕ) → List Request
three_lines t waiting a b c = sends t a (broken waiting) ∷ sends t b (bytes "FE") ∷ sends t c (bytes "N") ∷ []

-- the same with calls of others and takes between and behind them
unfoldable pub three_among : (t : ℕ) (waiting : List ℕ) (a b c : ℕ) (xs ys zs : List Request) → List Request
three_among t waiting a b c xs ys zs =
    sends t a (broken waiting) ∷ (xs ++ (sends t b (bytes "FE") ∷ (ys ++ (sends t c (bytes "N") ∷ zs))))

-- what the first is answered: 1 if more than 255 bytes wait that are not dropped, else 2
unfoldable pub why_broken : List ℕ → Refusal
why_broken waiting = when long (kept (broken waiting)) then too_long else control_byte

-- and the second: 8 if the tablet was collecting a form, which is spoiled by then, else 3
unfoldable pub why_finish : Session → Refusal
why_finish st = when collects st then is_spoiled else not_now

-- what the three lines are answered, one by one; the last is accepted with nothing to write
unfoldable pub freeing_answers : Session → (waiting : List ℕ) → List Answer
freeing_answers st waiting = refused (why_broken waiting) ∷ refused (why_finish st) ∷ accepted [] ∷ []

-- a tablet that is Idle and holds nothing
unfoldable pub at_idle : Tablet
at_idle = record { session = idle; form = [] }

-- two classes agree but for a tablet: in the store, every other tablet and the one last served
pub record AgreeBut (t : ℕ) (c d : Class) : Type 0 where
  pub forms : c.forms ≡ d.forms
  pub others : (k : ℕ) → k < 30 → eqb k t ≡ false → c.tablet k ≡ d.tablet k
  pub last : c.last ≡ d.last

-- one class is another with a tablet freed, and all else as it was
pub record Freed (c : Class) (t : ℕ) (next : Class) : Type 0 where
  pub tablet : next.tablet t ≡ at_idle
  pub rest : AgreeBut t next c
