-- A tablet among others, over the code: from its `FR` to its last set, what calls told it and wrote for it is told by its own lines
-- alone; the form that it holds open stays stored; and an order of a stored form comes out, whatever other tablets send meanwhile.
use Prim.Native.Nat.{ℕ, ◌<◌}
use mathlib.Core.Path.{◌≡◌, sym, ◌∙◌, ap}
use mathlib.Core.Bool.{true}
use mathlib.Core.List.{List, [], ◌∷◌, map}
use mathlib.Core.Option.{some}
use native.Mathlib.Omega.{arith}
use lib.ListN.{get_or}
use Rattle.paper.specs.Command.{FormLine}
use Rattle.paper.specs.Refusal as R
use Rattle.paper.specs.Form.{text_of, asked, find}
use Rattle.paper.specs.Bench as P
use Rattle.paper.specs.Calls.{Orders}
use Rattle.paper.specs.Class.{Class, desk, open_lines, hear_from, reply_to}
use Rattle.paper.specs.Diary.{diary, Does, needs}
use Rattle.paper.proofs.Apart.{recalls}
use Rattle.paper.proofs.HeldOpen.{SameForm, held_same, held_stored}
use Rattle.paper.proofs.Sets.{Alike, from_recall}
use Rattle.paper.proofs.Among.{ComesOut, order_among, same_among}
use Rattle.command.specs.View.{width}
use Rattle.call.specs.Call.{Memory}
use Rattle.tablets.specs.Calls.{Reached}
use Rattle.tablets.specs.Runs.{Made, Chain, request_for, room_of, on_paper, told, holds_through, diary_of, lines_for, sets_for, Recalls}
use Rattle.tablets.proofs.Leading.{reached_sane}
use Rattle.tablets.proofs.Chain.{Steps, made_steps, meets_told, chain_follows, chain_holds, chain_diary}

-- calls that begin with a tablet's `FR`
module _ (self : Memory) (k : Reached self) (t : ℕ) (l : t < 30) (name : List ℕ) (m : Made) (ms : List Made) (f : Recalls t name m) (h : Chain self (m ∷ ms)) where
  -- the class behind it
  abbrev recalled : Class
  recalled = (hear_from width (room_of m) k.class t f.line).next

  step : Steps self k (request_for (room_of m) m.what) m.what m.old m.next m.new m.whose m.answer
  step = made_steps self k m.what m.old m.next m.new m.whose m.answer h.0

  recall_leads : step.reached.class ≡ recalled
  unfolding reply_to request_for
  recall_leads = step.class ∙ ap (λ w. (reply_to width k.class (request_for (room_of m) w)).next) f.sent

  -- the diary behind it
  recall_diary : diary_of t m.next ms ≡ diary width t recalled (map on_paper ms)
  recall_diary = rw recall_leads at (chain_diary m.next step.reached t ms l h.1)

  -- a form that is stored is recalled
  pub chain_recalls : (ls : List FormLine) → (k.class.tablet t).session ≡ P.idle → find name k.class.forms ≡ some ls → told m ≡ R.accepted []
  unfolding told reply_to request_for
  chain_recalls ls free found =
      meets_told _ _ _ _ step.meets
      ∙ ap (λ w. (reply_to width k.class (request_for (room_of m) w)).answer) f.sent
      ∙ (recalls width (room_of m) k.class t f.line name ls l free found f.reads).0

  -- DEMAND 3 among others: the order of a stored form comes out, with whatever else is sent by whom. No call that meets a need of
  -- it is refused, the takes wrote its sets, and each of these is well formed and within the limits
  pub chain_order : (ls : List FormLine) (given : List (List ℕ)) (n copies : ℕ) → Orders (desk k.class t) name ls given n copies
      → (d : Does width (P.opened_with ls (asked ls)) (needs ls given n copies) (diary_of t m.next ms)) → ComesOut width ls given n copies d
  chain_order ls given n copies o =
      rw recall_diary (order_among width t (room_of m) k.class f.line name ls given n copies (omega arith) (reached_sane self k) l o f.reads (map on_paper ms))

-- and set i of one order is set i of any other with the same form text, answers and copies: in any two memories, of any tablets,
-- under any names, with any numbers of sets, whatever others send meanwhile
pub chain_same_set : (self self' : Memory) (k : Reached self) (k' : Reached self') (t u : ℕ) (name name' : List ℕ) (ls ls' : List FormLine) (given : List (List ℕ)) (n n' copies : ℕ) (m m' : Made) (ms ms' : List Made)
    → t < 30 → u < 30 → Orders (desk k.class t) name ls given n copies → Orders (desk k'.class u) name' ls' given n' copies → text_of ls ≡ text_of ls'
    → Recalls t name m → Recalls u name' m' → Chain self (m ∷ ms) → Chain self' (m' ∷ ms')
    → Does width (P.opened_with ls (asked ls)) (needs ls given n copies) (diary_of t m.next ms) → Does width (P.opened_with ls' (asked ls')) (needs ls' given n' copies) (diary_of u m'.next ms')
    → (i : ℕ) → i < n → i < n' → get_or (sets_for t m.next ms) i [] ≡ get_or (sets_for u m'.next ms') i []
chain_same_set self self' k k' t u name name' ls ls' given n n' copies m m' ms ms' l l' o o' text f f' h h' =
    rw (recall_diary self k t l name m ms f h, recall_diary self' k' u l' name' m' ms' f' h')
    (λ d d'. same_among width t u (room_of m) (room_of m') k.class k'.class f.line f'.line name name' ls ls' given n n' copies (omega arith) (reached_sane self k) (reached_sane self' k') l l' o o' text f.reads f'.reads (map on_paper ms) (map on_paper ms') d d')

-- APART, from the `FR` on: two tablets in any two memories that recall the same lines and then send the same lines, whatever others
-- send and however the takes fall, were told the same, and the sets that takes wrote for them are the same one by one
pub chain_apart : (self self' : Memory) (k : Reached self) (k' : Reached self') (t u : ℕ) (name name' : List ℕ) (ls : List FormLine) (m m' : Made) (ms ms' : List Made)
    → t < 30 → u < 30 → (k.class.tablet t).session ≡ P.idle → (k'.class.tablet u).session ≡ P.idle → find name k.class.forms ≡ some ls → find name' k'.class.forms ≡ some ls
    → Recalls t name m → Recalls u name' m' → Chain self (m ∷ ms) → Chain self' (m' ∷ ms')
    → lines_for t m.next ms ≡ lines_for u m'.next ms' → Alike (diary_of t m.next ms) (diary_of u m'.next ms')
chain_apart self self' k k' t u name name' ls m m' ms ms' l l' free free' found found' f f' h h' =
    rw (recall_diary self k t l name m ms f h, recall_diary self' k' u l' name' m' ms' f' h')
    (from_recall width t u (room_of m) (room_of m') k.class k'.class f.line f'.line name name' ls (reached_sane self k) (reached_sane self' k') l l' free free' found found' f.reads f'.reads (map on_paper ms) (map on_paper ms'))

-- a form that a tablet held open through some calls: it still holds the same, and that is stored under its name with the lines that
-- were opened
pub record StillHeld (c d : Class) (t : ℕ) (ls : List FormLine) : Type 0 where
  pub same : SameForm c d t
  pub stored : find (c.tablet t).form d.forms ≡ some ls

-- HELD OPEN
pub chain_held : (self : Memory) (k : Reached self) (t : ℕ) (ls : List FormLine) (ms : List Made) → t < 30 → open_lines (k.class.tablet t).session ≡ some ls → holds_through t self ms ≡ true → (h : Chain self ms) → StillHeld k.class (chain_follows self k ms h).reached.class t ls
chain_held self k t ls ms l e p h =
    let q = sym (chain_holds self k t ms l h) ∙ p in
    rw (chain_follows self k ms h).class
    (record { same = held_same width t k.class (map on_paper ms) q; stored = held_stored width t k.class (map on_paper ms) ls (reached_sane self k) l e q })
