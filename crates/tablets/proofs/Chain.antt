-- Calls that were made of a class follow the paper one by one: what they told is what the paper answers, the memory is that of the
-- paper's class, the tablets that takes told are those that it serves, and each tablet's diary is the paper's.
use Prim.Native.Nat.{ℕ, ◌<◌}
use mathlib.Core.Path.{◌≡◌, refl, ◌∙◌, ap}
use mathlib.Core.List.{List, [], ◌∷◌, map}
use mathlib.Core.Option.{Option, none, some}
use native.Mathlib.Omega.{arith}
use lib.ListN.{length}
use lib.Seq.{take-append_seam}
use lib.Dec.{ltb, eqb}
use borrow.Author.Tests.{ltb-false, ne_eqb}
use Rattle.std.specs.Prelude.{Result, Ok, Err}
use Rattle.paper.specs.Byte.{when◌then◌else◌}
use Rattle.paper.specs.Refusal as R
use Rattle.paper.specs.Form.{Form, is_some}
use Rattle.paper.specs.Bench as P
use Rattle.paper.specs.Class.{Class, thirty, prints, open_lines, holds_form, reply, denied, hear_of, hear_from, turn, serve, take_next, Request, fetches, reply_to, replies_to, class_after, served_by, served_in, keeps_printing, keeps_holding}
use Rattle.paper.specs.Diary.{is_for, diary}
use Rattle.paper.proofs.Test.{either}
use Rattle.command.specs.View.{width}
use Rattle.command.specs.Answer.{Reports, Meets}
use Rattle.command.specs.declared.Refusal.{Refusal}
use Rattle.session.specs.Memory.{drafting, drafts, holding, holds, packed_session}
use Rattle.seats.specs.Numbers.{code_of}
use Rattle.seats.specs.Seats.{seat_of}
use Rattle.call.specs.Call.{Memory}
use Rattle.tablets.specs.Calls.{packed_class, Reached}
use Rattle.tablets.specs.Runs.{Kind, hears, takes, Made, PromisedBy, Chain, after, request_for, on_paper, on_bench, Report, told_by, told, served_on, served, state_in, prints_in, holds_in, prints_through, holds_through, entry_of, diary_of}
use Rattle.tablets.proofs.Leading.{hears_on, takes_on, reached_counts}
use Rattle.tablets.proofs.Leaving.{reached_tag}
use Rattle.tablets.proofs.Left.{counts_prints}

-- what a call told is what the paper answers
pub meets_told : (a : R.Answer) (old new : List ℕ) (r : Result ℕ Refusal) → Meets a old new r → told_by r new ≡ a
unfolding Reports R.lent told_by
meets_told (R.accepted bytes) old new (Ok len) m = ap R.accepted (rw (m.reports, m.buffer) (take-append_seam bytes _))
meets_told (R.accepted bytes) old new (Err why) m = absurd m.reports
meets_told (R.refused r) old new (Ok len) m = absurd m.reports
meets_told (R.refused r) old new (Err why) m = ap R.refused m.reports

-- a line is for its sender
line_whose : (t u room : ℕ) (c : Class) (s : List ℕ) → t < 30 → eqb t u ≡ is_for t (hear_from width room c u s).whose
unfolding hear_from hear_of reply denied is_for thirty when◌then◌else◌
line_whose t u room c s l =
    either (ltb u 30) (λ y. rw y) (λ n. let over = ltb-false u 30 n in rw n (ne_eqb t u (omega arith)))

-- 30 stands for no tablet
seat_whose : (t : ℕ) (o : Option ℕ) → t < 30 → eqb t (seat_of o) ≡ is_for t o
unfolding seat_of is_for
seat_whose t none l = ne_eqb t 30 (omega arith)
seat_whose t (some u) l = refl

-- an accepted take told the tablet that it serves
seat_served : (room u : ℕ) (a : R.Answer) (r : Result ℕ Refusal) (later : List ℕ) → Reports r a → served_on takes r u later ≡ served_by (fetches room) a (some u) later
unfolding Reports served_on served_by
seat_served room u (R.accepted bytes) (Ok len) later p = refl
seat_served room u (R.accepted bytes) (Err why) later p = absurd p
seat_served room u (R.refused x) (Ok len) later p = absurd p
seat_served room u (R.refused x) (Err why) later p = refl

nobody_served : (u : ℕ) (x : R.Refusal) (r : Result ℕ Refusal) (later : List ℕ) → Reports r (R.refused x) → served_on takes r u later ≡ later
unfolding Reports served_on
nobody_served u x (Ok len) later p = absurd p
nobody_served u x (Err why) later p = refl

turn_served : (room : ℕ) (c : Class) (o : Option ℕ) (r : Result ℕ Refusal) (later : List ℕ) → Reports r (serve room c o).answer
    → served_on takes r (seat_of (serve room c o).whose) later ≡ served_by (fetches room) (serve room c o).answer (serve room c o).whose later
unfolding serve reply denied seat_of served_by
turn_served room c none r later p = nobody_served 30 R.not_printing r later p
turn_served room c (some u) r later p = seat_served room u _ r later p

-- what a call that was made gives, by the paper's: its answer with the buffer, memory that leads on with the paper's next class, and
-- the tablet that it was for
pub record Steps (self : Memory) (k : Reached self) (q : Request) (what : Kind) (old : List ℕ) (next : Memory) (new : List ℕ) (whose : ℕ) (r : Result ℕ Refusal) : Type 0 where
  pub meets : Meets (reply_to width k.class q).answer old new r
  pub reached : Reached next
  pub class : reached.class ≡ (reply_to width k.class q).next
  pub mine : (t : ℕ) → t < 30 → eqb t whose ≡ is_for t (reply_to width k.class q).whose
  pub serves : (later : List ℕ) → served_on what r whose later ≡ served_by q (reply_to width k.class q).answer (reply_to width k.class q).whose later

pub made_steps : (self : Memory) (k : Reached self) (what : Kind) (old : List ℕ) (next : Memory) (new : List ℕ) (whose : ℕ) (r : Result ℕ Refusal)
    → PromisedBy self what old next new whose r → Steps self k (request_for (length old) what) what old next new whose r
unfolding reply_to request_for hears_on takes_on served_on served_by take_next
made_steps self k (hears t s) old next new whose r p =
    record {
      meets = p.1.meets k;
      reached = hears_on self k next t (length old) s (p.1.leaves k);
      class = refl;
      mine = λ u l. ap (eqb u) p.0 ∙ line_whose u t (length old) k.class s l;
      serves = λ later. refl;
    }
made_steps self k takes old next new whose r p =
    record {
      meets = p.meets k;
      reached = takes_on self k next (length old) (p.leaves k);
      class = refl;
      mine = λ u l. ap (eqb u) (p.whose k) ∙ seat_whose u _ l;
      serves = λ later. ap (λ u. served_on takes r u later) (p.whose k) ∙ turn_served (length old) k.class (turn k.class) r later (p.meets k).reports;
    }

-- what calls that were made have given: the answers of the paper's calls with all buffers, memory of the class that these leave,
-- and the tablets that they serve
pub record Follows (self : Memory) (c : Class) (ms : List Made) : Type 0 where
  pub reports : Report (replies_to width c (map on_paper ms)) ms
  pub tells : map told ms ≡ replies_to width c (map on_paper ms)
  pub reached : Reached (after self ms)
  pub class : reached.class ≡ class_after width c (map on_paper ms)
  pub memory : after self ms ≡ packed_class (class_after width c (map on_paper ms))
  pub serves : served ms ≡ served_in width c (map on_paper ms)

-- calls that were made follow the paper
pub chain_follows : (self : Memory) (k : Reached self) (ms : List Made) → Chain self ms → Follows self k.class ms
unfolding replies_to class_after served_in after served told on_paper
chain_follows self k [] h = record { reports = tt; tells = refl; reached = k; class = refl; memory = k.is; serves = refl }
chain_follows self k (m ∷ ms) h =
    let s = made_steps self k m.what m.old m.next m.new m.whose m.answer h.0 in
    let rest : Follows m.next (reply_to width k.class (on_paper m)).next ms = rw s.class at (chain_follows m.next s.reached ms h.1) in
    record {
      reports = (s.meets, rest.reports);
      tells = rw (meets_told _ _ _ _ s.meets, rest.tells);
      reached = rest.reached;
      class = rest.class;
      memory = rest.memory;
      serves = ap (served_on m.what m.answer m.whose) rest.serves ∙ s.serves _;
    }

-- the states by their numbers: a form is held open from Open on
tag_holds : (fs : List Form) (n : ℕ) (st : P.Session) → ltb 2 (code_of (packed_session fs n st).held.mode).tag ≡ holds_form st
unfolding packed_session drafting drafts holding holds code_of holds_form open_lines is_some
tag_holds fs n P.idle = refl
tag_holds fs n (P.collecting name ls) = refl
tag_holds fs n P.spoiled = refl
tag_holds fs n (P.opened ls) = refl
tag_holds fs n (P.answering ls given) = refl
tag_holds fs n (P.ready ls given) = refl
tag_holds fs n (P.printing ls given k c i) = refl

-- what memory tells of a tablet is so on paper
module _ (self : Memory) (k : Reached self) (t : ℕ) (l : t < 30) where
  pub reached_prints : prints_in self t ≡ prints (k.class.tablet t).session
  unfolding prints_in state_in reached_counts
  reached_prints = counts_prints self.held (reached_counts self k) t l

  pub reached_holds : holds_in self t ≡ holds_form (k.class.tablet t).session
  unfolding holds_in state_in
  reached_holds = ap (ltb 2) (reached_tag self k t l) ∙ tag_holds k.class.forms _ (k.class.tablet t).session

-- so is what it tells at each of some calls
pub chain_prints : (self : Memory) (k : Reached self) (t : ℕ) (ms : List Made) → t < 30 → Chain self ms → prints_through t self ms ≡ keeps_printing width t k.class (map on_paper ms)
unfolding prints_through keeps_printing on_paper
chain_prints self k t [] l h = refl
chain_prints self k t (m ∷ ms) l h =
    let s = made_steps self k m.what m.old m.next m.new m.whose m.answer h.0 in
    let rest = rw s.class at (chain_prints m.next s.reached t ms l h.1) in
    rw (reached_prints self k t l, rest)

pub chain_holds : (self : Memory) (k : Reached self) (t : ℕ) (ms : List Made) → t < 30 → Chain self ms → holds_through t self ms ≡ keeps_holding width t k.class (map on_paper ms)
unfolding holds_through keeps_holding on_paper
chain_holds self k t [] l h = reached_holds self k t l
chain_holds self k t (m ∷ ms) l h =
    let s = made_steps self k m.what m.old m.next m.new m.whose m.answer h.0 in
    let rest = rw s.class at (chain_holds m.next s.reached t ms l h.1) in
    rw (reached_holds self k t l, rest)

-- and a tablet's diary, as the code told it, is the paper's
pub chain_diary : (self : Memory) (k : Reached self) (t : ℕ) (ms : List Made) → t < 30 → Chain self ms → diary_of t self ms ≡ diary width t k.class (map on_paper ms)
unfolding diary_of diary entry_of told on_bench on_paper
chain_diary self k t [] l h = refl
chain_diary self k t (m ∷ ms) l h =
    let s = made_steps self k m.what m.old m.next m.new m.whose m.answer h.0 in
    let rest = rw s.class at (chain_diary m.next s.reached t ms l h.1) in
    rw (reached_holds self k t l, s.mine t l, meets_told _ _ _ _ s.meets, rest)
