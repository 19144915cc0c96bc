-- A line that was read is obeyed, and one that was not is refused.
use Prim.Native.Nat.{ℕ, ◌≤◌, ◌<◌}
use mathlib.Core.Path.{◌≡◌, refl, sym, ◌∙◌, ap}
use mathlib.Core.Bool.{true, false}
use mathlib.Core.List.{List, [], ◌∷◌}
use denote.Enum.Declared.{tag_of}
use types.Run.{OneOf, hit, miss}
use lib.ListN.{length}
use borrow.Author.Tests.{lt-ltb}
use Rattle.std.specs.Prelude.{Result, Ok}
use Rattle.paper.specs.Line.{long, control}
use Rattle.paper.specs.Command as C
use Rattle.paper.specs.Form.{Form}
use Rattle.paper.specs.Read.{command, unread, read}
use Rattle.paper.specs.Refusal as R
use Rattle.paper.specs.Bench as P
use Rattle.paper.proofs.Law.{if_true, if_false}
use Rattle.paper.proofs.Test.{held}
use Rattle.paper.proofs.RoundTrip.{read_in_range}
use Rattle.paper.proofs.Invariant.{print_in}
use Rattle.command.specs.View.{width, refusal_of, text_in, put_of, bar_of, view_of, Stand}
use Rattle.command.specs.declared.Refusal.{Refusal}
use Rattle.command.specs.declared.Refusal.TheVariants as W
use Rattle.command.specs.declared.Command.{Command}
use Rattle.command.specs.declared.Command.TheVariants as L
use Rattle.command.specs.contracts.Command as Tag
use Rattle.line.specs.Given.{IsRead}
use Rattle.text.specs.declared.read.Span.{Span}
use Rattle.session.specs.Memory.{Session, Shelf, drafts, drafting, holds, holding, packed_session, after_command}
use Rattle.session.specs.Outcome.{At, Does, Obeys, Minds, Hears, Refuses, Keeps, Named, Starred, NotAnswering, obey, after_reading, after_line}
use Rattle.session.specs.declared.state.Mode.TheVariants as M
use Rattle.session.proofs.Held.{Tagged, wrong, does_done, does_refuse}

-- `N` goes to Idle from every state in which no form is collected
news : (session : Session) → Tagged (0 ∷ 3 ∷ 4 ∷ 5 ∷ 6 ∷ []) session → (room : ℕ) (fs : List Form) (n : ℕ) (st : P.Session) → session ≡ packed_session fs n st → obey room fs st C.new ≡ P.done fs P.idle
unfolding obey P.in_idle P.in_opened P.in_ready P.in_printing packed_session drafting drafts holding holds
news session h room fs n P.idle e = refl
news session h room fs n (P.collecting name ls) e = absurd (wrong (0 ∷ 3 ∷ 4 ∷ 5 ∷ 6 ∷ []) session fs n (P.collecting name ls) e h tt)
news session h room fs n P.spoiled e = absurd (wrong (0 ∷ 3 ∷ 4 ∷ 5 ∷ 6 ∷ []) session fs n P.spoiled e h tt)
news session h room fs n (P.opened ls) e = refl
news session h room fs n (P.answering ls given) e = refl
news session h room fs n (P.ready ls given) e = refl
news session h room fs n (P.printing ls given k c i) e = refl

pub resets : (session next : Session) → Tagged (0 ∷ 3 ∷ 4 ∷ 5 ∷ 6 ∷ []) session → next ≡ drafting M.Idle [] [] → Minds session C.new (Ok 0) next
unfolding packed_session after_command
resets session next h e =
    record {
      minds = λ shelf. record {
        heeds = λ b. record {
          obeys = λ a.
              rw (news session h (length b) a.forms a.number a.state a.here)
              (does_done next shelf a.forms a.number P.idle b e a.there);
        };
      };
    }

-- what was read is in range
read_range : (s : List ℕ) (c : Command) (p : C.Command) → IsRead s c → view_of s c ≡ command p → C.in_range width p ≡ true
read_range s c p i v = read_in_range width s p (sym i.view ∙ v)

-- the empty line
empties : (room : ℕ) (fs : List Form) (st : P.Session) → obey room fs st C.empty ≡ P.done fs st
unfolding obey P.in_idle P.in_collecting P.in_spoiled P.in_opened P.in_ready P.in_printing
empties room fs P.idle = refl
empties room fs (P.collecting name ls) = refl
empties room fs P.spoiled = refl
empties room fs (P.opened ls) = refl
empties room fs (P.answering ls given) = refl
empties room fs (P.ready ls given) = refl
empties room fs (P.printing ls given n c i) = refl

-- the name in an `FS` line
pub names_start : (s : List ℕ) (c : Command) (name : Span) → IsRead s c → c ≡ L.Start name → Named s name
unfolding view_of Stand C.in_range C.ranges C.filing_ranges
names_start s c name i e =
    let stand : Stand s (L.Start name) = rw e at i.stand in
    record { holds = stand.holds; named = (held _ (read_range s c (C.file (C.start (text_in s name))) i (ap (view_of s) e))).0.0 }

-- in an `FR` line
pub names_recall : (s : List ℕ) (c : Command) (name : Span) → IsRead s c → c ≡ L.Recall name → Named s name
unfolding view_of Stand C.in_range C.ranges C.filing_ranges
names_recall s c name i e =
    let stand : Stand s (L.Recall name) = rw e at i.stand in
    record { holds = stand.holds; named = (held _ (read_range s c (C.file (C.recall (text_in s name))) i (ap (view_of s) e))).0.0 }

-- and in an `FK` line
pub names_delete : (s : List ℕ) (c : Command) (name : Span) → IsRead s c → c ≡ L.Delete name → Starred s name
unfolding view_of Stand C.in_range C.ranges C.filing_ranges
names_delete s c name i e =
    let stand : Stand s (L.Delete name) = rw e at i.stand in
    record { holds = stand.holds; named = (held _ (read_range s c (C.file (C.delete (text_in s name))) i (ap (view_of s) e))).0.0 }

-- the sets of a `P` line: some
pub prints_some : (s : List ℕ) (c : Command) (sets copies : ℕ) → IsRead s c → c ≡ L.Print sets copies → 1 ≤ sets
unfolding view_of
prints_some s c sets copies i e = (print_in width sets copies (read_range s c (C.print sets copies) i (ap (view_of s) e))).0

-- and not too many
pub prints_few : (s : List ℕ) (c : Command) (sets copies : ℕ) → IsRead s c → c ≡ L.Print sets copies → sets ≤ 65535
unfolding view_of
prints_few s c sets copies i e = (print_in width sets copies (read_range s c (C.print sets copies) i (ap (view_of s) e))).1

-- every other line is one for a form
keeps_tagged : (s : List ℕ) (c : Command) → OneOf (5 ∷ 6 ∷ 7 ∷ 8 ∷ 9 ∷ 10 ∷ 11 ∷ 12 ∷ 13 ∷ []) (tag_of Tag.the_type c) → Keeps s c
unfolding view_of put_of bar_of
keeps_tagged s L.Empty h = absurd (miss (5 ∷ 6 ∷ 7 ∷ 8 ∷ 9 ∷ 10 ∷ 11 ∷ 12 ∷ 13 ∷ []) 0 tt h)
keeps_tagged s L.New h = absurd (miss (5 ∷ 6 ∷ 7 ∷ 8 ∷ 9 ∷ 10 ∷ 11 ∷ 12 ∷ 13 ∷ []) 1 tt h)
keeps_tagged s L.Finish h = absurd (miss (5 ∷ 6 ∷ 7 ∷ 8 ∷ 9 ∷ 10 ∷ 11 ∷ 12 ∷ 13 ∷ []) 2 tt h)
keeps_tagged s L.Inform h = absurd (miss (5 ∷ 6 ∷ 7 ∷ 8 ∷ 9 ∷ 10 ∷ 11 ∷ 12 ∷ 13 ∷ []) 3 tt h)
keeps_tagged s L.Ask h = absurd (miss (5 ∷ 6 ∷ 7 ∷ 8 ∷ 9 ∷ 10 ∷ 11 ∷ 12 ∷ 13 ∷ []) 4 tt h)
keeps_tagged s (L.Size p₁ p₂) h = record { line = _; is = refl }
keeps_tagged s (L.Direction d) h = record { line = _; is = refl }
keeps_tagged s (L.Text put) h = record { line = _; is = refl }
keeps_tagged s (L.Black b) h = record { line = _; is = refl }
keeps_tagged s (L.Flip b) h = record { line = _; is = refl }
keeps_tagged s (L.White b) h = record { line = _; is = refl }
keeps_tagged s (L.Frame x₁ y₁ t x₂ y₂) h = record { line = _; is = refl }
keeps_tagged s (L.Counting n len step prompt) h = record { line = _; is = refl }
keeps_tagged s (L.Varying n len prompt) h = record { line = _; is = refl }
keeps_tagged s (L.Start name) h = absurd (miss (5 ∷ 6 ∷ 7 ∷ 8 ∷ 9 ∷ 10 ∷ 11 ∷ 12 ∷ 13 ∷ []) 14 tt h)
keeps_tagged s (L.Recall name) h = absurd (miss (5 ∷ 6 ∷ 7 ∷ 8 ∷ 9 ∷ 10 ∷ 11 ∷ 12 ∷ 13 ∷ []) 15 tt h)
keeps_tagged s (L.Delete name) h = absurd (miss (5 ∷ 6 ∷ 7 ∷ 8 ∷ 9 ∷ 10 ∷ 11 ∷ 12 ∷ 13 ∷ []) 16 tt h)
keeps_tagged s (L.Print sets copies) h = absurd (miss (5 ∷ 6 ∷ 7 ∷ 8 ∷ 9 ∷ 10 ∷ 11 ∷ 12 ∷ 13 ∷ []) 17 tt h)
keeps_tagged s (L.Refused why) h = absurd (miss (5 ∷ 6 ∷ 7 ∷ 8 ∷ 9 ∷ 10 ∷ 11 ∷ 12 ∷ 13 ∷ []) 18 tt h)

-- a line that is none of the others
pub record Others (c : Command) : Type 0 where
  pub no_empty : c ≡ L.Empty → ⊥
  pub no_new : c ≡ L.New → ⊥
  pub no_start : (name : Span) → c ≡ L.Start name → ⊥
  pub no_finish : c ≡ L.Finish → ⊥
  pub no_inform : c ≡ L.Inform → ⊥
  pub no_recall : (name : Span) → c ≡ L.Recall name → ⊥
  pub no_delete : (name : Span) → c ≡ L.Delete name → ⊥
  pub no_ask : c ≡ L.Ask → ⊥
  pub no_print : (sets : ℕ) (copies : ℕ) → c ≡ L.Print sets copies → ⊥
  pub no_refused : (why : Refusal) → c ≡ L.Refused why → ⊥

one_kept : (c : Command) → Others c → OneOf (5 ∷ 6 ∷ 7 ∷ 8 ∷ 9 ∷ 10 ∷ 11 ∷ 12 ∷ 13 ∷ []) (tag_of Tag.the_type c)
one_kept L.Empty h = absurd (h.no_empty refl)
one_kept L.New h = absurd (h.no_new refl)
one_kept L.Finish h = absurd (h.no_finish refl)
one_kept L.Inform h = absurd (h.no_inform refl)
one_kept L.Ask h = absurd (h.no_ask refl)
one_kept (L.Size p₁ p₂) h = hit (5 ∷ 6 ∷ 7 ∷ 8 ∷ 9 ∷ 10 ∷ 11 ∷ 12 ∷ 13 ∷ []) 5 tt
one_kept (L.Direction d) h = hit (5 ∷ 6 ∷ 7 ∷ 8 ∷ 9 ∷ 10 ∷ 11 ∷ 12 ∷ 13 ∷ []) 6 tt
one_kept (L.Text put) h = hit (5 ∷ 6 ∷ 7 ∷ 8 ∷ 9 ∷ 10 ∷ 11 ∷ 12 ∷ 13 ∷ []) 7 tt
one_kept (L.Black b) h = hit (5 ∷ 6 ∷ 7 ∷ 8 ∷ 9 ∷ 10 ∷ 11 ∷ 12 ∷ 13 ∷ []) 8 tt
one_kept (L.Flip b) h = hit (5 ∷ 6 ∷ 7 ∷ 8 ∷ 9 ∷ 10 ∷ 11 ∷ 12 ∷ 13 ∷ []) 9 tt
one_kept (L.White b) h = hit (5 ∷ 6 ∷ 7 ∷ 8 ∷ 9 ∷ 10 ∷ 11 ∷ 12 ∷ 13 ∷ []) 10 tt
one_kept (L.Frame x₁ y₁ t x₂ y₂) h = hit (5 ∷ 6 ∷ 7 ∷ 8 ∷ 9 ∷ 10 ∷ 11 ∷ 12 ∷ 13 ∷ []) 11 tt
one_kept (L.Counting n len step prompt) h = hit (5 ∷ 6 ∷ 7 ∷ 8 ∷ 9 ∷ 10 ∷ 11 ∷ 12 ∷ 13 ∷ []) 12 tt
one_kept (L.Varying n len prompt) h = hit (5 ∷ 6 ∷ 7 ∷ 8 ∷ 9 ∷ 10 ∷ 11 ∷ 12 ∷ 13 ∷ []) 13 tt
one_kept (L.Start name) h = absurd (h.no_start name refl)
one_kept (L.Recall name) h = absurd (h.no_recall name refl)
one_kept (L.Delete name) h = absurd (h.no_delete name refl)
one_kept (L.Print sets copies) h = absurd (h.no_print sets copies refl)
one_kept (L.Refused why) h = absurd (h.no_refused why refl)

pub keeps_line : (s : List ℕ) (c : Command) → Others c → Keeps s c
keeps_line s c h = keeps_tagged s c (one_kept c h)

-- the empty line does nothing
pub obeys_empty : (session : Session) (shelf : Shelf) (b : List ℕ) → Obeys session shelf C.empty b b (Ok 0) session shelf
unfolding after_command
obeys_empty session shelf b =
    record { obeys = λ a. rw (empties (length b) a.forms a.state) (does_done session shelf a.forms a.number a.state b a.here a.there) }

-- the mode of a session that waits for an answer
answering_mode : (session : Session) (fs : List Form) (n : ℕ) (ls : List C.FormLine) (given : List (List ℕ)) → session ≡ packed_session fs n (P.answering ls given) → session.held.mode ≡ M.Answering (length given)
unfolding packed_session holding holds
answering_mode session fs n ls given e = ap (λ x. x.held.mode) e

-- where no answer is waited for
module _ (session : Session) (shelf : Shelf) (s old new : List ℕ) (answer : Result ℕ Refusal) (next : Session) (more : Shelf) (free : NotAnswering session.held.mode) where
  -- a line that is followed as it is read is heard
  hears_read : ((a : At session shelf) → Does (P.obeyed a.forms a.state (obey (length old) a.forms a.state) (read width s)) (after_reading a.number a.forms a.state (read width s)) old new answer next more)
      → Hears session shelf s old new answer next more
  unfolding obey P.heard after_line
  hears_read f = record { hears = λ a. rw (heeds a a.state a.here) (f a) }
    where
      heeds : (a : At session shelf) (st : P.Session) → session ≡ packed_session a.forms a.number st
          → P.heard width (length old) a.forms st s ≡ P.obeyed a.forms st (obey (length old) a.forms st) (read width s)
      heeds a P.idle e = refl
      heeds a (P.collecting name ls) e = refl
      heeds a P.spoiled e = refl
      heeds a (P.opened ls) e = refl
      heeds a (P.answering ls given) e = absurd (free (length given) (answering_mode session a.forms a.number ls given e))
      heeds a (P.ready ls given) e = refl
      heeds a (P.printing ls given n c i) e = refl

  -- the command that it says is obeyed
  heeds : (c : Command) (p : C.Command) → IsRead s c → view_of s c ≡ command p → Obeys session shelf p old new answer next more → Hears session shelf s old new answer next more
  unfolding P.obeyed after_reading
  heeds c p i v o = hears_read λ a. rw (sym i.view ∙ v) (o.obeys a)

-- or it is refused
pub heeds_refused : (session : Session) (shelf : Shelf) (s b : List ℕ) (answer : Result ℕ Refusal) (next : Session) → NotAnswering session.held.mode → (c : Command) (why : Refusal) → IsRead s c → c ≡ L.Refused why
    → Refuses why session answer next → Hears session shelf s b b answer next shelf
unfolding P.obeyed view_of after_reading
heeds_refused session shelf s b answer next free c why i e r =
    hears_read session shelf s b b answer next shelf free λ a.
    rw (sym i.view ∙ ap (view_of s) e) (does_refuse why session answer next r shelf a.forms a.number a.state b a.here a.there)

-- a line that is not read
unread_heard : (s : List ℕ) (r : R.Refusal) → read width s ≡ unread r → ((fs : List Form) (ls : List C.FormLine) (given : List (List ℕ)) → P.in_answering fs ls given s ≡ P.refuse r fs (P.answering ls given))
    → (room : ℕ) (fs : List Form) (st : P.Session) → P.heard width room fs st s ≡ P.refuse r fs st
unfolding P.heard P.obeyed
unread_heard s r e f room fs P.idle = rw e
unread_heard s r e f room fs (P.collecting name ls) = rw e
unread_heard s r e f room fs P.spoiled = rw e
unread_heard s r e f room fs (P.opened ls) = rw e
unread_heard s r e f room fs (P.answering ls given) = f fs ls given
unread_heard s r e f room fs (P.ready ls given) = rw e
unread_heard s r e f room fs (P.printing ls given k c i) = rw e

unread_after : (s : List ℕ) (r : R.Refusal) → read width s ≡ unread r → (n : ℕ) (fs : List Form) (st : P.Session) → after_line n fs st s ≡ n
unfolding after_line after_reading
unread_after s r e n fs st = rw e

-- is refused in every state
hears_unread : (session : Session) (shelf : Shelf) (s b : List ℕ) (answer : Result ℕ Refusal) (next : Session) (why : Refusal) → read width s ≡ unread (refusal_of why)
    → ((fs : List Form) (ls : List C.FormLine) (given : List (List ℕ)) → P.in_answering fs ls given s ≡ P.refuse (refusal_of why) fs (P.answering ls given))
    → Refuses why session answer next → Hears session shelf s b b answer next shelf
hears_unread session shelf s b answer next why e f r =
    record {
      hears = λ a.
          rw (unread_heard s (refusal_of why) e f (length b) a.forms a.state, unread_after s (refusal_of why) e a.number a.forms a.state)
          (does_refuse why session answer next r shelf a.forms a.number a.state b a.here a.there);
    }

-- one that is too long
pub hears_long : (session : Session) (shelf : Shelf) (s b : List ℕ) (answer : Result ℕ Refusal) (next : Session) → 256 < length s → Refuses W.TooLong session answer next → Hears session shelf s b b answer next shelf
unfolding read long P.in_answering refusal_of
hears_long session shelf s b answer next h r =
    let y : long s ≡ true = lt-ltb 256 (length s) h in
    hears_unread session shelf s b answer next W.TooLong (if_true _ _ _ y) (λ fs ls given. if_true _ _ _ y) r

-- and one with a control byte
pub hears_control : (session : Session) (shelf : Shelf) (s b : List ℕ) (answer : Result ℕ Refusal) (next : Session) → long s ≡ false → control s ≡ true → Refuses W.ControlByte session answer next
    → Hears session shelf s b b answer next shelf
unfolding read P.in_answering refusal_of
hears_control session shelf s b answer next n y r =
    hears_unread session shelf s b answer next W.ControlByte (if_false _ _ _ n ∙ if_true _ _ _ y) (λ fs ls given. if_false _ _ _ n ∙ if_true _ _ _ y) r

module _ (session : Session) (shelf : Shelf) (s : List ℕ) (c : Command) (i : IsRead s c) (old new : List ℕ) (answer : Result ℕ Refusal) (next : Session) (more : Shelf) (free : NotAnswering session.held.mode) where
  -- `FS`
  pub heeds_start : (name : Span) → c ≡ L.Start name → Obeys session shelf (C.file (C.start (text_in s name))) old new answer next more → Hears session shelf s old new answer next more
  unfolding view_of
  heeds_start name e = heeds session shelf s old new answer next more free c _ i (ap (view_of s) e)

  -- `FE`
  pub heeds_finish : c ≡ L.Finish → Obeys session shelf (C.file C.finish) old new answer next more → Hears session shelf s old new answer next more
  unfolding view_of
  heeds_finish e = heeds session shelf s old new answer next more free c _ i (ap (view_of s) e)

  -- `FI`
  pub heeds_inform : c ≡ L.Inform → Obeys session shelf (C.file C.inform) old new answer next more → Hears session shelf s old new answer next more
  unfolding view_of
  heeds_inform e = heeds session shelf s old new answer next more free c _ i (ap (view_of s) e)

  -- `FR`
  pub heeds_recall : (name : Span) → c ≡ L.Recall name → Obeys session shelf (C.file (C.recall (text_in s name))) old new answer next more → Hears session shelf s old new answer next more
  unfolding view_of
  heeds_recall name e = heeds session shelf s old new answer next more free c _ i (ap (view_of s) e)

  -- `FK`
  pub heeds_delete : (name : Span) → c ≡ L.Delete name → Obeys session shelf (C.file (C.delete (text_in s name))) old new answer next more → Hears session shelf s old new answer next more
  unfolding view_of
  heeds_delete name e = heeds session shelf s old new answer next more free c _ i (ap (view_of s) e)

  -- `?`
  pub heeds_ask : c ≡ L.Ask → Obeys session shelf C.ask old new answer next more → Hears session shelf s old new answer next more
  unfolding view_of
  heeds_ask e = heeds session shelf s old new answer next more free c _ i (ap (view_of s) e)

  -- `P`
  pub heeds_print : (sets copies : ℕ) → c ≡ L.Print sets copies → Obeys session shelf (C.print sets copies) old new answer next more → Hears session shelf s old new answer next more
  unfolding view_of
  heeds_print sets copies e = heeds session shelf s old new answer next more free c _ i (ap (view_of s) e)

  -- a line for a form
  pub heeds_keep : (k : Keeps s c) → Obeys session shelf (C.keep k.line) old new answer next more → Hears session shelf s old new answer next more
  heeds_keep k = heeds session shelf s old new answer next more free c _ i k.is

  -- `N`
  pub heeds_new : c ≡ L.New → Obeys session shelf C.new old new answer next more → Hears session shelf s old new answer next more
  unfolding view_of
  heeds_new e = heeds session shelf s old new answer next more free c _ i (ap (view_of s) e)

  -- the empty line
  pub heeds_empty : c ≡ L.Empty → Obeys session shelf C.empty old new answer next more → Hears session shelf s old new answer next more
  unfolding view_of
  heeds_empty e = heeds session shelf s old new answer next more free c _ i (ap (view_of s) e)
