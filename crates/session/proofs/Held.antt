-- The states in memory: which of the paper's states a session is in, and the ends that every step comes to.
use Prim.Native.Nat.{ℕ}
use mathlib.Core.Path.{◌≡◌, refl, sym, ◌∙◌, ap, subst}
use mathlib.Core.Bool.{true, false, not}
use mathlib.Core.List.{List, [], ◌∷◌}
use denote.Enum.Declared.{tag_of}
use mir.Val.{has_key}
use types.Run.{OneOf, miss}
use lib.Dec.{T, eqb}
use Rattle.std.specs.Prelude.{Result, Ok, Err}
use Rattle.paper.specs.Command.{FormLine}
use Rattle.paper.specs.Form.{Form}
use Rattle.paper.specs.Refusal as R
use Rattle.paper.specs.Bench as P
use Rattle.command.specs.View.{refusal_of}
use Rattle.command.specs.Answer.{Reports}
use Rattle.command.specs.declared.Refusal.{Refusal}
use Rattle.session.specs.Memory.{Session, Shelf, drafts, drafting, holds, holding, packed_session, packed_shelf}
use Rattle.session.specs.Outcome.{Does, Refuses}
use Rattle.session.specs.contracts.state.Mode as Mode
use Rattle.session.specs.declared.state.Mode.TheVariants as M

-- a session is in one of the states of these tags, which are 0 to 6 in the order of `Mode`
abbrev pub Tagged : List ℕ → Session → Type 0
Tagged ks session = OneOf ks (tag_of Mode.the_type session.held.mode)

-- and is in no other
pub wrong : (ks : List ℕ) (session : Session) (fs : List Form) (n : ℕ) (st : P.Session) → session ≡ packed_session fs n st → Tagged ks session
    → T (not (has_key ks (tag_of Mode.the_type (packed_session fs n st).held.mode))) → ⊥
wrong ks session fs n st e h t = miss ks _ t (rw e at h)

-- a form is collected
pub record IsCollecting (st : P.Session) : Type 0 where
  pub name : List ℕ
  pub lines : List FormLine
  pub is : st ≡ P.collecting name lines

-- a form is open
pub record IsOpened (st : P.Session) : Type 0 where
  pub lines : List FormLine
  pub is : st ≡ P.opened lines

-- an answer is waited for
pub record IsAnswering (st : P.Session) : Type 0 where
  pub lines : List FormLine
  pub given : List (List ℕ)
  pub is : st ≡ P.answering lines given

-- all is answered
pub record IsReady (st : P.Session) : Type 0 where
  pub lines : List FormLine
  pub given : List (List ℕ)
  pub is : st ≡ P.ready lines given

-- sets are printed
pub record IsPrinting (st : P.Session) : Type 0 where
  pub lines : List FormLine
  pub given : List (List ℕ)
  pub sets : ℕ
  pub copies : ℕ
  pub out : ℕ
  pub is : st ≡ P.printing lines given sets copies out

-- what a tag says of a state
abbrev pub ByTag : ℕ → P.Session → Type 0
ByTag k st =
    elim (eqb k 0) [
      | true ↦ st ≡ P.idle
      | false ↦ elim (eqb k 1) [
        | true ↦ IsCollecting st
        | false ↦ elim (eqb k 2) [
          | true ↦ st ≡ P.spoiled
          | false ↦ elim (eqb k 3) [
            | true ↦ IsOpened st
            | false ↦ elim (eqb k 4) [
              | true ↦ IsAnswering st
              | false ↦ elim (eqb k 5) [
                | true ↦ IsReady st
                | false ↦ IsPrinting st
              ]
            ]
          ]
        ]
      ]
    ]

-- a state's own tag says what it is
by_tag : (fs : List Form) (n : ℕ) (st : P.Session) → ByTag (tag_of Mode.the_type (packed_session fs n st).held.mode) st
unfolding packed_session drafting drafts holding holds
by_tag fs n P.idle = refl
by_tag fs n (P.collecting name ls) = record { name = name; lines = ls; is = refl }
by_tag fs n P.spoiled = refl
by_tag fs n (P.opened ls) = record { lines = ls; is = refl }
by_tag fs n (P.answering ls given) = record { lines = ls; given = given; is = refl }
by_tag fs n (P.ready ls given) = record { lines = ls; given = given; is = refl }
by_tag fs n (P.printing ls given k c i) = record { lines = ls; given = given; sets = k; copies = c; out = i; is = refl }

-- the tag of a session says what state it is in
pub seen : (k : ℕ) (session : Session) (fs : List Form) (n : ℕ) (st : P.Session) → session ≡ packed_session fs n st → Tagged (k ∷ []) session → ByTag k st
seen k session fs n st e h = subst (λ x. ByTag x st) h (subst (λ x. ByTag (tag_of Mode.the_type x.held.mode) st) (sym e) (by_tag fs n st))

-- an accepted step with nothing to write
pub does_done : (session : Session) (shelf : Shelf) (fs : List Form) (n : ℕ) (st : P.Session) (b : List ℕ) → session ≡ packed_session fs n st → shelf ≡ packed_shelf fs
    → Does (P.done fs st) n b b (Ok 0) session shelf
unfolding P.done P.outcome R.lent Reports
does_done session shelf fs n st b e f = record { meets = record { reports = refl; buffer = refl }; session = e; shelf = f }

-- a refused step
pub does_refused : (why : Refusal) (session : Session) (shelf : Shelf) (fs : List Form) (n : ℕ) (st : P.Session) (b : List ℕ) → session ≡ packed_session fs n st → shelf ≡ packed_shelf fs
    → Does (P.outcome (R.refused (refusal_of why)) fs st) n b b (Err why) session shelf
unfolding P.outcome R.lent Reports
does_refused why session shelf fs n st b e f = record { meets = record { reports = refl; buffer = refl }; session = e; shelf = f }

-- a refused line, whatever the shelf
pub does_refuse : (why : Refusal) (session : Session) (answer : Result ℕ Refusal) (next : Session) → Refuses why session answer next
    → (shelf : Shelf) (fs : List Form) (n : ℕ) (st : P.Session) (b : List ℕ) → session ≡ packed_session fs n st → shelf ≡ packed_shelf fs
    → Does (P.refuse (refusal_of why) fs st) n b b answer next shelf
unfolding P.refuse
does_refuse why session answer next r shelf fs n st b e f = rw r.says (does_refused why next shelf fs n (P.after_refusal st) b (r.leaves fs n st e) f)

-- what a refused line leaves: a form that is collected is spoiled
pub spoils : (session r : Session) (fs : List Form) (n : ℕ) (st : P.Session) → Tagged (1 ∷ []) session → r ≡ drafting M.Spoiled [] [] → session ≡ packed_session fs n st
    → r ≡ packed_session fs n (P.after_refusal st)
unfolding packed_session P.after_refusal
spoils session r fs n st h q e = q ∙ ap (λ x. packed_session fs n (P.after_refusal x)) (sym (seen 1 session fs n st e h).is)

-- after a refused answer the bench is Idle
pub drops : (session r : Session) (fs : List Form) (n : ℕ) (st : P.Session) → Tagged (4 ∷ []) session → r ≡ drafting M.Idle [] [] → session ≡ packed_session fs n st
    → r ≡ packed_session fs n (P.after_refusal st)
unfolding packed_session P.after_refusal
drops session r fs n st h q e = q ∙ ap (λ x. packed_session fs n (P.after_refusal x)) (sym (seen 4 session fs n st e h).is)

-- else the state stays
pub stays : (session : Session) (fs : List Form) (n : ℕ) (st : P.Session) → Tagged (0 ∷ 2 ∷ 3 ∷ 5 ∷ 6 ∷ []) session → session ≡ packed_session fs n st
    → session ≡ packed_session fs n (P.after_refusal st)
unfolding packed_session drafting drafts P.after_refusal holding holds
stays session fs n P.idle h e = e
stays session fs n (P.collecting name ls) h e = absurd (wrong (0 ∷ 2 ∷ 3 ∷ 5 ∷ 6 ∷ []) session fs n (P.collecting name ls) e h tt)
stays session fs n P.spoiled h e = e
stays session fs n (P.opened ls) h e = e
stays session fs n (P.answering ls given) h e = absurd (wrong (0 ∷ 2 ∷ 3 ∷ 5 ∷ 6 ∷ []) session fs n (P.answering ls given) e h tt)
stays session fs n (P.ready ls given) h e = e
stays session fs n (P.printing ls given k c i) h e = e

-- a refusal by what it leaves
pub refuses : (why : Refusal) (session next : Session) → ((fs : List Form) (n : ℕ) (st : P.Session) → session ≡ packed_session fs n st → next ≡ packed_session fs n (P.after_refusal st)) → Refuses why session (Err why) next
refuses why session next l = record { says = refl; leaves = l }
