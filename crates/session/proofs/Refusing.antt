-- Refusal 3: for each command, the states in which it is not taken.
use Prim.Native.Nat.{ℕ}
use mathlib.Core.Path.{◌≡◌, refl}
use mathlib.Core.List.{List, [], ◌∷◌}
use Rattle.std.specs.Prelude.{Result}
use Rattle.paper.specs.Command.{Command, FormLine, Filing, start, finish, inform, recall, delete, keep, file, new, ask, print}
use Rattle.paper.specs.Form.{Form}
use Rattle.paper.specs.Refusal.{not_now}
use Rattle.paper.specs.Bench as P
use Rattle.command.specs.View.{refusal_of}
use Rattle.command.specs.declared.Refusal.{Refusal}
use Rattle.command.specs.declared.Refusal.TheVariants as W
use Rattle.session.specs.Memory.{Session, drafts, drafting, holds, holding, packed_session, if_idle, after_filing, after_command}
use Rattle.session.specs.Outcome.{Minds, Refuses, obey}
use Rattle.session.proofs.Held.{Tagged, wrong, seen, does_refuse}

-- a command is not taken in a session: the paper refuses it, and no other form is held open behind it
pub record NotTaken (session : Session) (c : Command) : Type 0 where
  pub refused : (room : ℕ) (fs : List Form) (n : ℕ) (st : P.Session) → session ≡ packed_session fs n st → obey room fs st c ≡ P.refuse not_now fs st
  pub stays : (fs : List Form) (n : ℕ) (st : P.Session) → session ≡ packed_session fs n st → after_command n fs st c ≡ n

-- a step that refuses it obeys it, beside every shelf
pub minds_not_now : (session : Session) (c : Command) (answer : Result ℕ Refusal) (next : Session) → Refuses W.NotNow session answer next → NotTaken session c → Minds session c answer next
unfolding refusal_of
minds_not_now session c answer next r t =
    record {
      minds = λ shelf. record {
        heeds = λ b. record {
          obeys = λ a. rw (t.refused _ a.forms a.number a.state a.here, t.stays a.forms a.number a.state a.here)
              (does_refuse W.NotNow session answer next r shelf a.forms a.number a.state b a.here a.there);
        };
      };
    }

-- `?` is taken in Open only
pub ask_not_now : (session : Session) → Tagged (0 ∷ 1 ∷ 2 ∷ 4 ∷ 5 ∷ 6 ∷ []) session → NotTaken session ask
unfolding packed_session drafting drafts holding holds obey after_command after_filing if_idle P.in_idle P.filed P.in_collecting P.in_spoiled P.in_opened P.in_ready P.in_printing
ask_not_now session h = record { refused = no; stays = λ fs n st e. refl }
  where
    no : (room : ℕ) (fs : List Form) (n : ℕ) (st : P.Session) → session ≡ packed_session fs n st → obey room fs st ask ≡ P.refuse not_now fs st
    no room fs n P.idle e = refl
    no room fs n (P.collecting name ls) e = refl
    no room fs n P.spoiled e = refl
    no room fs n (P.opened ls) e = absurd (wrong (0 ∷ 1 ∷ 2 ∷ 4 ∷ 5 ∷ 6 ∷ []) session fs n (P.opened ls) e h tt)
    no room fs n (P.answering ls given) e = refl
    no room fs n (P.ready ls given) e = refl
    no room fs n (P.printing ls given k c i) e = refl

-- `P` is taken in Ready only
pub print_not_now : (sets copies : ℕ) (session : Session) → Tagged (0 ∷ 1 ∷ 2 ∷ 3 ∷ 4 ∷ 6 ∷ []) session → NotTaken session (print sets copies)
unfolding packed_session drafting drafts holding holds obey after_command after_filing if_idle P.in_idle P.filed P.in_collecting P.in_spoiled P.in_opened P.in_ready P.in_printing
print_not_now sets copies session h = record { refused = no; stays = λ fs n st e. refl }
  where
    no : (room : ℕ) (fs : List Form) (n : ℕ) (st : P.Session) → session ≡ packed_session fs n st → obey room fs st (print sets copies) ≡ P.refuse not_now fs st
    no room fs n P.idle e = refl
    no room fs n (P.collecting name ls) e = refl
    no room fs n P.spoiled e = refl
    no room fs n (P.opened ls) e = refl
    no room fs n (P.answering ls given) e = refl
    no room fs n (P.ready ls given) e = absurd (wrong (0 ∷ 1 ∷ 2 ∷ 3 ∷ 4 ∷ 6 ∷ []) session fs n (P.ready ls given) e h tt)
    no room fs n (P.printing ls given k c i) e = refl

-- a line to the store other than `FE` is taken in Idle only
pub file_not_now : (f : Filing) → ((o p : P.Outcome) → P.on_finish f o p ≡ p) → (session : Session) → Tagged (1 ∷ 2 ∷ 3 ∷ 4 ∷ 5 ∷ 6 ∷ []) session → NotTaken session (file f)
unfolding packed_session drafting drafts holding holds obey after_command after_filing if_idle P.in_idle P.filed P.in_collecting P.in_spoiled P.in_opened P.in_ready P.in_printing
file_not_now f o session h = record { refused = no; stays = same }
  where
    no : (room : ℕ) (fs : List Form) (n : ℕ) (st : P.Session) → session ≡ packed_session fs n st → obey room fs st (file f) ≡ P.refuse not_now fs st
    no room fs n P.idle e = absurd (wrong (1 ∷ 2 ∷ 3 ∷ 4 ∷ 5 ∷ 6 ∷ []) session fs n P.idle e h tt)
    no room fs n (P.collecting name ls) e = o _ _
    no room fs n P.spoiled e = o _ _
    no room fs n (P.opened ls) e = refl
    no room fs n (P.answering ls given) e = refl
    no room fs n (P.ready ls given) e = refl
    no room fs n (P.printing ls given k c i) e = refl

    by : (g : Filing) (fs : List Form) (n : ℕ) (st : P.Session) → ((a b : ℕ) → if_idle st a b ≡ b) → after_filing n fs st g ≡ n
    by (start name) fs n st k = refl
    by finish fs n st k = refl
    by inform fs n st k = refl
    by (recall name) fs n st k = k _ n
    by (delete name) fs n st k = refl

    same : (fs : List Form) (n : ℕ) (st : P.Session) → session ≡ packed_session fs n st → after_command n fs st (file f) ≡ n
    same fs n P.idle e = absurd (wrong (1 ∷ 2 ∷ 3 ∷ 4 ∷ 5 ∷ 6 ∷ []) session fs n P.idle e h tt)
    same fs n (P.collecting name ls) e = by f fs n (P.collecting name ls) (λ a b. refl)
    same fs n P.spoiled e = by f fs n P.spoiled (λ a b. refl)
    same fs n (P.opened ls) e = by f fs n (P.opened ls) (λ a b. refl)
    same fs n (P.answering ls given) e = by f fs n (P.answering ls given) (λ a b. refl)
    same fs n (P.ready ls given) e = by f fs n (P.ready ls given) (λ a b. refl)
    same fs n (P.printing ls given k c i) e = by f fs n (P.printing ls given k c i) (λ a b. refl)

-- `FE` is taken while a form is collected
pub finish_not_now : (session : Session) → Tagged (0 ∷ 3 ∷ 4 ∷ 5 ∷ 6 ∷ []) session → NotTaken session (file finish)
unfolding packed_session drafting drafts holding holds obey after_command after_filing if_idle P.in_idle P.filed P.in_collecting P.in_spoiled P.in_opened P.in_ready P.in_printing
finish_not_now session h = record { refused = no; stays = λ fs n st e. refl }
  where
    no : (room : ℕ) (fs : List Form) (n : ℕ) (st : P.Session) → session ≡ packed_session fs n st → obey room fs st (file finish) ≡ P.refuse not_now fs st
    no room fs n P.idle e = refl
    no room fs n (P.collecting name ls) e = absurd (wrong (0 ∷ 3 ∷ 4 ∷ 5 ∷ 6 ∷ []) session fs n (P.collecting name ls) e h tt)
    no room fs n P.spoiled e = absurd (wrong (0 ∷ 3 ∷ 4 ∷ 5 ∷ 6 ∷ []) session fs n P.spoiled e h tt)
    no room fs n (P.opened ls) e = refl
    no room fs n (P.answering ls given) e = refl
    no room fs n (P.ready ls given) e = refl
    no room fs n (P.printing ls given k c i) e = refl

-- and so is a line for a form
pub keep_not_now : (l : FormLine) (session : Session) → Tagged (0 ∷ 3 ∷ 4 ∷ 5 ∷ 6 ∷ []) session → NotTaken session (keep l)
unfolding packed_session drafting drafts holding holds obey after_command after_filing if_idle P.in_idle P.filed P.in_collecting P.in_spoiled P.in_opened P.in_ready P.in_printing
keep_not_now l session h = record { refused = no; stays = λ fs n st e. refl }
  where
    no : (room : ℕ) (fs : List Form) (n : ℕ) (st : P.Session) → session ≡ packed_session fs n st → obey room fs st (keep l) ≡ P.refuse not_now fs st
    no room fs n P.idle e = refl
    no room fs n (P.collecting name ls) e = absurd (wrong (0 ∷ 3 ∷ 4 ∷ 5 ∷ 6 ∷ []) session fs n (P.collecting name ls) e h tt)
    no room fs n P.spoiled e = absurd (wrong (0 ∷ 3 ∷ 4 ∷ 5 ∷ 6 ∷ []) session fs n P.spoiled e h tt)
    no room fs n (P.opened ls) e = refl
    no room fs n (P.answering ls given) e = refl
    no room fs n (P.ready ls given) e = refl
    no room fs n (P.printing ls given k c i) e = refl

-- `N` is not taken while a form is collected
pub new_collecting : (session : Session) → Tagged (1 ∷ []) session → NotTaken session new
unfolding obey after_command P.in_collecting
new_collecting session h = record { refused = λ room fs n st e. let i = seen 1 session fs n st e h in rw i.is; stays = λ fs n st e. refl }

-- or is spoiled
pub new_spoiled : (session : Session) → Tagged (2 ∷ []) session → NotTaken session new
unfolding obey after_command P.in_spoiled
new_spoiled session h = record { refused = λ room fs n st e. let i = seen 2 session fs n st e h in rw i; stays = λ fs n st e. refl }
