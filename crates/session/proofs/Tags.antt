-- A state that is none of those that a match has arms for: one of the others, by their tags.
use Prim.Native.Nat.{ℕ}
use mathlib.Core.Path.{◌≡◌, refl}
use mathlib.Core.List.{List, [], ◌∷◌}
use denote.Enum.Declared.{tag_of}
use types.Run.{OneOf, hit}
use Rattle.session.specs.contracts.state.Mode as Mode
use Rattle.session.specs.declared.state.Mode.{Mode as State}
use Rattle.session.specs.declared.state.Mode.TheVariants.{Idle, Collecting, Spoiled, Opened, Answering, Ready, Printing}

-- a state is one of those of these tags
abbrev pub OneTag : List ℕ → State → Type 0
OneTag ks m = OneOf ks (tag_of Mode.the_type m)

pub not_idle : (m : State) → (m ≡ Idle → ⊥) → OneTag (1 ∷ 2 ∷ 3 ∷ 4 ∷ 5 ∷ 6 ∷ []) m
not_idle Idle h = absurd (h refl)
not_idle (Collecting l) h = hit (1 ∷ 2 ∷ 3 ∷ 4 ∷ 5 ∷ 6 ∷ []) 1 tt
not_idle Spoiled h = hit (1 ∷ 2 ∷ 3 ∷ 4 ∷ 5 ∷ 6 ∷ []) 2 tt
not_idle Opened h = hit (1 ∷ 2 ∷ 3 ∷ 4 ∷ 5 ∷ 6 ∷ []) 3 tt
not_idle (Answering k) h = hit (1 ∷ 2 ∷ 3 ∷ 4 ∷ 5 ∷ 6 ∷ []) 4 tt
not_idle Ready h = hit (1 ∷ 2 ∷ 3 ∷ 4 ∷ 5 ∷ 6 ∷ []) 5 tt
not_idle (Printing a b c) h = hit (1 ∷ 2 ∷ 3 ∷ 4 ∷ 5 ∷ 6 ∷ []) 6 tt

pub not_collecting : (m : State) → ((l : ℕ) → m ≡ Collecting l → ⊥) → OneTag (0 ∷ 2 ∷ 3 ∷ 4 ∷ 5 ∷ 6 ∷ []) m
not_collecting Idle h = hit (0 ∷ 2 ∷ 3 ∷ 4 ∷ 5 ∷ 6 ∷ []) 0 tt
not_collecting (Collecting l) h = absurd (h l refl)
not_collecting Spoiled h = hit (0 ∷ 2 ∷ 3 ∷ 4 ∷ 5 ∷ 6 ∷ []) 2 tt
not_collecting Opened h = hit (0 ∷ 2 ∷ 3 ∷ 4 ∷ 5 ∷ 6 ∷ []) 3 tt
not_collecting (Answering k) h = hit (0 ∷ 2 ∷ 3 ∷ 4 ∷ 5 ∷ 6 ∷ []) 4 tt
not_collecting Ready h = hit (0 ∷ 2 ∷ 3 ∷ 4 ∷ 5 ∷ 6 ∷ []) 5 tt
not_collecting (Printing a b c) h = hit (0 ∷ 2 ∷ 3 ∷ 4 ∷ 5 ∷ 6 ∷ []) 6 tt

pub not_opened : (m : State) → (m ≡ Opened → ⊥) → OneTag (0 ∷ 1 ∷ 2 ∷ 4 ∷ 5 ∷ 6 ∷ []) m
not_opened Idle h = hit (0 ∷ 1 ∷ 2 ∷ 4 ∷ 5 ∷ 6 ∷ []) 0 tt
not_opened (Collecting l) h = hit (0 ∷ 1 ∷ 2 ∷ 4 ∷ 5 ∷ 6 ∷ []) 1 tt
not_opened Spoiled h = hit (0 ∷ 1 ∷ 2 ∷ 4 ∷ 5 ∷ 6 ∷ []) 2 tt
not_opened Opened h = absurd (h refl)
not_opened (Answering k) h = hit (0 ∷ 1 ∷ 2 ∷ 4 ∷ 5 ∷ 6 ∷ []) 4 tt
not_opened Ready h = hit (0 ∷ 1 ∷ 2 ∷ 4 ∷ 5 ∷ 6 ∷ []) 5 tt
not_opened (Printing a b c) h = hit (0 ∷ 1 ∷ 2 ∷ 4 ∷ 5 ∷ 6 ∷ []) 6 tt

pub not_ready : (m : State) → (m ≡ Ready → ⊥) → OneTag (0 ∷ 1 ∷ 2 ∷ 3 ∷ 4 ∷ 6 ∷ []) m
not_ready Idle h = hit (0 ∷ 1 ∷ 2 ∷ 3 ∷ 4 ∷ 6 ∷ []) 0 tt
not_ready (Collecting l) h = hit (0 ∷ 1 ∷ 2 ∷ 3 ∷ 4 ∷ 6 ∷ []) 1 tt
not_ready Spoiled h = hit (0 ∷ 1 ∷ 2 ∷ 3 ∷ 4 ∷ 6 ∷ []) 2 tt
not_ready Opened h = hit (0 ∷ 1 ∷ 2 ∷ 3 ∷ 4 ∷ 6 ∷ []) 3 tt
not_ready (Answering k) h = hit (0 ∷ 1 ∷ 2 ∷ 3 ∷ 4 ∷ 6 ∷ []) 4 tt
not_ready Ready h = absurd (h refl)
not_ready (Printing a b c) h = hit (0 ∷ 1 ∷ 2 ∷ 3 ∷ 4 ∷ 6 ∷ []) 6 tt

pub not_printing : (m : State) → ((a b c : ℕ) → m ≡ Printing a b c → ⊥) → OneTag (0 ∷ 1 ∷ 2 ∷ 3 ∷ 4 ∷ 5 ∷ []) m
not_printing Idle h = hit (0 ∷ 1 ∷ 2 ∷ 3 ∷ 4 ∷ 5 ∷ []) 0 tt
not_printing (Collecting l) h = hit (0 ∷ 1 ∷ 2 ∷ 3 ∷ 4 ∷ 5 ∷ []) 1 tt
not_printing Spoiled h = hit (0 ∷ 1 ∷ 2 ∷ 3 ∷ 4 ∷ 5 ∷ []) 2 tt
not_printing Opened h = hit (0 ∷ 1 ∷ 2 ∷ 3 ∷ 4 ∷ 5 ∷ []) 3 tt
not_printing (Answering k) h = hit (0 ∷ 1 ∷ 2 ∷ 3 ∷ 4 ∷ 5 ∷ []) 4 tt
not_printing Ready h = hit (0 ∷ 1 ∷ 2 ∷ 3 ∷ 4 ∷ 5 ∷ []) 5 tt
not_printing (Printing a b c) h = absurd (h a b c refl)

pub not_answering : (m : State) → ((k : ℕ) → m ≡ Answering k → ⊥) → OneTag (0 ∷ 1 ∷ 2 ∷ 3 ∷ 5 ∷ 6 ∷ []) m
not_answering Idle h = hit (0 ∷ 1 ∷ 2 ∷ 3 ∷ 5 ∷ 6 ∷ []) 0 tt
not_answering (Collecting l) h = hit (0 ∷ 1 ∷ 2 ∷ 3 ∷ 5 ∷ 6 ∷ []) 1 tt
not_answering Spoiled h = hit (0 ∷ 1 ∷ 2 ∷ 3 ∷ 5 ∷ 6 ∷ []) 2 tt
not_answering Opened h = hit (0 ∷ 1 ∷ 2 ∷ 3 ∷ 5 ∷ 6 ∷ []) 3 tt
not_answering (Answering k) h = absurd (h k refl)
not_answering Ready h = hit (0 ∷ 1 ∷ 2 ∷ 3 ∷ 5 ∷ 6 ∷ []) 5 tt
not_answering (Printing a b c) h = hit (0 ∷ 1 ∷ 2 ∷ 3 ∷ 5 ∷ 6 ∷ []) 6 tt

pub not_draft_or_answer : (m : State) → ((l : ℕ) → m ≡ Collecting l → ⊥) → ((k : ℕ) → m ≡ Answering k → ⊥) → OneTag (0 ∷ 2 ∷ 3 ∷ 5 ∷ 6 ∷ []) m
not_draft_or_answer Idle h g = hit (0 ∷ 2 ∷ 3 ∷ 5 ∷ 6 ∷ []) 0 tt
not_draft_or_answer (Collecting l) h g = absurd (h l refl)
not_draft_or_answer Spoiled h g = hit (0 ∷ 2 ∷ 3 ∷ 5 ∷ 6 ∷ []) 2 tt
not_draft_or_answer Opened h g = hit (0 ∷ 2 ∷ 3 ∷ 5 ∷ 6 ∷ []) 3 tt
not_draft_or_answer (Answering k) h g = absurd (g k refl)
not_draft_or_answer Ready h g = hit (0 ∷ 2 ∷ 3 ∷ 5 ∷ 6 ∷ []) 5 tt
not_draft_or_answer (Printing a b c) h g = hit (0 ∷ 2 ∷ 3 ∷ 5 ∷ 6 ∷ []) 6 tt

pub not_draft_or_spoiled : (m : State) → ((l : ℕ) → m ≡ Collecting l → ⊥) → (m ≡ Spoiled → ⊥) → OneTag (0 ∷ 3 ∷ 4 ∷ 5 ∷ 6 ∷ []) m
not_draft_or_spoiled Idle h g = hit (0 ∷ 3 ∷ 4 ∷ 5 ∷ 6 ∷ []) 0 tt
not_draft_or_spoiled (Collecting l) h g = absurd (h l refl)
not_draft_or_spoiled Spoiled h g = absurd (g refl)
not_draft_or_spoiled Opened h g = hit (0 ∷ 3 ∷ 4 ∷ 5 ∷ 6 ∷ []) 3 tt
not_draft_or_spoiled (Answering k) h g = hit (0 ∷ 3 ∷ 4 ∷ 5 ∷ 6 ∷ []) 4 tt
not_draft_or_spoiled Ready h g = hit (0 ∷ 3 ∷ 4 ∷ 5 ∷ 6 ∷ []) 5 tt
not_draft_or_spoiled (Printing a b c) h g = hit (0 ∷ 3 ∷ 4 ∷ 5 ∷ 6 ∷ []) 6 tt

-- the state by its arm
pub idle_tag : (m : State) → m ≡ Idle → OneTag (0 ∷ []) m
idle_tag m e = rw e refl

pub collecting_tag : (m : State) {l : ℕ} → m ≡ Collecting l → OneTag (1 ∷ []) m
collecting_tag m {l} e = rw e refl

pub spoiled_tag : (m : State) → m ≡ Spoiled → OneTag (2 ∷ []) m
spoiled_tag m e = rw e refl

pub opened_tag : (m : State) → m ≡ Opened → OneTag (3 ∷ []) m
opened_tag m e = rw e refl

pub answering_tag : (m : State) {k : ℕ} → m ≡ Answering k → OneTag (4 ∷ []) m
answering_tag m {k} e = rw e refl

pub ready_tag : (m : State) → m ≡ Ready → OneTag (5 ∷ []) m
ready_tag m e = rw e refl

pub printing_tag : (m : State) {a b c : ℕ} → m ≡ Printing a b c → OneTag (6 ∷ []) m
printing_tag m {a} {b} {c} e = rw e refl

pub ruleset tags = (not_idle, not_collecting, not_opened, not_ready, not_printing, not_answering, not_draft_or_answer, not_draft_or_spoiled)
