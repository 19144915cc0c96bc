-- What a line shows at its end, and what it does to a plan: a value ends a piece, and a definition lies between two pieces.
use Prim.Native.Nat.{ℕ, ◌+◌, ◌-◌, ◌*◌, ◌≤◌, ◌<◌, ◌^◌}
use mathlib.Core.Path.{◌≡◌, refl, sym, ◌∙◌, ap}
use mathlib.Core.Bool.{Bool, true, false}
use mathlib.Core.List.{List, [], ◌∷◌, ◌++◌, append-nil}
use native.Mathlib.Omega.{arith}
use lib.ListN.{length}
use Rattle.std.specs.Prelude.{Option, Some, None}
use Rattle.paper.specs.Command as P
use Rattle.paper.specs.Command.{draw_ranges, content_ranges, setting_ranges, value_range, all_of}
use Rattle.paper.specs.Form.{value_of, len_of}
use Rattle.paper.specs.Write.{line_text}
use Rattle.paper.proofs.Test.{Passed, held, held_right}
use Rattle.command.specs.View.{width}
use Rattle.command.specs.declared.Step.{Step}
use Rattle.command.specs.declared.Step.TheVariants.{Up, Down}
use Rattle.form.specs.Asked.{step_in, define_of}
use Rattle.form.specs.Plan.{number_of, kind_of, step_size, Shows, nothing, value, shows_of, gives_way, Piece, if_value, opens_at, behind_in}
use Rattle.form.specs.Ending.{value_ending, ending_of, tail_of, number_in}
use Rattle.form.specs.Noting.{Holds, PieceRoom, NoteRoom, DrawnRoom, GapRoom, PieceNoted, OpenNoted, DefineNoted, Told, Noted, DrawnNoted, GapNoted}
use Rattle.form.specs.declared.asked.Define.{Define}
use Rattle.form.specs.declared.asked.Define.TheVariants.{Counter, Variable}
use Rattle.form.specs.declared.ending.Ending.{Ending}
use Rattle.form.proofs.Memory.{piece_room, define_room}

-- what the ending of a line is told to be
abbrev pub Ends : List ℕ → Option Ending → Type 0
Ends s ending = (d : P.Draw) → s ≡ line_text (P.draw d) → all_of (draw_ranges width d) ≡ true → ending ≡ ending_of (shows_of d)

-- the value of a line in range
abbrev pub Shown : Shows → Type 0
Shown nothing = Unit
Shown (value alone v) = Passed (value_range v)

pub shown_range : (d : P.Draw) → all_of (draw_ranges width d) ≡ true → Shown (shows_of d)
unfolding shows_of draw_ranges content_ranges
shown_range (P.size p₁ p₂) h = tt
shown_range (P.direction d) h = tt
shown_range (P.put s (P.text t)) h = tt
shown_range (P.put s (P.shown v)) h = (held_right (setting_ranges width s) _ (held _ h)).0
shown_range (P.put s (P.joined t v)) h = (held_right (setting_ranges width s) _ (held _ h)).1.0
shown_range (P.bar pen x y w t) h = tt
shown_range (P.frame x₁ y₁ t x₂ y₂) h = tt

-- what goes behind a piece, as a number
pub opens_behind : (n : ℕ) (opens : Bool) → opens ≡ true → (v : P.Value) → n ≡ number_of v → 2 + n * 2 ≡ behind_in (value opens v)
unfolding behind_in
opens_behind n opens t v e = rw (t, e)

pub closes_behind : (n : ℕ) (opens : Bool) → opens ≡ false → (v : P.Value) → n ≡ number_of v → 1 + n * 2 ≡ behind_in (value opens v)
unfolding behind_in
closes_behind n opens t v e = rw (t, e)

-- a counter that goes up
pub up_noted : (old new : List ℕ) (define : Define) (n len by : ℕ) (step : Step) → define ≡ Counter n len step → step ≡ Up by → DefineNoted old 0 len by n new → Noted old define new
unfolding define_of step_in kind_of len_of step_size number_of value_of
up_noted old new define n len by step e u p = record { noted = λ ds ps d h r q. go ds ps d h r (sym e ∙ q) }
  where
    go : (ds : List P.Define) (ps : List Piece) (d : P.Define) → Holds ds ps old → length ds < 26 → Counter n len step ≡ define_of d → Holds (ds ++ (d ∷ [])) ps new
    go ds ps (P.counting n' len' letter (P.up by') prompt) h r q = let long : len ≡ len' = cc in let far : by ≡ by' = cc in let same : n ≡ n' = cc in p.noted ds ps (P.counting n' len' letter (P.up by') prompt) h r refl long far same
    go ds ps (P.counting n' len' letter (P.down by') prompt) h r q = let z : ◌≡◌ {A = ℕ} 0 1 = cc in absurd (omega arith)
    go ds ps (P.varying n' len' letter prompt) h r q = let z : ◌≡◌ {A = ℕ} 0 1 = cc in absurd (omega arith)

-- one that goes down
pub down_noted : (old new : List ℕ) (define : Define) (n len by : ℕ) (step : Step) → define ≡ Counter n len step → step ≡ Down by → DefineNoted old 1 len by n new → Noted old define new
unfolding define_of step_in kind_of len_of step_size number_of value_of
down_noted old new define n len by step e u p = record { noted = λ ds ps d h r q. go ds ps d h r (sym e ∙ q) }
  where
    go : (ds : List P.Define) (ps : List Piece) (d : P.Define) → Holds ds ps old → length ds < 26 → Counter n len step ≡ define_of d → Holds (ds ++ (d ∷ [])) ps new
    go ds ps (P.counting n' len' letter (P.up by') prompt) h r q = let z : ◌≡◌ {A = ℕ} 0 1 = cc in absurd (omega arith)
    go ds ps (P.counting n' len' letter (P.down by') prompt) h r q = let long : len ≡ len' = cc in let far : by ≡ by' = cc in let same : n ≡ n' = cc in p.noted ds ps (P.counting n' len' letter (P.down by') prompt) h r refl long far same
    go ds ps (P.varying n' len' letter prompt) h r q = let z : ◌≡◌ {A = ℕ} 0 1 = cc in absurd (omega arith)

-- a variable
pub variable_noted : (old new : List ℕ) (define : Define) (n len : ℕ) → define ≡ Variable n len → DefineNoted old 2 len 0 (10 + n) new → Noted old define new
unfolding define_of kind_of len_of step_size number_of value_of
variable_noted old new define n len e p = record { noted = λ ds ps d h r q. go ds ps d h r (sym e ∙ q) }
  where
    go : (ds : List P.Define) (ps : List Piece) (d : P.Define) → Holds ds ps old → length ds < 26 → Variable n len ≡ define_of d → Holds (ds ++ (d ∷ [])) ps new
    go ds ps (P.counting n' len' letter by prompt) h r q = let z : ◌≡◌ {A = ℕ} 0 1 = cc in absurd (omega arith)
    go ds ps (P.varying n' len' letter prompt) h r q = let same : n ≡ n' = cc in let long : len ≡ len' = cc in p.noted ds ps (P.varying n' len' letter prompt) h r refl long refl (omega arith)

pub variable_small : (define : Define) (n len : ℕ) → Told define → define ≡ Variable n len → 10 + n < 26
unfolding define_of number_of value_of
variable_small define n len t e = go t.what (sym e ∙ t.is) t.small
  where
    go : (d : P.Define) → Variable n len ≡ define_of d → number_of (value_of d) < 26 → 10 + n < 26
    go (P.counting n' len' letter by prompt) q s = let z : ◌≡◌ {A = ℕ} 0 1 = cc in absurd (omega arith)
    go (P.varying n' len' letter prompt) q s = let same : n ≡ n' = cc in omega arith

pub variable_fits : (plan : List ℕ) (define : Define) (n len : ℕ) → NoteRoom plan define → define ≡ Variable n len → 10 + n < 2 ^ 64
variable_fits plan define n len r e = let h = variable_small define n len r.told e in omega arith

-- the ending of a line that ends in no value
pub whole_shows : (s : Shows) → None ≡ ending_of s → s ≡ nothing
unfolding ending_of
whole_shows nothing q = refl
whole_shows (value alone v) q = cc

-- the numbers of an ending in a value
value_known : (v : P.Value) (alone : Bool) (e : Ending) → e ≡ value_ending v alone → (e.opens ≡ alone) × (e.value ≡ number_of v)
unfolding value_ending number_of
value_known (P.counter m) true e q = (ap (λ x. x.opens) q, ap (λ x. x.value) q)
value_known (P.counter m) false e q = (ap (λ x. x.opens) q, ap (λ x. x.value) q)
value_known (P.variable m) true e q = (ap (λ x. x.opens) q, ap (λ x. x.value) q)
value_known (P.variable m) false e q = (ap (λ x. x.opens) q, ap (λ x. x.value) q)

-- and the value that it shows
pub value_shows : (s : Shows) (e : Ending) → Some e ≡ ending_of s → (v : P.Value) × (s ≡ value e.opens v) × (e.value ≡ number_of v)
unfolding ending_of
value_shows nothing e q = cc
value_shows (value alone v) e q =
    let is : e ≡ value_ending v alone = cc in
    let (same, number) = value_known v alone e is in
    (v, ap (λ b. value b v) (sym same), number)

-- a line that ends in no value leaves the piece open
pub whole_drawn : (old : List ℕ) (ending : Option Ending) (start end : ℕ) → ending ≡ None → DrawnNoted old ending start end old start
unfolding if_value opens_at
whole_drawn old ending start end e =
    record { noted = λ ds ps s h r q t. rw (whole_shows s (sym e ∙ q), append-nil) h; opens = λ s q. rw (whole_shows s (sym e ∙ q)) refl }

pub tail_inside : (ending : Option Ending) (e : Ending) (plan : List ℕ) (end : ℕ) → ending ≡ Some e → DrawnRoom plan ending end → e.tail ≤ end
unfolding tail_of
tail_inside ending e plan end is d = rw is at d.inside

pub number_small : (ending : Option Ending) (e : Ending) (plan : List ℕ) (end : ℕ) → ending ≡ Some e → DrawnRoom plan ending end → e.value < 10000
unfolding number_in
number_small ending e plan end is d = let s : e.value < 26 = rw is at d.small in omega arith

-- a value at the end of a line closes the open piece
pub value_drawn : (old new : List ℕ) (ending : Option Ending) (e : Ending) (start end b : ℕ) → ending ≡ Some e → ((v : P.Value) → e.value ≡ number_of v → b ≡ behind_in (value e.opens v))
    → PieceNoted old start (end - e.tail) b new → DrawnNoted old ending start end new end
unfolding if_value opens_at tail_of
value_drawn old new ending e start end b is k p = record { noted = λ ds ps s h r q t. notes ds ps s h r (sym is ∙ q) (sym (ap tail_of is) ∙ t); opens = λ s q. same s (sym is ∙ q) }
  where
    notes : (ds : List P.Define) (ps : List Piece) (s : Shows) → Holds ds ps old → length ps < 42 → Some e ≡ ending_of s → e.tail ≡ length (gives_way s)
        → Holds ds (ps ++ if_value s (record { start = start; end = end - length (gives_way s); behind = s }) []) new
    notes ds ps s h r q t =
        let (v, shown, number) = value_shows s e q in
        rw (← t, shown) (p.noted ds ps (value e.opens v) h r (k v number))

    same : (s : Shows) → Some e ≡ ending_of s → end ≡ opens_at s start end
    same s q = let (v, shown, number) = value_shows s e q in rw shown refl

-- an open piece and a definition
pub gap_open : (old : List ℕ) (define : Define) → GapRoom old define → PieceRoom old
gap_open old define g = piece_room g.defines g.pieces old g.holds g.short

pub gap_define : (old new : List ℕ) (define : Define) (start at : ℕ) → GapRoom old define → OpenNoted old start at new → NoteRoom new define
gap_define old new define start at g p =
    record { told = g.told; room = define_room g.defines _ new (p.noted g.defines g.pieces g.holds g.short) g.few }

pub gap_noted : (old mid new : List ℕ) (define : Define) (start at : ℕ) → OpenNoted old start at mid → Noted mid define new → GapNoted old define start at new
gap_noted old mid new define start at p q = record { noted = λ ds ps d h r l e. q.noted ds _ d (p.noted ds ps h l) r e }
