-- A plan in the making: the definitions and the pieces that are noted so far, and the lines that are left.
use Rattle.std.specs.Prelude.{ℕ, ◌+◌, ◌-◌, ◌^◌, ◌≤◌, ◌<◌, ◌≡◌, true, List, [], ◌∷◌, ◌++◌, length, get_or, replicate, eqb, Option}
use Rattle.paper.specs.Command as P
use Rattle.paper.specs.Command.{FormLine}
use Rattle.paper.specs.Form.{text_of, asked, value_of, len_of}
use Rattle.paper.specs.State.{all_in, Storable}
use Rattle.text.specs.Place.{from}
use Rattle.text.specs.Write.{padded}
use Rattle.command.specs.View.{width}
use Rattle.form.specs.Asked.{define_of}
use Rattle.form.specs.Walk.{first_line}
use Rattle.form.specs.Plan.{number_of, kind_of, step_size, defines_in, Shows, nothing, gives_way, Piece, unless_none, if_value, opens_at, pieces, behind_in, pieces_in, plan_of}
use Rattle.form.specs.Ending.{ending_of, tail_of, number_in}
use Rattle.form.specs.declared.asked.Define.{Define}
use Rattle.form.specs.declared.ending.Ending.{Ending}

-- so many definitions and pieces in memory
unfoldable pub plan_in : List P.Define → List Piece → List ℕ
plan_in ds ps = length ds ∷ length ps ∷ (padded 104 (defines_in ds) ++ padded 126 (pieces_in ps))

-- a plan holds them, and they are no more than it has room for
pub record Holds (ds : List P.Define) (ps : List Piece) (plan : List ℕ) : Type 0 where
  pub is : plan ≡ plan_in ds ps
  pub few : length ds ≤ 26
  pub short : length ps ≤ 42

-- there is room for a piece more
pub record PieceRoom (plan : List ℕ) : Type 0 where
  pub defines : List P.Define
  pub pieces : List Piece
  pub holds : Holds defines pieces plan
  pub room : length pieces < 42
  pub whole : length plan ≡ 232
  pub next : get_or plan 1 0 < 42

-- and for a definition more
pub record DefineRoom (plan : List ℕ) : Type 0 where
  pub defines : List P.Define
  pub pieces : List Piece
  pub holds : Holds defines pieces plan
  pub room : length defines < 26
  pub whole : length plan ≡ 232
  pub next : get_or plan 0 0 < 26

-- a piece is noted
pub record PieceNoted (old : List ℕ) (start end behind : ℕ) (new : List ℕ) : Type 0 where
  pub noted : (ds : List P.Define) (ps : List Piece) (s : Shows) → Holds ds ps old → length ps < 42 → behind ≡ behind_in s
      → Holds ds (ps ++ (record { start = start; end = end; behind = s } ∷ [])) new

-- and one that is open, unless it has no bytes
pub record OpenNoted (old : List ℕ) (start end : ℕ) (new : List ℕ) : Type 0 where
  pub noted : (ds : List P.Define) (ps : List Piece) → Holds ds ps old → length ps < 42
      → Holds ds (ps ++ unless_none (eqb start end) (record { start = start; end = end; behind = nothing }) []) new

-- a definition is noted by its numbers
pub record DefineNoted (old : List ℕ) (kind len step value : ℕ) (new : List ℕ) : Type 0 where
  pub noted : (ds : List P.Define) (ps : List Piece) (d : P.Define) → Holds ds ps old → length ds < 26
      → kind ≡ kind_of d → len ≡ len_of d → step ≡ step_size d → value ≡ number_of (value_of d) → Holds (ds ++ (d ∷ [])) ps new

-- a definition as the code holds it, of a value that there is
pub record Told (define : Define) : Type 0 where
  pub what : P.Define
  pub is : define ≡ define_of what
  pub small : number_of (value_of what) < 26

pub record NoteRoom (plan : List ℕ) (define : Define) : Type 0 where
  pub told : Told define
  pub room : DefineRoom plan

-- a definition is noted
pub record Noted (old : List ℕ) (define : Define) (new : List ℕ) : Type 0 where
  pub noted : (ds : List P.Define) (ps : List Piece) (d : P.Define) → Holds ds ps old → length ds < 26 → define ≡ define_of d → Holds (ds ++ (d ∷ [])) ps new

-- an ending that a line up to a place may have
pub record DrawnRoom (plan : List ℕ) (ending : Option Ending) (end : ℕ) : Type 0 where
  pub room : PieceRoom plan
  pub inside : tail_of ending ≤ end
  pub small : number_in ending < 26

-- the piece that a line ends is noted, if a value goes behind it
pub record DrawnNoted (old : List ℕ) (ending : Option Ending) (start end : ℕ) (new : List ℕ) (r : ℕ) : Type 0 where
  pub noted : (ds : List P.Define) (ps : List Piece) (s : Shows) → Holds ds ps old → length ps < 42 → ending ≡ ending_of s → tail_of ending ≡ length (gives_way s)
      → Holds ds (ps ++ if_value s (record { start = start; end = end - length (gives_way s); behind = s }) []) new
  pub opens : (s : Shows) → ending ≡ ending_of s → r ≡ opens_at s start end

-- an open piece and a definition
pub record GapRoom (plan : List ℕ) (define : Define) : Type 0 where
  pub told : Told define
  pub defines : List P.Define
  pub pieces : List Piece
  pub holds : Holds defines pieces plan
  pub few : length defines < 26
  pub short : length pieces < 42

pub record GapNoted (old : List ℕ) (define : Define) (start at : ℕ) (new : List ℕ) : Type 0 where
  pub noted : (ds : List P.Define) (ps : List Piece) (d : P.Define) → Holds ds ps old → length ds < 26 → length ps < 42 → define ≡ define_of d
      → Holds (ds ++ (d ∷ [])) (ps ++ unless_none (eqb start at) (record { start = start; end = at; behind = nothing }) []) new

-- the lines of a form before a place are noted, and an open piece has begun
pub record Going (ls : List FormLine) (text plan : List ℕ) (start at : ℕ) : Type 0 where
  pub left : List FormLine
  pub defines : List P.Define
  pub done : List Piece
  pub here : from text at ≡ text_of left
  pub within : at ≤ length text
  pub inside : all_in width left ≡ true
  pub holds : Holds defines done plan
  pub asks : asked ls ≡ defines ++ asked left
  pub cuts : pieces 0 0 ls ≡ done ++ pieces start at left
  pub few : length (asked ls) ≤ 26
  pub short : length done + length left ≤ 40

-- a line stands at a place
pub record Walking (plan : List ℕ) (start at : ℕ) (line : List ℕ) : Type 0 where
  pub text : List ℕ
  pub lines : List FormLine
  pub going : Going lines text plan start at
  pub before : at < length text
  pub stands : line ≡ first_line (from text at)
  pub fits : length text < 2 ^ 64

-- it is noted
pub record Walked (old : List ℕ) (start at : ℕ) (line new : List ℕ) (began : ℕ) : Type 0 where
  pub goes : (text : List ℕ) (ls : List FormLine) → Going ls text old start at → at < length text → line ≡ first_line (from text at) → Going ls text new began (at + length line + 1)

-- a form's text that a plan can be made of, and memory for it
pub record Plannable (text plan : List ℕ) : Type 0 where
  pub lines : List FormLine
  pub is : text ≡ text_of lines
  pub storable : Storable width lines
  pub clear : plan ≡ replicate 232 0

-- the plan is made
pub record Plans (text plan : List ℕ) : Type 0 where
  pub plans : (ls : List FormLine) → text ≡ text_of ls → Storable width ls → plan ≡ plan_of ls
