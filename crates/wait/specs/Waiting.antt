-- Bytes of a line that wait: those that are not dropped, and of them as many as a line's refusal needs.
use Rattle.std.specs.Prelude.{ℕ, ◌≤◌, ◌≡◌, Bool, true, false, List, ◌++◌, length, take, drop, eqb, if◌then◌else◌}
use Rattle.paper.specs.Byte.{when◌then◌else◌}
use Rattle.paper.specs.Line.{kept}
use Rattle.command.specs.declared.Refusal.{Refusal}
use Rattle.command.specs.declared.Refusal.TheVariants as W

-- the first bytes of a line, as many as memory has, stand at its front
pub record WaitsIn (size : ℕ) (line memory : List ℕ) (len : ℕ) : Type 0 where
  pub front : take len memory ≡ take size line
  pub counts : len ≡ length (take size line)
  pub room : length memory ≡ size

-- some line waits
pub record WaitingIn (size : ℕ) (memory : List ℕ) (len : ℕ) : Type 0 where
  pub line : List ℕ
  pub waits : WaitsIn size line memory len

-- more of it came: what is not dropped of that waits behind it, and memory behind all that waits is as it was
pub record ComesIn (size : ℕ) (old : List ℕ) (len : ℕ) (s new : List ℕ) (r : ℕ) : Type 0 where
  pub comes : (line : List ℕ) → WaitsIn size line old len → WaitsIn size (line ++ kept s) new r
  pub behind : drop r new ≡ drop r old

-- `gather`: of a line that lies elsewhere whole nothing waits, and memory is as it was; else its rest waits too
pub record Gathered (room : ℕ) (old : List ℕ) (len : ℕ) (rest : List ℕ) (whole : Bool) (new : List ℕ) (n : ℕ) : Type 0 where
  pub inside : n ≤ length new
  pub size : length new ≡ length old
  pub none : whole ≡ true → (new ≡ old) × (n ≡ 0)
  pub more : whole ≡ false → ComesIn room old len rest new n

-- the bytes of a line: elsewhere, or gathered
unfoldable pub line_by : Bool → List ℕ → List ℕ → List ℕ
line_by whole rest gathered = if whole then rest else gathered

-- the same of a tablet's line, of which 257 bytes tell all
abbrev pub Waits : (line memory : List ℕ) (len : ℕ) → Type 0
Waits line memory len = WaitsIn 257 line memory len

abbrev pub Waiting : (memory : List ℕ) (len : ℕ) → Type 0
Waiting memory len = WaitingIn 257 memory len

abbrev pub Comes : (old : List ℕ) (len : ℕ) (s new : List ℕ) (r : ℕ) → Type 0
Comes old len s new r = ComesIn 257 old len s new r

-- why a line with a control byte among those that wait is refused: all that may wait is a line that is too long
unfoldable pub fault_of : ℕ → Refusal
fault_of n = when eqb n 257 then W.TooLong else W.ControlByte
