-- Bytes of an input line that wait: those that are not dropped, and of them as many as tell what the line leads to.
use Rattle.std.specs.Prelude.{ℕ, List}
use Rattle.wait.specs.Waiting.{WaitsIn, WaitingIn, ComesIn}

-- the first 263 bytes of an input line stand at the front of memory
abbrev pub Waits : (line memory : List ℕ) (len : ℕ) → Type 0
Waits line memory len = WaitsIn 263 line memory len

-- some line waits
abbrev pub Waiting : (memory : List ℕ) (len : ℕ) → Type 0
Waiting memory len = WaitingIn 263 memory len

-- more of it came: what is not dropped of that waits behind it
abbrev pub Comes : (old : List ℕ) (len : ℕ) (s new : List ℕ) (r : ℕ) → Type 0
Comes old len s new r = ComesIn 263 old len s new r
