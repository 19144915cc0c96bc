-- What a call with a lent buffer gives: its answer, and the buffer after it.
use Rattle.std.specs.Prelude.{◌≡◌, List, ℕ, Result, Ok, Err, length}
use Rattle.paper.specs.Refusal as R
use Rattle.command.specs.View.{refusal_of}
use Rattle.command.specs.declared.Refusal.{Refusal}

-- a call's answer reports the paper's: as many bytes, or the same refusal
unfoldable pub Reports : Result ℕ Refusal → R.Answer → Type 0
Reports (Ok len) (R.accepted bytes) = len ≡ length bytes
Reports (Ok len) (R.refused r) = ⊥
Reports (Err why) (R.accepted bytes) = ⊥
Reports (Err why) (R.refused r) = refusal_of why ≡ r

-- a call gives what the paper says: its answer, and the lent buffer after it
pub record Meets (paper : R.Answer) (old new : List ℕ) (r : Result ℕ Refusal) : Type 0 where
  pub reports : Reports r paper
  pub buffer : new ≡ R.lent old paper
