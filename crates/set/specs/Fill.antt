-- The part of a text that is shown.
use Rattle.std.specs.Prelude.{ℕ, ◌≤◌, Bool, true, false, List}
use Rattle.form.specs.Walk.{part_of}

-- a part of the answers, or of the form's text
unfoldable pub shown_part : Bool → List ℕ → List ℕ → ℕ → ℕ → List ℕ
shown_part true text answers start end = part_of answers start end
shown_part false text answers start end = part_of text start end

-- the part lies in what it is a part of
unfoldable pub Within : Bool → (text answers start end : ℕ) → Type 0
Within true text answers start end = (start ≤ end) × (end ≤ answers)
Within false text answers start end = (start ≤ end) × (end ≤ text)
