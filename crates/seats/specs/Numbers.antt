-- The numbers of a session and of the store as they lie in memory.
use Rattle.std.specs.Prelude.{ℕ, List, [], ◌∷◌, eqb}
use Rattle.paper.specs.Byte.{when◌then◌else◌}
use Rattle.store.specs.Packed.{Store}
use Rattle.session.specs.declared.state.Mode.{Mode}
use Rattle.session.specs.declared.state.Mode.TheVariants as M
use Rattle.session.specs.declared.state.Held.{Held}
use Rattle.seats.specs.declared.numbers.Code.{Code}

-- a state in four numbers
unfoldable pub code_of : Mode → Code
code_of M.Idle = record { tag = 0; a = 0; b = 0; c = 0 }
code_of (M.Collecting lines) = record { tag = 1; a = lines; b = 0; c = 0 }
code_of M.Spoiled = record { tag = 2; a = 0; b = 0; c = 0 }
code_of M.Opened = record { tag = 3; a = 0; b = 0; c = 0 }
code_of (M.Answering k) = record { tag = 4; a = k; b = 0; c = 0 }
code_of M.Ready = record { tag = 5; a = 0; b = 0; c = 0 }
code_of (M.Printing sets copies out) = record { tag = 6; a = sets; b = copies; c = out }

-- and the state of four numbers
unfoldable pub mode_of : (tag a b c : ℕ) → Mode
mode_of tag a b c =
    when eqb tag 1 then M.Collecting a
    else when eqb tag 2 then M.Spoiled
    else when eqb tag 3 then M.Opened
    else when eqb tag 4 then M.Answering a
    else when eqb tag 5 then M.Ready
    else when eqb tag 6 then M.Printing a b c
    else M.Idle

-- the numbers of a session
unfoldable pub held_in : Held → List ℕ
held_in h =
    let code = code_of h.mode in
    code.tag ∷ code.a ∷ code.b ∷ code.c ∷ h.form ∷ h.start ∷ h.size ∷ h.len ∷ h.drafted ∷ h.given ∷ []

-- and those of the store
unfoldable pub filed_in : Store → List ℕ
filed_in s = s.used ∷ s.count ∷ []
