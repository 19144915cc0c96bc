-- 'The program and one whole run': input bytes to output bytes and error bytes.
use Rattle.std.specs.Prelude.{ℕ, zero, suc, ◌-◌, List, [], ◌∷◌, ◌++◌}
use Rattle.paper.specs.Byte.{code, decimal}
use Rattle.paper.specs.Line.{lf, kept, cut}
use Rattle.paper.specs.Refusal.{figures, Answer, accepted, refused}
use Rattle.paper.specs.Bench.{Session, idle, collecting, spoiled, opened, answering, ready, printing, Bench, begin, Outcome, hear, take_set}

-- what the program writes: to standard output and to standard error
pub record Output : Type 0 where
  pub out : List ℕ
  pub err : List ℕ

-- a buffer in which every reply and every set has room: 40 lines of 257 bytes, 2 for `N`, 9 for `P1,65535`
unfoldable pub enough : ℕ
enough = 10291

-- numbers in decimal, with a space between each two
unfoldable pub spaced : ℕ → List ℕ → List ℕ
spaced n [] = decimal n
spaced n (m ∷ more) = decimal n ++ (code " " ∷ spaced m more)

-- the bytes that an accepted call wrote
unfoldable pub out_of : Answer → List ℕ
out_of (accepted bytes) = bytes
out_of (refused r) = []

-- a line for a refusal: the input line's number, the refusal's, and for 9 the form's line
unfoldable pub err_of : ℕ → Answer → List ℕ
err_of k (accepted bytes) = []
err_of k (refused r) = spaced k (figures r) ++ (lf ∷ [])

-- the sets that are still to be taken
unfoldable pub to_take : Session → ℕ
to_take idle = 0
to_take (collecting name ls) = 0
to_take spoiled = 0
to_take (opened ls) = 0
to_take (answering ls answers) = 0
to_take (ready ls answers) = 0
to_take (printing ls answers n c i) = n - i

-- the bytes that so many takes give, one after the other
unfoldable pub takes : ℕ → Bench → List ℕ
takes zero b = []
takes (suc n) b = out_of (take_set enough b).answer ++ takes n (take_set enough b).next

-- the bench that so many takes leave
unfoldable pub after_takes : ℕ → Bench → Bench
after_takes zero b = b
after_takes (suc n) b = after_takes n (take_set enough b).next

-- the run from an input line of a number on; all sets are taken after each line
unfoldable pub runs : ℕ → ℕ → Bench → List (List ℕ) → Output
runs width k b [] = record { out = []; err = [] }
runs width k b (s ∷ ss) =
    let o : Outcome = hear width enough b s in
    let n : ℕ = to_take o.next.session in
    let later : Output = runs width (suc k) (after_takes n o.next) ss in
    record { out = out_of o.answer ++ takes n o.next ++ later.out; err = err_of k o.answer ++ later.err }

-- the program: its input without CR and 1AH, a line at a time, from the bench that is Idle and empty
unfoldable pub program : ℕ → List ℕ → Output
program width input = runs width 1 begin (cut (kept input))
