-- What steps that keep the promises of the loops say together, one behind the other.
use Rattle.std.specs.Prelude.{ℕ, ◌≡◌, Bool, List, [], ◌++◌}
use Rattle.paper.specs.Program.{Output}
use Rattle.text.specs.Place.{from}
use Rattle.flow.specs.Emit.{Standing, silence, joined}
use Rattle.flow.specs.Fill.{Desk, Place, At, Fills}
use Rattle.program.specs.Pass.{Passes}

-- from a standing through all input that is to come, and what was said on the way: each step begins with a run that stands where
-- the last one led, at the input that was left there, whatever pieces it comes in
pub data Chain : Standing → List ℕ → Output → Type 0 where
  ended : {s : Standing} → s.left ≡ 0 → Chain s [] silence
  filled : {s : Standing} {input : List ℕ} {p : Place} {out₀ err₀ : List ℕ} {q : Place} {used : Bool} {out err : List ℕ} (f : Fills input p out₀ err₀ q used out err) (a : At p.desk s)
      (more : List ℕ) {later : Output} → Chain (f.goes.puts s a).leads.here (from input q.next ++ more) later
      → Chain s (from input p.next ++ more) (joined (f.goes.puts s a).leads.said later)
  passed : {s : Standing} {d : Desk} {input : List ℕ} {e : Desk} {next : ℕ} {going : Bool} (p : Passes d input e next going) (a : At d s)
      (more : List ℕ) {later : Output} → Chain (p.leads s a).here (from input next ++ more) later
      → Chain s (input ++ more) (joined (p.leads s a).said later)
