-- Whatever pieces the input comes in, and wherever the loops stop in between, the program says what the paper says of the whole input.
use mathlib.Core.Path.{◌≡◌, sym, ◌∙◌, ap}
use mathlib.Core.List.{List, []}
use Prim.Native.Nat.{ℕ}
use Rattle.paper.specs.Program.{Output, takes, program}
use Rattle.command.specs.View.{width}
use Rattle.flow.specs.Emit.{Standing, start, silence, joined, sets_say, emit}
use Rattle.program.specs.Chain.{Chain, ended, filled, passed}
use Rattle.flow.proofs.Emitting.{emit_program}

-- nothing is left to say
emit_ends : (s : Standing) → s.left ≡ 0 → emit s [] ≡ silence
unfolding emit sets_say takes
emit_ends s e = rw e

-- the steps say all that was to be said
chain_emit : {s : Standing} {input : List ℕ} {said : Output} → Chain s input said → said ≡ emit s input
chain_emit (ended {s = s} e) = sym (emit_ends s e)
chain_emit (filled {s = s} p a more rest) = let l = (p.goes.puts s a).leads in ap (joined l.said) (chain_emit rest) ∙ sym (l.says more)
chain_emit (passed {s = s} p a more rest) = let l = p.leads s a in ap (joined l.said) (chain_emit rest) ∙ sym (l.says more)

-- from the start to the end of the input: the paper's program, on both outputs
pub chain_program : {input : List ℕ} {said : Output} → Chain start input said → said ≡ program width input
chain_program {input} c = chain_emit c ∙ emit_program input
