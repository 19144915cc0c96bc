-- Whatever pieces the input comes in, and wherever the loops stop in between, the program says what the paper says of the whole input.
use mathlib.Core.Path.{◌≡◌, refl, sym, ◌∙◌, ap}
use mathlib.Core.List.{List, ◌++◌}
use Prim.Native.Nat.{ℕ}
use Rattle.paper.specs.ClassProgram.{class_program}
use Rattle.command.specs.View.{width}
use Rattle.dialogue.specs.Emit.{Standing, start, emit}
use Rattle.dialogue.proofs.Emitting.{emit_program}
use Rattle.class_program.specs.Chain.{Chain, ended, filled, passed}

-- the steps say all that was to be said
chain_emit : {s : Standing} {input said : List ℕ} → Chain s input said → said ≡ emit s input
unfolding emit
chain_emit ended = refl
chain_emit (filled {s = s} p a more rest) = let l = (p.goes.puts s a).leads in ap (λ x. l.said ++ x) (chain_emit rest) ∙ sym (l.says more)
chain_emit (passed {s = s} p a more rest) = let l = p.leads s a in ap (λ x. l.said ++ x) (chain_emit rest) ∙ sym (l.says more)

-- from the start to the end of the input: the paper's program
pub chain_program : {input said : List ℕ} → Chain start input said → said ≡ class_program width input
chain_program {input} c = chain_emit c ∙ emit_program input
