-- The lines that come in threes: those of a bar by their pen, and those of a name by what they do with it.
use Rattle.std.specs.Prelude.{ℕ, List, Result, Ok, Err}
use Rattle.paper.specs.Command as P
use Rattle.command.specs.declared.Refusal.{Refusal}
use Rattle.command.specs.declared.Bar.{Bar}
use Rattle.command.specs.declared.Command.{Command}
use Rattle.command.specs.declared.Command.TheVariants as M
use Rattle.line.specs.declared.read.Errand.{Errand}
use Rattle.line.specs.declared.read.Errand.TheVariants.{Start, Recall, Delete}

-- the command of a bar under a pen
unfoldable pub drawn : P.Pen → Bar → Command
drawn P.black bar = M.Black bar
drawn P.flip bar = M.Flip bar
drawn P.white bar = M.White bar

-- what the parts of a line with a bar give, under a pen
unfoldable pub under : P.Pen → Result Bar Refusal → Result Command Refusal
under pen (Ok bar) = Ok (drawn pen bar)
under pen (Err why) = Err why

-- an errand with a name, in the paper's words
unfoldable pub filing : Errand → List ℕ → P.Filing
filing Start = P.start
filing Recall = P.recall
filing Delete = P.delete
