-- A form that asks for nothing is Ready.
use Rattle.filing.proofs.Filing.{opening_ready, opening_asks}
use Rattle.filing.proofs.file.opening.Goals as goal

pub returns-then-asked-eq0 : goal.returns-then-asked-eq0
returns-then-asked-eq0 c = search opening_ready

pub returns : goal.returns
returns c = search opening_asks
