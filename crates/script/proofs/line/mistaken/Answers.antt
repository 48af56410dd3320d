-- `line::mistaken` meets its contract. Assumes nothing.
use mathlib.Core.Path.{ap}
use Rattle.script.specs.Reads.{line_in}
use Rattle.script.specs.Script.{mistaken}
use Rattle.script.proofs.line.mistaken.Goals as goal

pub returns : goal.returns
returns c = λ words sized. record { read = ap (mistaken (line_in c.args.reading words)) c.number_of_mistake.ensures; sized = sized }
