-- `device_of` meets its contract. Assumes nothing.
use mathlib.Core.Path.{sym, ◌∙◌}
use native.Mathlib.Omega.{arith}
use lib.Seq.{take_all}
use Rattle.machine.proofs.device_of.Goals as goal

pub returns : goal.returns
returns c = sym (take_all 26 _ (omega (arith, c.copy.auto))) ∙ c.copy.ensures.first ∙ take_all 26 c.args.words.now (omega (arith, c.requires))
