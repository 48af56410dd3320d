-- `kinds::step` meets its contract. Assumes nothing.
use Rattle.machine.proofs.MadeLaws.{step-made}
use Rattle.machine.proofs.kinds.step.Goals as goal

pub returns : goal.returns
returns c = step-made _ _ _ _ c.runtime_step.ensures
