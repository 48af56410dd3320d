-- `kinds::run` meets its contract. Assumes nothing.
use Rattle.machine.proofs.MadeLaws.{run-made}
use Rattle.machine.proofs.kinds.run.Goals as goal

pub returns : goal.returns
returns c = rw c.told.ensures (run-made _ _ _ _ _ _ c.runtime_run-steps.ensures)
