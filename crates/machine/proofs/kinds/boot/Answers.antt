-- `kinds::boot` meets its contract. Assumes nothing.
use Rattle.machine.proofs.MadeLaws.{boot-made}
use Rattle.machine.proofs.kinds.boot.Goals as goal

pub returns : goal.returns
returns c = rw c.told.ensures (boot-made _ _ _ _ c.runtime_boot.ensures)
