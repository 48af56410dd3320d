-- `kinds::check` meets its contract. Assumes nothing.
use Rattle.machine.proofs.kinds.check.Goals as goal

pub returns : goal.returns
returns c = rw c.runtime_check.ensures at c.told.ensures
