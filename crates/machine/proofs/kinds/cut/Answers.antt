-- `kinds::cut` meets its contract. Assumes nothing.
use Rattle.machine.proofs.kinds.cut.Goals as goal

pub returns : goal.returns
returns c = rw (c.runtime_cut.ensures.0, c.runtime_cut.ensures.1) at c.told.ensures
