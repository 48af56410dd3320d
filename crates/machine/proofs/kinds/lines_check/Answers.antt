-- `kinds::lines_check` meets its contract. Assumes nothing.
use Rattle.machine.proofs.kinds.lines_check.Goals as goal

pub returns : goal.returns
returns c = rw c.runtime_lines_check.ensures at c.told.ensures
