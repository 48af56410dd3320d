-- `kinds::format` meets its contract. Assumes nothing.
use Rattle.machine.specs.Machine.{formats}
use Rattle.machine.proofs.kinds.format.Goals as goal

pub returns : goal.returns
unfolding formats
returns c = rw (c.told.ensures, c.runtime_format.ensures.0, c.runtime_format.ensures.1, c.word-log_pairs.ensures, c.word-queue_records.ensures)
