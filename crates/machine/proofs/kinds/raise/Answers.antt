-- `kinds::raise` meets its contract: the table is what stands behind line and level. Assumes nothing.
use Rattle.machine.proofs.MadeLaws.{raise-made}
use Rattle.machine.proofs.WordLaws.{behind-two}
use Rattle.machine.specs.Machine.{raises}
use Rattle.machine.proofs.kinds.raise.Goals as goal

pub returns : goal.returns
unfolding raises
returns c =
    rw (c.told.ensures, ← c.word-line.ensures, ← c.word-level.ensures, behind-two c.args.numbers.now c.min-start.result c.min-start.ensures)
    (raise-made _ _ _ _ _ _ _ _ c.runtime_raise.ensures)
