-- `kinds::burst` meets its contract: the array is what stands behind the count. Assumes nothing.
use Rattle.machine.proofs.MadeLaws.{post_made}
use Rattle.machine.proofs.WordLaws.{behind-count}
use Rattle.machine.proofs.kinds.burst.Goals as goal

pub returns : goal.returns
returns c = rw (c.told.ensures, behind-count c.args.numbers.now c.requires) (post_made _ _ _ _ _ c.runtime_burst.ensures)
