-- `kinds::post` meets its contract. Assumes nothing.
use Rattle.machine.proofs.MadeLaws.{post_made}
use Rattle.machine.proofs.kinds.post.Goals as goal

pub returns : goal.returns
returns c = rw (c.told.ensures, ← c.word-event.ensures, ← c.word-datum.ensures) (post_made _ _ _ _ _ c.runtime_post.ensures)
