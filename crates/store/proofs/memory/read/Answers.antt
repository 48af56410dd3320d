-- `store::memory::read` meets its contract: the word lies in the memory part. Assumes nothing.
use Rattle.model.specs.Store.{memory_at}
use Rattle.store.proofs.Parts.{word_part}
use Rattle.store.proofs.memory.read.Goals as goal

pub returns : goal.returns
returns c = word_part c.args.store.now memory_at _ c.args.address c.requires.address_bound
