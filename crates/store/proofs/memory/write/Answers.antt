-- `store::memory::write` meets its contract: the store is the one that `settled` makes, and the word is its index. Assumes nothing.
use mathlib.Core.Path.{refl}
use Rattle.model.specs.Store.{settled, stored_word, index}
use Rattle.store.proofs.memory.write.Goals as goal

pub returns : goal.returns
unfolding settled stored_word index
returns c = record { store = refl; stored = refl }
