-- `store::log::write_address` meets its contract: a store to the log part that was lent is the one that `settled`
-- makes, and the word is its index. Assumes nothing.
use Prim.Native.Nat.{◌*◌}
use native.Mathlib.Omega.{arith}
use Rattle.model.specs.Store.{settled, stored_word, index}
use Rattle.store.proofs.Parts.{log_written}
use Rattle.store.proofs.log.write_address.Goals as goal

pub returns : goal.returns
unfolding settled stored_word index
returns c =
    record {
      store =
          log_written c.args.store.now c.requires.shaped (2 * c.args.pair) c.args.address c.save_address.new.log
          (omega arith) c.save_address.ensures;
      stored = rw c.requires.shaped.log_start;
    }
