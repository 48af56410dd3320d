-- `store::queue::write_ahead` meets its contract: the store is the one that `settled` makes and the word is its index, at most once past the ring's
-- end; word 7 says where the queue starts. Assumes nothing.
use Rattle.model.specs.Types.{Some}
use mathlib.Core.Path.{ap, ◌∙◌}
use borrow.Author.Rules.{rules}
use Prim.Native.Nat.{ℕ, ◌+◌}
use lib.ListN.{set}
use Rattle.model.specs.Store.{settled, stored_word}
use Rattle.store.proofs.Ring.{word_in, word_ahead}
use Rattle.store.proofs.queue.write_ahead.Goals as goal

pub overflow_add-word : goal.overflow_add-word
overflow_add-word c = let below = word_in _ _ _ _ c.requires.slot_bound.0 c.requires.slot_bound.1 c.around.ensures in search rules

pub bounds-store-word : goal.bounds-store-word
bounds-store-word c = let below = word_in _ _ _ _ c.requires.slot_bound.0 c.requires.slot_bound.1 c.around.ensures in search rules

pub returns : goal.returns
unfolding settled stored_word
returns c =
    let s = c.args.store.now in
    let is = ap (λ (n : ℕ). n + c.around.result) c.requires.shaped.queue_start ∙ word_ahead _ _ _ _ c.requires.slot_bound.0 c.requires.slot_bound.1 c.around.ensures s in
    record { store = ap (λ (i : ℕ). set s i c.args.value) is; stored = ap Some is }
