-- The loop's invariant: what is left of the log decides. Assumes nothing.
use Prim.Native.Nat.{◌-◌, ◌≤◌}
use mathlib.Core.Path.{◌≡◌}
use Rattle.model.specs.Store.{find, find_from}
use Rattle.store.proofs.log.search.Given as goal

abbrev pub invariant-loop-pair : goal.invariant-loop-pair
invariant-loop-pair l = record {
  in_range : l.pair ≤ l.log_count;
  same : find_from l.log l.address l.pair (l.log_count - l.pair) ≡ find l.log l.log_count l.address;
}

abbrev pub decreases-loop-pair : goal.decreases-loop-pair
decreases-loop-pair l = l.log_count - l.pair
