-- The loop's invariant: the rules passed are obeyed. Assumes nothing.
use Prim.Native.Nat.{◌≤◌}
use mathlib.Core.Path.{◌≡◌}
use Rattle.model.specs.Control.{obey_all, up_to, record_rule}
use Rattle.model.specs.Store.{view}
use Rattle.model.specs.Types.{Ok}
use Rattle.control.proofs.records.Given as goal

abbrev pub invariant-loop-slot : goal.invariant-loop-slot
invariant-loop-slot l = record {
  in_range : l.slot ≤ l.slot-end;
  obeyed : obey_all (up_to (record_rule l.program (view l.store)) l.slot) ≡ Ok tt;
}
