-- The loop's invariant: the rules passed are obeyed. Assumes nothing.
use Prim.Native.Nat.{◌≤◌}
use mathlib.Core.Path.{◌≡◌}
use Rattle.model.specs.Control.{obey_all, up_to, address_rule}
use Rattle.model.specs.Store.{view}
use Rattle.model.specs.Types.{Ok}
use Rattle.control.proofs.addresses.Given as goal

abbrev pub invariant-loop-pair : goal.invariant-loop-pair
invariant-loop-pair l = record {
  in_range : l.pair ≤ l.pair-end;
  obeyed : obey_all (up_to (address_rule l.program (view l.store)) l.pair) ≡ Ok tt;
}
