-- The loop's invariant: what 8 says of the records left is what it says of all. Assumes nothing.
use Prim.Native.Nat.{◌≤◌, ◌-◌}
use mathlib.Core.Path.{◌≡◌}
use Rattle.model.specs.Burst.{events_rule, records_at, carried}
use Rattle.device.proofs.burst.events.Given as goal

abbrev pub invariant-loop-position : goal.invariant-loop-position
invariant-loop-position l = record {
  in_range : l.position ≤ l.length;
  same : events_rule l.program l.position (records_at l.burst l.position (l.length - l.position)) ≡ events_rule l.program 0 (carried l.burst l.length);
}
