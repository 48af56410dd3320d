-- `calls::recover` meets its contract. The invariant: the steps that are left, from here, lead where all of them lead. Assumes nothing.
use Prim.Native.Nat.{◌-◌}
use mathlib.Core.Path.{◌≡◌}
use Rattle.model.specs.Calls.{after_calls}
use Rattle.model.specs.Calls.{steps as steps_of}
use Rattle.sheet.proofs.calls.recover.Given as goal

abbrev pub invariant-loop-made : goal.invariant-loop-made
invariant-loop-made l = after_calls l.program l.store l.device (steps_of (l.steps - l.made)) ≡ after_calls l.program l.initial.store l.initial.device (steps_of l.steps)
