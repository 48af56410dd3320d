-- `finish` meets its contract. The invariant: the steps that are left, from here, lead where all of them lead. Assumes nothing.
use Rattle.std.proofs.Common.{◌≡◌, ◌-◌, length}
use Rattle.model.specs.Calls.{finish}
use Rattle.recovery.proofs.finish.Given as goal

abbrev pub invariant-loop-made : goal.invariant-loop-made
invariant-loop-made l = (length l.store ≡ length l.initial.store) × (finish l.program (l.allowed - l.made) l.made l.store l.state ≡ finish l.program l.allowed 0 l.initial.store l.initial.state)
