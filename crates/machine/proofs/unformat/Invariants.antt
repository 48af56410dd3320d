-- `unformat` meets its contract. The invariant: so many words are made. Assumes nothing.
use Rattle.std.proofs.Common.{◌≡◌, length, take}
use Rattle.machine.specs.Machine.{unformatted}
use Rattle.machine.proofs.unformat.Given as goal

abbrev pub invariant-loop-i : goal.invariant-loop-i
invariant-loop-i l = (length l.store ≡ length l.initial.store) × (take l.i l.store ≡ unformatted l.i)
