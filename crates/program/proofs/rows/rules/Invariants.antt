-- `rows::rules` meets its contract. The invariant: what is left of the rows decides the answer. The measure is how many are left.
-- Assumes nothing.
use Prim.Native.Nat.{◌-◌, ◌≤◌}
use mathlib.Core.Path.{◌≡◌}
use Rattle.model.specs.Check.{row_rule}
use Rattle.model.specs.Program.{bodies}
use Rattle.model.specs.Test.{each}
use Rattle.program.proofs.rows.rules.Given as goal

abbrev pub invariant-loop-body_number : goal.invariant-loop-body_number
invariant-loop-body_number l = (l.body_number-end ≡ bodies l.program) × (l.body_number ≤ l.body_number-end) × (each (row_rule l.program) l.body_number (l.body_number-end - l.body_number) ≡ each (row_rule l.program) 0 l.body_number-end)
