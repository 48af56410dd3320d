-- `rows::rules` meets its contract. The invariant: what is left of the rows decides the answer. Assumes nothing.
use Rattle.std.proofs.Common.{◌≡◌, ◌-◌, ◌≤◌}
use Rattle.model.specs.Test.{each}
use Rattle.lines.specs.Lines.{rows, row_rule, row_rules}
use Rattle.lines.proofs.rows.rules.Given as goal

abbrev pub invariant-loop-row : goal.invariant-loop-row
invariant-loop-row l = (l.row-end ≡ rows l.table) × (l.row ≤ 64) × (each (row_rule l.table) l.row (l.row-end - l.row) ≡ row_rules l.table)
