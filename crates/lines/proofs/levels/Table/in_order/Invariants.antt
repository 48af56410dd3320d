-- `levels::Table::in_order` meets its contract. The invariant: the rows so far stand in order. Assumes nothing.
use Rattle.std.proofs.Common.{◌≡◌}
use Rattle.lines.proofs.OrderLaws.{Ordered}
use Rattle.lines.specs.Lines.{rows}
use Rattle.lines.proofs.levels.Table.in_order.Given as goal

abbrev pub invariant-loop-row : goal.invariant-loop-row
invariant-loop-row l = (l.row-end ≡ rows l.self.words.now) × Ordered l.self.words.now l.row l.from l.next
