-- `levels::Table::overlaps` meets its contract. The invariant: it is the lowest place that two of the rows so far share. Assumes nothing.
use Rattle.std.proofs.Common.{◌≡◌}
use Rattle.lines.specs.Inside.{Least, SharedAmong}
use Rattle.lines.specs.Lines.{rows}
use Rattle.lines.proofs.levels.Table.overlaps.Given as goal

abbrev pub invariant-loop-row : goal.invariant-loop-row
invariant-loop-row l = (l.row-end ≡ rows l.self.words.now) × Least (SharedAmong l.self.words.now l.row) 1048576 l.lowest
