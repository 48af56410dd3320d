-- `levels::Table::lowest_shared` meets its contract. The invariant: it is the lowest place shared with the rows so far. Assumes nothing.
use Rattle.lines.specs.Inside.{Least, SharedBelow}
use Rattle.lines.proofs.levels.Table.lowest_shared.Given as goal

abbrev pub invariant-loop-other : goal.invariant-loop-other
invariant-loop-other l = Least (SharedBelow l.self.words.now l.row l.other) l.lowest l.least
