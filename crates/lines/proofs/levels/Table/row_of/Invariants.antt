-- `levels::Table::row_of` meets its contract. The invariant: the search of what is left of the rows ends where the whole search does. Assumes nothing.
use Rattle.std.proofs.Common.{◌≡◌, ◌-◌}
use Rattle.lines.specs.Lines.{rows, covers, first, row_of}
use Rattle.lines.proofs.levels.Table.row_of.Given as goal

abbrev pub invariant-loop-row : goal.invariant-loop-row
invariant-loop-row l = (l.row-end ≡ rows l.self.words.now) × (first (covers l.self.words.now l.line l.level) l.row (l.row-end - l.row) ≡ row_of l.self.words.now l.line l.level)
