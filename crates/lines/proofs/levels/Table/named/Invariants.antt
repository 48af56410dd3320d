-- `levels::Table::named` meets its contract. The invariant: no row so far is of the line. Assumes nothing.
use Rattle.std.proofs.Common.{◌≡◌, ℕ, ◌<◌, false}
use Rattle.lines.specs.Lines.{rows, is_of}
use Rattle.lines.proofs.levels.Table.named.Given as goal

abbrev pub invariant-loop-row : goal.invariant-loop-row
invariant-loop-row l = (l.row-end ≡ rows l.self.words.now) × ((j : ℕ) → j < l.row → is_of l.self.words.now l.line j ≡ false)
