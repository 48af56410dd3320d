-- `levels::Table::lowest_gap` meets its contract. The invariant: every level so far is covered. The measure is how many levels are left; each row gone to
-- lowers it. Assumes nothing.
use Rattle.std.proofs.Common.{ℕ, ◌-◌, ◌<◌}
use Rattle.lines.specs.Claims.{Covered}
use Rattle.lines.proofs.levels.Table.lowest_gap.Given as goal

abbrev pub invariant-loop-row : goal.invariant-loop-row
invariant-loop-row l = (l.level < 65536) × ((y : ℕ) → y < l.level → Covered l.self.words.now l.line y)

abbrev pub decreases-loop-row : goal.decreases-loop-row
decreases-loop-row l = 65536 - l.level
