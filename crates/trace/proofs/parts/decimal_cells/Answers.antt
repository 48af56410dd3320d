-- `search` joins what is put, where the check's own `grind` looks at its parts.
use Rattle.std.proofs.Common.{rules}
use Rattle.trace.proofs.TraceLaws.{by_cell}
use Rattle.trace.proofs.parts.decimal_cells.Goals as goal

pub loop-word-init : goal.loop-word-init
loop-word-init c = search (rules, by_cell)

pub loop-word-preserved : goal.loop-word-preserved
loop-word-preserved c = search (rules, by_cell)
