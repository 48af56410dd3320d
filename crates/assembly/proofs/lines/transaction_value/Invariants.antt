-- What is looked for stands in the lines to come.
use mathlib.Core.Path.{◌≡◌}
use lib.ListN.{drop}
use Rattle.assembly.specs.Lines.{as_lines, transaction_value}
use Rattle.assembly.proofs.lines.transaction_value.Given as goal

abbrev pub invariant-loop-line : goal.invariant-loop-line
invariant-loop-line l = transaction_value l.name (as_lines (drop l.line-index l.lines)) ≡ transaction_value l.name (as_lines l.lines)
