-- What is looked for stands in the lines to come.
use mathlib.Core.Path.{◌≡◌}
use lib.ListN.{drop}
use Rattle.assembly.specs.Lines.{as_lines, has_label}
use Rattle.assembly.proofs.lines.has_label.Given as goal

abbrev pub invariant-loop-line : goal.invariant-loop-line
invariant-loop-line l = has_label l.name (as_lines (drop l.line-index l.lines)) ≡ has_label l.name (as_lines l.lines)
