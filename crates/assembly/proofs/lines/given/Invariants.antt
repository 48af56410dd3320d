-- What is looked for stands in the lines to come.
use mathlib.Core.Path.{◌≡◌}
use lib.ListN.{drop}
use Rattle.assembly.specs.Lines.{as_lines, given}
use Rattle.assembly.proofs.lines.given.Given as goal

abbrev pub invariant-loop-line : goal.invariant-loop-line
invariant-loop-line l = given l.statement (as_lines (drop l.line-index l.lines)) ≡ given l.statement (as_lines l.lines)
