-- What is looked for stands in the lines to come.
use Prim.Native.Nat.{◌≤◌}
use mathlib.Core.Path.{◌≡◌}
use lib.ListN.{drop}
use Rattle.assembly.specs.Lines.{as_lines, label_number}
use Rattle.assembly.proofs.lines.label_number.Given as goal

abbrev pub invariant-loop-line : goal.invariant-loop-line
invariant-loop-line l = record {
  most : l.number ≤ l.line-index;
  to_come : label_number l.name (as_lines (drop l.line-index l.lines)) l.number ≡ label_number l.name (as_lines l.lines) 0;
}
