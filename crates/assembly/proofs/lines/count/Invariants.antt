-- The lines so far are counted.
use Prim.Native.Nat.{◌≤◌}
use mathlib.Core.Path.{◌≡◌}
use lib.ListN.{drop}
use Rattle.assembly.specs.Lines.{as_lines, count_from}
use Rattle.assembly.proofs.lines.count.Given as goal

abbrev pub invariant-loop-line : goal.invariant-loop-line
invariant-loop-line l = record {
  most : l.counted ≤ l.line-index;
  all : count_from l.class (as_lines (drop l.line-index l.lines)) l.counted ≡ count_from l.class (as_lines l.lines) 0;
}
