-- The instructions so far are counted, and no body came.
use Prim.Native.Nat.{◌≤◌}
use mathlib.Core.Path.{◌≡◌}
use lib.ListN.{drop}
use Rattle.assembly.specs.Lines.{as_lines, body_count}
use Rattle.assembly.proofs.lines.body_count.Given as goal

abbrev pub invariant-loop-line : goal.invariant-loop-line
invariant-loop-line l = record {
  most : l.counted ≤ l.line-index;
  all : body_count (as_lines (drop l.line-index l.lines)) l.counted ≡ body_count (as_lines l.lines) 0;
}
