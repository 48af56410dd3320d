-- What is looked for stands in the lines to come.
use mathlib.Core.Path.{◌≡◌}
use lib.ListN.{drop}
use Rattle.assembly.specs.Lines.{as_lines, place_of}
use Rattle.assembly.proofs.lines.place_of.Given as goal

abbrev pub invariant-loop-i : goal.invariant-loop-i
invariant-loop-i l = place_of l.class l.left (as_lines (drop l.i l.lines)) l.i l.last ≡ place_of l.class l.before (as_lines (drop l.from l.lines)) l.from l.last
