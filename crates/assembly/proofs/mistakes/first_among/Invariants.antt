-- No line so far has a mistake.
use Prim.Native.Nat.{◌-◌, ◌≤◌}
use mathlib.Core.Path.{◌≡◌}
use lib.ListN.{length}
use Rattle.assembly.specs.Lines.{body_start}
use Rattle.assembly.specs.Mistakes.{first_among}
use Rattle.tokens.specs.Tokens.{all_numbers}
use Rattle.assembly.proofs.mistakes.first_among.Given as goal

abbrev pub invariant-loop-i : goal.invariant-loop-i
invariant-loop-i l = record {
  start_le_i : l.start ≤ l.i;
  start : l.start ≡ body_start (all_numbers l.lines) l.i;
  to_come : first_among (all_numbers l.lines) (length l.lines) l.i (length l.lines - l.i) ≡ first_among (all_numbers l.lines) (length l.lines) 0 (length l.lines);
}
