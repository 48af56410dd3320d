-- So many lines are put. Assumes nothing.
use Prim.Native.Nat.{◌+◌, ◌*◌, ◌≤◌}
use mathlib.Core.Path.{◌≡◌}
use lib.ListN.{length}
use Rattle.listing.specs.Listing.{instruction_lines}
use Rattle.text.specs.Puts.{Puts}
use Rattle.listing.proofs.lines.lines.Given as goal

abbrev pub invariant-loop-number : goal.invariant-loop-number
invariant-loop-number l = record {
  same_length : length l.text ≡ length l.initial.text;
  most : l.end ≤ l.at + 40 * l.number;
  puts : Puts l.initial.text l.at l.text l.end (instruction_lines l.program l.body l.number);
}
