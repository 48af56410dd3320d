-- The lines of so many numbers are put. Assumes nothing.
use Prim.Native.Nat.{◌+◌, ◌*◌, ◌≤◌}
use mathlib.Core.Path.{◌≡◌}
use lib.ListN.{length}
use Rattle.listing.specs.Listing.{transaction_lines}
use Rattle.text.specs.Puts.{Puts}
use Rattle.listing.proofs.transaction_lines.Given as goal

abbrev pub invariant-loop-n : goal.invariant-loop-n
invariant-loop-n l = record {
  same_length : length l.text ≡ length l.initial.text;
  most : l.end ≤ l.at + 40 * l.n;
  puts : Puts l.initial.text l.at l.text l.end (transaction_lines l.program l.n);
}
