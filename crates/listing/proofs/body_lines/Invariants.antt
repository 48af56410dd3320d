-- So many bodies are put. Assumes nothing.
use Prim.Native.Nat.{◌+◌, ◌*◌, ◌≤◌}
use mathlib.Core.Path.{◌≡◌}
use lib.ListN.{length}
use Rattle.listing.specs.Listing.{body_lines}
use Rattle.text.specs.Puts.{Puts}
use Rattle.listing.proofs.body_lines.Given as goal

abbrev pub invariant-loop-number : goal.invariant-loop-number
invariant-loop-number l = record {
  same_length : length l.text ≡ length l.initial.text;
  most : l.end ≤ l.at + 10280 * l.number;
  puts : Puts l.initial.text l.at l.text l.end (body_lines l.program l.number);
}
