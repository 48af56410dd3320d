-- `parts::decimal_cells` meets its contract. The invariant: so many words are put. Assumes nothing.
use Prim.Native.Nat.{◌*◌, ◌+◌, ◌≤◌}
use lib.ListN.{take}
use Rattle.text.specs.Puts.{Puts}
use Rattle.trace.specs.Trace.{decimal_cells}
use Rattle.trace.proofs.parts.decimal_cells.Given as goal

abbrev pub invariant-loop-word : goal.invariant-loop-word
invariant-loop-word l = record {
  end_bound : l.end ≤ l.at + 21 * l.word-index;
  puts : Puts l.initial.text l.at l.text l.end (decimal_cells (take l.word-index l.words));
}
