-- `parts::memory_part` meets its contract. The invariant: so many lines are put. Assumes nothing.
use Prim.Native.Nat.{◌*◌, ◌+◌, ◌≤◌}
use Rattle.text.specs.Puts.{Puts}
use Rattle.trace.specs.Trace.{memory_lines}
use Rattle.trace.proofs.parts.memory_part.Given as goal

abbrev pub invariant-loop-k : goal.invariant-loop-k
invariant-loop-k l = record {
  end_bound : l.end ≤ l.at + 256 * l.k;
  puts : Puts l.initial.text l.at l.text l.end (memory_lines l.tabs l.number l.label l.memory l.k);
}
