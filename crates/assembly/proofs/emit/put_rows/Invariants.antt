-- The rows of the lines so far are put.
use Prim.Native.Nat.{◌+◌, ◌*◌}
use mathlib.Core.Path.{◌≡◌}
use lib.ListN.{length}
use Rattle.text.specs.Puts.{Puts}
use Rattle.tokens.specs.Tokens.{all_numbers}
use Rattle.assembly.specs.Lines.{lines_at, body_line, count}
use Rattle.assembly.specs.Words.{rows}
use Rattle.assembly.proofs.emit.put_rows.Given as goal

abbrev pub invariant-loop-i : goal.invariant-loop-i
invariant-loop-i l = record {
  same_length : length l.words ≡ length l.initial.words;
  end_is : l.end ≡ l.at + 3 * count body_line (lines_at (all_numbers l.lines) 0 l.i);
  puts : Puts l.initial.words l.at l.words l.end (rows (all_numbers l.lines) (length l.lines) l.i);
}
