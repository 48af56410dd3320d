-- The instructions of the lines so far are put.
use Prim.Native.Nat.{◌+◌, ◌*◌, ◌≤◌}
use mathlib.Core.Path.{◌≡◌}
use lib.ListN.{length}
use Rattle.text.specs.Puts.{Puts}
use Rattle.tokens.specs.Tokens.{all_numbers}
use Rattle.assembly.specs.Lines.{lines_at, instruction_line, count, body_start}
use Rattle.assembly.specs.Words.{body_words}
use Rattle.assembly.proofs.emit.put_bodies.Given as goal

abbrev pub invariant-loop-i : goal.invariant-loop-i
invariant-loop-i l = record {
  same_length : length l.words ≡ length l.initial.words;
  end_is : l.end ≡ l.at + 2 * count instruction_line (lines_at (all_numbers l.lines) 0 l.i);
  puts : Puts l.initial.words l.at l.words l.end (body_words (all_numbers l.lines) (length l.lines) l.i);
  start_le_i : l.start ≤ l.i;
  start : l.start ≡ body_start (all_numbers l.lines) l.i;
}
