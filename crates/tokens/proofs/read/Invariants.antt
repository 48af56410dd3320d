-- What the room has and what is to come are the text's lines.
use Prim.Native.Nat.{◌+◌}
use mathlib.Core.List.{◌++◌}
use mathlib.Core.Path.{◌≡◌}
use lib.ListN.{length, take, drop}
use Rattle.tokens.specs.Reads.{Small, KnownSoFar}
use Rattle.tokens.specs.Tokens.{lines as lines_of, lines_from, line_count, all_numbers}
use Rattle.tokens.proofs.read.Given as goal

abbrev pub invariant-loop-byte : goal.invariant-loop-byte
invariant-loop-byte l = record {
  same_length : length l.room ≡ length l.initial.room;
  small_value : Small l.progress.reading;
  known : KnownSoFar l.room l.progress;
  count : l.progress.done + line_count (drop l.byte-index l.text) ≡ line_count l.text;
  read : all_numbers (take l.progress.done l.room) ++ lines_from l.progress.reading (drop l.byte-index l.text) ≡ lines_of l.text;
}
