-- The lines that have ended and those to come are all.
use Prim.Native.Nat.{◌+◌, ◌≤◌}
use mathlib.Core.Path.{◌≡◌}
use lib.ListN.{drop}
use Rattle.tokens.specs.Tokens.{line_count}
use Rattle.tokens.proofs.count.Given as goal

abbrev pub invariant-loop-byte : goal.invariant-loop-byte
invariant-loop-byte l = record {
  ended : l.lines ≤ l.byte-index + 1;
  all : l.lines + line_count (drop l.byte-index l.text) ≡ 1 + line_count l.text;
}
