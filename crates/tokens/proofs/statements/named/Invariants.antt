-- The value with the characters to come spells the name.
use Prim.Native.Nat.{◌^◌, ◌<◌}
use mathlib.Core.Path.{◌≡◌}
use lib.ListN.{drop}
use Rattle.tokens.specs.Tokens.{spelled}
use Rattle.tokens.proofs.statements.named.Given as goal

abbrev pub invariant-loop-byte : goal.invariant-loop-byte
invariant-loop-byte l = record {
  small_value : l.value < 38 ^ l.byte-index;
  spelled : spelled l.value (drop l.byte-index l.bytes) ≡ spelled 0 l.bytes;
}
