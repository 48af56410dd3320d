-- `names::named` meets its contract. The invariant: the bytes are none of the names before this one. Assumes nothing.
use Prim.Native.Nat.{◌+◌}
use mathlib.Core.Path.{◌≡◌}
use lib.ListN.{drop}
use Rattle.script.specs.Script.{names, name_number, number_from}
use Rattle.script.proofs.names.named.Given as goal

abbrev pub invariant-loop-name : goal.invariant-loop-name
invariant-loop-name l = number_from (drop l.name-index names) (l.name-index + 1) l.bytes ≡ name_number l.bytes
