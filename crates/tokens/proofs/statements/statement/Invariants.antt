-- The statement stands at n or behind.
use Prim.Native.Nat.{◌+◌}
use mathlib.Core.Path.{◌≡◌}
use lib.ListN.{drop}
use Rattle.tokens.specs.Tokens.{statement_names, all_named, number_of}
use Rattle.tokens.proofs.statements.statement.Given as goal

abbrev pub invariant-loop-n : goal.invariant-loop-n
invariant-loop-n l = number_of (drop l.n (all_named statement_names)) l.first (l.n + 1) ≡ number_of (all_named statement_names) l.first 1
